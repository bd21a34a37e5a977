use Rattle.std.proofs.Common.{refl}
use Rattle.scales.specs.Best.{insert, sorted}
use Rattle.scales.proofs.laws.worked_values.Goals as goal

pub returns-clause-best : goal.returns-clause-best
unfolding insert sorted
returns-clause-best c = (refl, refl)
