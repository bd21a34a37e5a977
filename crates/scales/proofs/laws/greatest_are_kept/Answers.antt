use Rattle.scales.specs.BestLaws.{keeps_greatest, only_greatest}
use Rattle.scales.proofs.laws.greatest_are_kept.Goals as goal

pub returns : goal.returns
returns c = record { keeps = keeps_greatest; only = only_greatest }
