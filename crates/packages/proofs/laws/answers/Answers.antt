use Rattle.packages.specs.SetsLemmas.{true_answers}
use Rattle.packages.proofs.laws.answers.Goals as goal

pub returns : goal.returns
returns g c = true_answers _ _ _ _ _ c.fits.ensures c.compare.ensures
