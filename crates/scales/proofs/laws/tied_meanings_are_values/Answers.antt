use Rattle.scales.proofs.MeaningsBack.{tied_back}
use Rattle.scales.proofs.laws.tied_meanings_are_values.Goals as goal

pub returns : goal.returns
returns g c = tied_back g.S.Scale.meaning
