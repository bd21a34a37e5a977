use Rattle.std.proofs.Common.{refl}
use Rattle.packages.specs.Lots.{has, all, empty, within, apart, fits_in}
use Rattle.packages.specs.Nest.{relation_of, place_of}
use Rattle.packages.specs.Examples.{MasksWorked}
use Rattle.packages.specs.SetsLemmas.{exact}
use Rattle.packages.proofs.Places.{place_right}
use Rattle.packages.proofs.laws.tests_are_exact.Goals as goal

masks_worked : MasksWorked
unfolding has all empty within apart fits_in relation_of place_of
masks_worked = record { lots_of_five = refl; all_fit = refl; first = refl; inside = refl; crossing = refl; around = refl; equal = refl }

pub returns : goal.returns
returns c = record { sets = exact; place = place_right; masks = masks_worked }
