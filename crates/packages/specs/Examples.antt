-- The masks 5, 4, 6 and 7 among 3 lots, worked out of the definitions.
--   MasksWorked   which lots they are, that they fit, and where each stands after 5
use Rattle.std.specs.Prelude.{◌≡◌, true, false, List, [], ◌∷◌, map, Some, None, Ok, Err}
use Rattle.packages.specs.declared.place.Conflict.TheVariants.{Equal, Crossing, Around}
use Rattle.packages.specs.Lots.{Lots, has, fits_in, mask_lots}
use Rattle.packages.specs.Nest.{place_of}

-- the masks that follow have mask 5, the lots 1 and 3, as the one package before them
abbrev after_five : List Lots
after_five = mask_lots 5 ∷ []

pub record MasksWorked : Type 0 where
  pub lots_of_five : map (has (mask_lots 5)) (1 ∷ 2 ∷ 3 ∷ []) ≡ true ∷ false ∷ true ∷ []
  pub all_fit : map (λ bits. fits_in 3 (mask_lots bits)) (5 ∷ 4 ∷ 6 ∷ 7 ∷ []) ≡ true ∷ true ∷ true ∷ true ∷ []
  pub first : place_of (mask_lots 5) [] ≡ Ok None
  pub inside : place_of (mask_lots 4) after_five ≡ Ok (Some 1)
  pub crossing : place_of (mask_lots 6) after_five ≡ Err (Crossing 1)
  pub around : place_of (mask_lots 7) after_five ≡ Err (Around 1)
  pub equal : place_of (mask_lots 5) after_five ≡ Err (Equal 1)
