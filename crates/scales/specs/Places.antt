-- Amounts in places, some of which may be empty.
--   in_front  the amount that is there, if any, in front of a list
--   somes     the amounts that are there
--   Packed    of three places the empty ones come last
--   ◌≼◌       at most as great, none being below every amount
--   Falls     no place is greater than the one before it
use Rattle.std.specs.Prelude.{◌≡◌, ℕ, ◌≤◌, List, [], ◌∷◌, Some, None, Option, slice_get}

abbrev pub in_front : Option ℕ → List ℕ → List ℕ
in_front None xs = xs
in_front (Some x) xs = x ∷ xs

abbrev pub somes : List (Option ℕ) → List ℕ
somes [] = []
somes (o ∷ os) = in_front o (somes os)

-- the first, second and third of the amounts that are there stand at the first, second and third place
abbrev pub Packed : List (Option ℕ) → Type 0
Packed os = os ≡ slice_get (somes os) 0 ∷ slice_get (somes os) 1 ∷ slice_get (somes os) 2 ∷ []

abbrev pub ◌≼◌ : Option ℕ → Option ℕ → Type 0
None ≼ b = Unit {0}
Some x ≼ None = ⊥
Some x ≼ Some y = x ≤ y

infix 40 ◌≼◌
abbrev pub Falls : List (Option ℕ) → Type 0
Falls [] = Unit {0}
Falls (p ∷ []) = Unit {0}
Falls (p ∷ q ∷ ps) = (q ≼ p) × Falls (q ∷ ps)
