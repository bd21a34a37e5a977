-- Semirings that carry the best revenue with the lowest bid number.
--   lesser                the lesser of two bid numbers, 0 being none
--   Choices               when the values of a semiring are amounts with bid numbers
--   Choice, choices       the tied scale over that of lowest numbers, which is such a semiring
--   first_of, choose      a bid as a choice of its own
--   amount_of, number_of  the amount and the lowest bid number of a choice
use Rattle.std.specs.Prelude.{◌≡◌, ℕ, zero, suc, ◌+◌, ◌<◌, min, cond, Some, None, Option, ◌==◌}
use Rattle.scales.specs.Semiring.{Semiring}
use Rattle.scales.specs.Adjoined.{adjoined}
use Rattle.scales.specs.Tied.{Tie, over, amount, tie, ties}
use Rattle.scales.specs.Lowest.{First, no_bid, bid, lowests}

-- The lesser of two bid numbers, 0 being none.
abbrev pub lesser : ℕ → ℕ → ℕ
lesser x y = cond (x == 0) y (cond (y == 0) x (min x y))

-- Values best a x of a semiring are amounts with the lowest bid number of a choice that fetches them. In a sum the greater amount counts, and of equal amounts the lesser number; in a product amounts below the limit add up.
pub record Choices {M : Type 0} (r : Semiring M) (best : ℕ → ℕ → M) (limit : ℕ) : Type 0 where
  pub add_nought : (v : M) → r.add v r.nought ≡ v
  pub unit_is : r.unit ≡ best 0 0
  pub add_less : (a x b y : ℕ) → b < limit → a < b → r.add (best a x) (best b y) ≡ best b y
  pub add_more : (a x b y : ℕ) → a < limit → b < a → r.add (best a x) (best b y) ≡ best a x
  pub add_equal : (a x y : ℕ) → a < limit → r.add (best a x) (best a y) ≡ best a (lesser x y)
  pub mul_is : (a x b y : ℕ) → a + b < limit → r.mul (best a x) (best b y) ≡ best (a + b) (lesser x y)

abbrev pub Choice : ℕ → Type 0
Choice limit = Option (Tie limit (Option First))

abbrev pub choices : (limit : ℕ) → Semiring (Choice limit)
choices limit = adjoined (ties limit lowests)

-- A number as a first bid, 0 being none.
abbrev pub first_of : ℕ → First
first_of zero = no_bid
first_of (suc k) = bid (suc k)

-- Bid number k at price p, as a choice.
abbrev pub choose : (limit : ℕ) → ℕ → ℕ → Choice limit
choose limit p k = Some (tie limit p (Some (first_of k)))

-- The amount of a choice, and the lowest bid number, or 0.
abbrev pub amount_of : {limit : ℕ} → Choice limit → ℕ
amount_of None = 0
amount_of (Some over) = 0
amount_of (Some (amount n h x)) = n

abbrev pub number_of : {limit : ℕ} → Choice limit → ℕ
number_of None = 0
number_of (Some over) = 0
number_of (Some (amount n h None)) = 0
number_of (Some (amount n h (Some no_bid))) = 0
number_of (Some (amount n h (Some (bid k)))) = k
