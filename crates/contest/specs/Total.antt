-- The total of the clash-free sets of a contest, in a semiring.
--   from, subsets, keep     numbers in a row, all subsets of a list, and what of a list passes a test
--   apart, clash_free       whether a bid clashes with none of a list, and whether no two of a list clash
--   sum_by, product_by      the sum and the product of what each of a list is worth
--   worth                   the worth of a bid, where a list has one for each
--   total_by, total         the sum over the clash-free subsets of all bids of the products of their worths
use Rattle.std.specs.Prelude.{ℕ, zero, suc, Bool, true, cond, not, ◌&&◌, List, [], ◌∷◌, ◌++◌, map, slice_index_or}
use Rattle.scales.specs.Semiring.{Semiring}
use Rattle.contest.specs.Contest.{Contest}

-- `count` numbers from `first` on
abbrev pub from : ℕ → ℕ → List ℕ
from first zero = []
from first (suc count) = first ∷ from (suc first) count

abbrev pub subsets : {A : Type 0} → List A → List (List A)
subsets [] = [] ∷ []
subsets (b ∷ bs) = subsets bs ++ map (λ s. b ∷ s) (subsets bs)

abbrev pub keep : {A : Type 0} → (A → Bool) → List A → List A
keep p [] = []
keep p (x ∷ xs) = cond (p x) (x ∷ keep p xs) (keep p xs)

-- Bid b clashes with none of the list, whose numbers are higher.
abbrev pub apart : (ℕ → ℕ → Bool) → ℕ → List ℕ → Bool
apart clash b [] = true
apart clash b (x ∷ xs) = not (clash b x) && apart clash b xs

-- Each stands, and no two of the list, which rises, clash.
abbrev pub clash_free : (ℕ → Bool) → (ℕ → ℕ → Bool) → List ℕ → Bool
clash_free stands clash [] = true
clash_free stands clash (b ∷ bs) = stands b && (apart clash b bs && clash_free stands clash bs)

module _ {M : Type 0} (r : Semiring M) where
  abbrev pub sum_by : {A : Type 0} → (A → M) → List A → M
  sum_by f [] = r.nought
  sum_by f (x ∷ xs) = r.add (f x) (sum_by f xs)

  abbrev pub product_by : {A : Type 0} → (A → M) → List A → M
  product_by f [] = r.unit
  product_by f (x ∷ xs) = r.mul (f x) (product_by f xs)

  -- The worth of bid k is the k-th of the list.
  abbrev pub worth : List M → ℕ → M
  worth ws zero = r.nought
  worth ws (suc k) = slice_index_or ws k r.nought

  -- Go through all subsets of the bids, keep those that are clash-free, multiply the worths in each, and sum.
  abbrev pub total_by : Contest → (ℕ → M) → M
  total_by c w = sum_by (product_by w) (keep (clash_free c.stands c.clash) (subsets (from 1 c.count)))

  abbrev pub total : Contest → List M → M
  total c ws = total_by c (worth ws)
