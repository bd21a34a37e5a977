-- The way down a nest to the award, and the bytes that mark it.
--   IsBest, IsLowest          a clash-free set of greatest revenue, and the lowest number in any such set
--   taken, Descends, wins     what is open on the way down from the outermost packages, and which bids win
--   item, flag                entries of lists, counted from 1
--   Marks, marked             bytes that are 1 for the bids of a set and 0 for the others, and the set that bytes mark
use Rattle.std.specs.Prelude.{◌≡◌, ℕ, ◌-◌, ◌≤◌, Bool, true, false, cond, not, ◌&&◌, ◌||◌, List, length, ◌==◌, nat_le, slice_index, slice_index_or}
use Rattle.contest.specs.Contest.{Contest, Bids, Numbered, ClashFree, revenue, best_revenue}

-- A clash-free set of greatest revenue.
pub record IsBest (c : Contest) (s : Bids) : Type 0 where
  pub clash_free : ClashFree c s
  pub revenue_is : revenue c s ≡ best_revenue c

-- Number f is the lowest in any set of greatest revenue; it is no bid's number if these sets are empty.
pub record IsLowest (c : Contest) (f : ℕ) : Type 0 where
  pub reached : Numbered c f → (s : Bids) × IsBest c s × (s f ≡ true)
  pub least : (s : Bids) → IsBest c s → (k : ℕ) → s k ≡ true → Numbered c f × (f ≤ k)

-- The bid with the lowest number in any best choice inside g lies on g itself, so that it takes the whole of g.
abbrev pub taken : ℕ → (ℕ → ℕ) → (ℕ → ℕ) → ℕ → Bool
taken count on low g = (nat_le 1 (low g) && nat_le (low g) count) && on (low g) == g

-- From the outermost packages down: a package is open if it is outermost, or if the one around it is open and not taken whole.
abbrev pub Descends : ℕ → ℕ → (ℕ → ℕ) → (ℕ → ℕ) → (ℕ → ℕ) → (ℕ → Bool) → Type 0
Descends count top on parent low opened = (g : ℕ) → 1 ≤ g → g ≤ top → opened g ≡ (parent g == 0 || (opened (parent g) && not (taken count on low (parent g))))

-- At an open package the bid with the lowest number in any best choice wins if it lies on that package, and no other bid on it does.
abbrev pub wins : (ℕ → ℕ) → (ℕ → ℕ) → (ℕ → Bool) → Bids
wins on low opened k = opened (on k) && low (on k) == k

-- Entry k of a list, counted from 1.
abbrev pub item : List ℕ → ℕ → ℕ
item xs k = slice_index xs (k - 1)

abbrev pub flag : List Bool → ℕ → Bool
flag xs k = slice_index_or xs (k - 1) false

-- The bytes are 1 for the bids in s and 0 for the others, and further bytes are as before.
pub record Marks (n : ℕ) (s : Bids) (before after : List ℕ) : Type 0 where
  pub same_length : length after ≡ length before
  pub bytes : (k : ℕ) → 1 ≤ k → k ≤ n → item after k ≡ cond (s k) 1 0
  pub further : (i : ℕ) → n ≤ i → slice_index after i ≡ slice_index before i

-- The bids whose byte is 1.
abbrev pub marked : List ℕ → Bids
marked bytes k = item bytes k == 1
