-- The standing bids of each package, chained from the highest number down.
--   bids_on   whether a bid stands and is on a package
--   own_in    the sum of the worths of the standing bids on a package
--   last_on   the highest standing bid on a package among bids 1 to n, or 0
--   Chained   lists that hold the highest bid of each package, and below each bid the next one on its package
use Rattle.std.specs.Prelude.{◌≡◌, ℕ, zero, suc, ◌-◌, ◌<◌, ◌≤◌, Bool, false, cond, ◌&&◌, List, length, ◌==◌, slice_index, slice_index_or}
use Rattle.bids.specs.declared.bid.Bid.{Bid}
use Rattle.bids.specs.Bids.{no_bid}
use Rattle.scales.specs.Semiring.{Semiring}
use Rattle.contest.specs.Total.{from, keep, sum_by}
use Rattle.nest.specs.Contests.{on_in, stands_in}

abbrev pub bids_on : List Bid → ℕ → ℕ → Bool
bids_on bids g n = stands_in bids n && on_in bids n == g

abbrev pub own_in : {M : Type 0} → Semiring M → List Bid → (ℕ → M) → ℕ → M
own_in r bids w g = sum_by r w (keep (bids_on bids g) (from 1 (length bids)))

abbrev pub last_on : List Bid → ℕ → ℕ → ℕ
last_on bids g zero = 0
last_on bids g (suc n) = cond (bids_on bids g (suc n)) (suc n) (last_on bids g n)

-- So far as the first n bids go, for the packages 1 to `top`.
pub record Chained (top : ℕ) (bids : List Bid) (last before : List ℕ) (n : ℕ) : Type 0 where
  pub lasts : (g : ℕ) → 1 ≤ g → g ≤ top → slice_index last (g - 1) ≡ last_on bids g n
  pub befores : (i : ℕ) → i < n → (slice_index_or bids i no_bid).withdrawn ≡ false → slice_index before i ≡ last_on bids (slice_index_or bids i no_bid).«package» i
