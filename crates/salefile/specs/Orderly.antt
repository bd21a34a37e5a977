-- What every accepted file has: a sale can take up its packages and bids in their order.
--   Fits         a run is not empty and lies within the lots
--   Nests        a run is apart from an earlier one, or properly inside it
--   Orderly      the packages fit and nest, and the bids are within the limits and on packages
--   AllOrderly   so is every accepted file
--   InNest       the same of the packages as sets of lots: they are a nest, and the bids are on them
--   AllNested    so is every accepted file
use Rattle.std.specs.Prelude.{ℕ, ◌<◌, ◌≤◌, ◌⊎◌, List, length, ◌≢◌, slice_index_or}
use Rattle.packages.specs.declared.run.Run.{Run}
use Rattle.bids.specs.Limits.{max_bids}
use Rattle.salefile.specs.Limits.{max_bytes}
use Rattle.bids.specs.declared.bid.Bid.{Bid}
use Rattle.bids.specs.Bids.{bid_at}
use Rattle.packages.specs.Places.{package_at, Numbered, Beside, ContainersFirst}
use Rattle.packages.specs.Sets.{Fits as WithinLots}
use Rattle.salefile.specs.FileContents.{FileContents, package_sets}
use Rattle.salefile.specs.Files.{Accepted, InRange}

-- a run of lots from 1 to n, not empty
abbrev pub Fits : ℕ → Run → Type 0
Fits n r = (1 ≤ r.first) × (r.first ≤ r.last) × (r.last ≤ n)

-- r has no lot of the earlier run e, or lies inside it and is not all of it
abbrev pub Nests : Run → Run → Type 0
Nests e r = (e.last < r.first) ⊎ ((e.first ≤ r.first) × (r.last ≤ e.last) × (e ≢ r))

pub record Orderly (space : ℕ) (c : FileContents) : Type 0 where
  pub few_lots : c.lots ≤ max_bytes
  pub few_packages : length c.packages ≤ space
  pub fits : (k : ℕ) (d : Run) → k < length c.packages → Fits c.lots (slice_index_or c.packages k d)
  pub nests : (j k : ℕ) (d : Run) → j < k → k < length c.packages → Nests (slice_index_or c.packages j d) (slice_index_or c.packages k d)
  pub few_bids : length c.bids ≤ max_bids
  pub in_range : (k : ℕ) (d : Bid) → k < length c.bids → InRange (slice_index_or c.bids k d).buyer (slice_index_or c.bids k d).price
  pub on_package : (k : ℕ) (d : Bid) → k < length c.bids → (1 ≤ (slice_index_or c.bids k d).«package») × ((slice_index_or c.bids k d).«package» ≤ length c.packages)

abbrev pub AllOrderly : Type 0
AllOrderly = (file : List ℕ) (space : ℕ) (c : FileContents) → Accepted file space c → Orderly space c

-- Packages and bids are numbered from 1.
pub record InNest (c : FileContents) : Type 0 where
  -- no two packages are equal, none cross, and a containing package has the lower number
  pub nest : ContainersFirst (package_sets c)
  -- any two are apart, or the later is inside the earlier
  pub apart_or_inside : (f g : ℕ) → Numbered (package_sets c) f → Numbered (package_sets c) g → f < g → Beside (package_at (package_sets c) g) (package_sets c) f
  -- every package is non-empty and within the lots
  pub fits : (g : ℕ) → Numbered (package_sets c) g → WithinLots c.lots (package_at (package_sets c) g)
  -- every bid names one of the packages
  pub bids : (n : ℕ) → 1 ≤ n → n ≤ length c.bids → Numbered (package_sets c) (bid_at c.bids n).«package»

abbrev pub AllNested : Type 0
AllNested = (file : List ℕ) (space : ℕ) (c : FileContents) → Accepted file space c → InNest c
