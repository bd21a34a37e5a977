-- Where the parents of packages and the packages of bids lie.
--   up_to    a number from 1 to a limit, if there is one
--   Lower    the parent of each package is an earlier one
--   Placed   each bid is on one of the packages, at a price within the limit
use Rattle.std.specs.Prelude.{◌≡◌, ℕ, ◌<◌, ◌≤◌, Bool, true, List, length, Some, None, Option, slice_index_or}
use Rattle.bids.specs.declared.bid.Bid.{Bid}
use Rattle.bids.specs.Bids.{no_bid}
use Rattle.bids.specs.Limits.{from_to, highest_price}

abbrev pub up_to : ℕ → Option ℕ → Bool
up_to top None = true
up_to top (Some n) = from_to 1 top n

abbrev pub Lower : List (Option ℕ) → Type 0
Lower ps = (i : ℕ) → i < length ps → up_to i (slice_index_or ps i None) ≡ true

abbrev pub Placed : ℕ → List Bid → Type 0
Placed top bids =
    (i : ℕ) → i < length bids → (1 ≤ (slice_index_or bids i no_bid).«package») × ((slice_index_or bids i no_bid).«package» ≤ top) × ((slice_index_or bids i no_bid).price ≤ highest_price)
