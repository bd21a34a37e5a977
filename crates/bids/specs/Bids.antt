-- Lists of bids, numbered from 1.
--   new_bid   a bid that stands
--   marked    the same bid, withdrawn
--   no_bid    what stands past the end of a list of bids
--   bid_at    the bid with a number
use Rattle.std.specs.Prelude.{ℕ, ◌-◌, true, false, List, slice_index_or}
use Rattle.bids.specs.declared.bid.Bid.{Bid}

abbrev pub new_bid : ℕ → ℕ → ℕ → Bid
new_bid buyer price on = record { buyer = buyer; price = price; «package» = on; withdrawn = false }

abbrev pub marked : Bid → Bid
marked b = record { buyer = b.buyer; price = b.price; «package» = b.«package»; withdrawn = true }

abbrev pub no_bid : Bid
no_bid = record { buyer = 0; price = 0; «package» = 0; withdrawn = false }

abbrev pub bid_at : List Bid → ℕ → Bid
bid_at bids n = slice_index_or bids (n - 1) no_bid
