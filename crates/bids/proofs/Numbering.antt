-- Bids by number, from 1, and by place in their list, from 0.
use Rattle.std.proofs.Common.{◌≡◌, ℕ, ◌+◌, ◌-◌, List, get_or, ap, arith}
use Rattle.bids.specs.declared.bid.Bid.{Bid}
use Rattle.bids.specs.Bids.{no_bid, bid_at}

pub bid_next : (bids : List Bid) (n : ℕ) → bid_at bids (n + 1) ≡ get_or bids n no_bid
bid_next bids n = let e : n + 1 - 1 ≡ n = omega arith in ap (λ i. get_or bids i no_bid) e
