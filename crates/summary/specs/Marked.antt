-- Bids with bytes that mark which of them win.
--   AwardMarked   the bids are those of a contest, and the bytes mark its award
use Rattle.std.specs.Prelude.{◌≡◌, ℕ, List, length}
use Rattle.bids.specs.declared.bid.Bid.{Bid}
use Rattle.bids.specs.Bids.{bid_at}
use Rattle.contest.specs.Contest.{Contest, Numbered, award}
use Rattle.contest.specs.Descent.{marked}

pub record AwardMarked (c : Contest) (bids : List Bid) (marks : List ℕ) : Type 0 where
  pub count : c.count ≡ length bids
  pub buyers : (k : ℕ) → Numbered c k → c.buyer k ≡ (bid_at bids k).buyer
  pub prices : (k : ℕ) → Numbered c k → c.price k ≡ (bid_at bids k).price
  pub award : (k : ℕ) → Numbered c k → marked marks k ≡ award c k
