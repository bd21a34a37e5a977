-- What award answers from a book, and what it writes.
--   size_in   the number of lots of a bid's package, from lists of packages and bids
--   AwardIs   the answer and the bytes of an accepted call
--   Awarded   the outcome of a call
use Rattle.std.specs.Prelude.{◌≡◌, ℕ, List, length, Result}
use Rattle.bids.specs.declared.bid.Bid.{Bid}
use Rattle.bids.specs.Bids.{bid_at}
use Rattle.packages.specs.Lots.{Lots, size_of}
use Rattle.packages.specs.Places.{package_at}
use Rattle.contest.specs.Contest.{award, best_revenue, winners}
use Rattle.contest.specs.Descent.{Marks}
use Rattle.nest.specs.declared.fault.AwardFault.{AwardFault}
use Rattle.nest.specs.Awards.{award_refusal, award_check}
use Rattle.nest.specs.Checked.{Checked}
use Rattle.books.specs.Book.{Book}
use Rattle.books.specs.Contests.{contest_of}
use Rattle.books.specs.Sold.{lots_sold}

abbrev pub size_in : List Lots → List Bid → ℕ → ℕ
size_in packages bids n = size_of (package_at packages (bid_at bids n).«package»)

-- The bytes mark the award, and the answer is its revenue, the number of winning bids and the lots that they sell.
pub record AwardIs (b : Book) (before after : List ℕ) (answer : ℕ × ℕ × ℕ) : Type 0 where
  pub bytes : Marks (length b.bids) (award (contest_of b)) before after
  pub revenue : answer.0 ≡ best_revenue (contest_of b)
  pub winning : answer.1 ≡ winners (contest_of b)
  pub lots : answer.2 ≡ lots_sold b (award (contest_of b))

-- After a refusal the bytes are as before.
abbrev pub Awarded : Book → List ℕ → List ℕ → Result (ℕ × ℕ × ℕ) AwardFault → Type 0
Awarded b before after = Checked award_refusal (award_check (length b.bids) (length before)) (AwardIs b before after) (after ≡ before)
