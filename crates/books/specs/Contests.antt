-- The contest of a book: its numbered bids, which of them stand, and which clash.
--   lots_of      the lots of the package of a bid
--   contest_of   the contest of a book
--   contest_at   the contest at the end of a history
--   contest_within  the contest of the bids on a package and on packages inside it only
use Rattle.std.specs.Prelude.{ℕ, not, length}
use Rattle.bids.specs.Bids.{bid_at}
use Rattle.packages.specs.Lots.{Lots, apart, within}
use Rattle.packages.specs.Places.{package_at}
use Rattle.contest.specs.Contest.{Contest, only}
use Rattle.books.specs.Book.{Book}
use Rattle.books.specs.History.{History, book_of}

abbrev pub lots_of : Book → ℕ → Lots
lots_of b n = package_at b.packages (bid_at b.bids n).«package»

-- A numbered bid stands if it is not withdrawn, and two different bids clash if their packages share a lot.
abbrev pub contest_of : Book → Contest
contest_of b =
    record {
      count = length b.bids;
      buyer = λ n. (bid_at b.bids n).buyer;
      price = λ n. (bid_at b.bids n).price;
      stands = λ n. not (bid_at b.bids n).withdrawn;
      clash = λ m n. not (apart (lots_of b m) (lots_of b n));
    }

abbrev pub contest_at : History → Contest
contest_at h = contest_of (book_of h)

-- a package lies inside another if its lots are all lots of the other
abbrev pub contest_within : Book → ℕ → Contest
contest_within b g = only (contest_of b) (λ n. within (lots_of b n) (package_at b.packages g))
