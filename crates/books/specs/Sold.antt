-- The lots that a set of bids sells.
--   is_sold      whether a lot is in the package of one of the bids of a set
--   lots_sold    how many lots of the sale are
--   SoldSizes    of clash-free bids, it is the sum of the sizes of their packages
use Rattle.std.specs.Prelude.{◌≡◌, ℕ, Bool, ◌&&◌, length}
use Rattle.packages.specs.Lots.{has, count, size_of}
use Rattle.contest.specs.Contest.{Bids, ClashFree, some, sum_over}
use Rattle.books.specs.Book.{Book}
use Rattle.books.specs.History.{History, book_of}
use Rattle.books.specs.Contests.{contest_of, lots_of}

abbrev pub is_sold : Book → Bids → ℕ → Bool
is_sold b s lot = some (length b.bids) (λ n. s n && has (lots_of b n) lot)

abbrev pub lots_sold : Book → Bids → ℕ
lots_sold b s = count (is_sold b s) b.lots

abbrev pub SoldSizes : Type 0
SoldSizes = (h : History) (s : Bids) → ClashFree (contest_of (book_of h)) s → lots_sold (book_of h) s ≡ sum_over (length (book_of h).bids) s (λ n. size_of (lots_of (book_of h) n))
