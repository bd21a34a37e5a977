-- Histories of a sale, and the book kept from them.
--   Query     the calls that write nothing
--   History   a making, then any calls in any order, refused ones among them
--   opened    the book that a making opens
--   book_of   the book of a history, from the calls and their arguments alone
use Rattle.std.specs.Prelude.{ℕ, min, cond, [], nat_le}
use Rattle.bids.specs.Limits.{max_packages}
use Rattle.books.specs.Book.{Book, Call, after}

-- charge names a buyer
pub data Query : Type 0 where
  total : Query
  appraise : Query
  award : Query
  charge : ℕ → Query

-- A making has the kind's highest lot, the number of lots and the table's length.
pub data History : Type 0 where
  making : ℕ → ℕ → ℕ → History
  then : History → Call → History
  asked : History → Query → History

abbrev pub opened : ℕ → ℕ → ℕ → Book
opened highest lots places = record { lots = cond (nat_le lots highest) lots 0; space = min max_packages places; packages = []; bids = [] }

abbrev pub book_of : History → Book
book_of (making highest lots places) = opened highest lots places
book_of (then h c) = after (book_of h) c
book_of (asked h q) = book_of h
