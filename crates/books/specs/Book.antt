-- The book of a sale: what is written in it, what the rules answer to a call from it, and what the call writes.
--   Book                 lots, package space, packages as sets of lots, and bids
--   Call, Answer         the calls that write, with their arguments, and what they are answered
--   conflict_refusal     the number and the place of a conflict with an earlier package
--   permit_answer, lodge_answer, withdraw_answer, load_answer
--                        what each call is answered: the first check that fails, in the order of the rules
--   is_empty             whether a book has neither packages nor numbered bids
--   file_book            the book of what a file says
--   answer, written      the answer to a call, and the book with an accepted call written in it
--   after                the book after a call: a refused call writes nothing
use Rattle.std.specs.Prelude.{ℕ, ◌+◌, ◌-◌, Bool, cond, ◌&&◌, List, [], ◌∷◌, ◌++◌, length, Some, None, Option, ◌==◌, nat_le, nat_lt, slice_set}
use Rattle.bids.specs.declared.bid.Bid.{Bid}
use Rattle.bids.specs.Bids.{new_bid, marked, bid_at}
use Rattle.bids.specs.Limits.{max_bids, from_to, is_buyer, is_price}
use Rattle.packages.specs.declared.place.Conflict.{Conflict}
use Rattle.packages.specs.declared.place.Conflict.TheVariants.{Equal, Crossing, Around}
use Rattle.packages.specs.Lots.{Lots, fits_in}
use Rattle.packages.specs.Nest.{conflict_from}
use Rattle.salefile.specs.FileContents.{FileContents, package_sets}
use Rattle.salefile.specs.Limits.{max_bytes}
use Rattle.salefile.specs.Reading.{Reading, says, refuses, reading}

pub record Book : Type 0 where
  pub lots : ℕ
  pub space : ℕ
  pub packages : List Lots
  pub bids : List Bid

-- lodge takes a buyer, a price and a package's number, withdraw a bid's number, and load a file's bytes
pub data Call : Type 0 where
  permit : Lots → Call
  lodge : ℕ → ℕ → ℕ → Call
  withdraw : ℕ → Call
  load : List ℕ → Call

-- a number, or a refusal's number and place
pub data Answer : Type 0 where
  accepted : ℕ → Answer
  refused : ℕ × ℕ → Answer

abbrev pub conflict_refusal : Conflict → ℕ × ℕ
conflict_refusal (Equal g) = (25, g)
conflict_refusal (Crossing g) = (26, g)
conflict_refusal (Around g) = (27, g)

abbrev pub unless_conflict : Option Conflict → Answer → Answer
unless_conflict None a = a
unless_conflict (Some c) a = refused (conflict_refusal c)

abbrev pub permit_answer : Book → Lots → Answer
permit_answer b s =
    cond (fits_in b.lots s)
    (cond (nat_lt (length b.packages) b.space)
    (unless_conflict (conflict_from 1 s b.packages) (accepted (length b.packages + 1)))
    (refused (24, 0)))
    (refused (11, 0))

abbrev pub lodge_answer : Book → ℕ → ℕ → ℕ → Answer
lodge_answer b buyer price on =
    cond (is_buyer buyer)
    (cond (is_price price)
    (cond (from_to 1 (length b.packages) on)
    (cond (nat_lt (length b.bids) max_bids) (accepted (length b.bids + 1)) (refused (29, 0)))
    (refused (28, 0)))
    (refused (13, 0)))
    (refused (12, 0))

abbrev pub withdraw_answer : Book → ℕ → Answer
withdraw_answer b n =
    cond (from_to 1 (length b.bids) n)
    (cond (bid_at b.bids n).withdrawn (refused (31, 0)) (accepted (bid_at b.bids n).price))
    (refused (30, 0))

abbrev pub is_empty : Book → Bool
is_empty b = length b.packages == 0 && length b.bids == 0

abbrev pub file_book : FileContents → ℕ → Book
file_book c space = record { lots = c.lots; space = space; packages = package_sets c; bids = c.bids }

abbrev pub reading_answer : Reading → Answer
reading_answer (says c) = accepted (length c.bids)
reading_answer (refuses n place) = refused (n, place)

abbrev pub load_answer : Book → List ℕ → Answer
load_answer b file =
    cond (nat_le (length file) max_bytes)
    (cond (is_empty b) (reading_answer (reading b.space file)) (refused (21, 0)))
    (refused (1, 0))

abbrev pub loaded : Book → Reading → Book
loaded b (says c) = file_book c b.space
loaded b (refuses n place) = b

abbrev pub answer : Book → Call → Answer
answer b (permit s) = permit_answer b s
answer b (lodge buyer price on) = lodge_answer b buyer price on
answer b (withdraw n) = withdraw_answer b n
answer b (load file) = load_answer b file

abbrev pub written : Book → Call → Book
written b (permit s) = record { lots = b.lots; space = b.space; packages = b.packages ++ (s ∷ []); bids = b.bids }
written b (lodge buyer price on) =
    record { lots = b.lots; space = b.space; packages = b.packages; bids = b.bids ++ (new_bid buyer price on ∷ []) }
written b (withdraw n) =
    record { lots = b.lots; space = b.space; packages = b.packages; bids = slice_set b.bids (n - 1) (marked (bid_at b.bids n)) }
written b (load file) = loaded b (reading b.space file)

abbrev pub if_accepted : Answer → Book → Book → Book
if_accepted (accepted n) new old = new
if_accepted (refused r) new old = old

abbrev pub after : Book → Call → Book
after b c = if_accepted (answer b c) (written b c) b
