-- What load answers and writes, in words, and the same sale made without a file.
--   Loads           what a load is answered from a book, and the book after it
--   AlwaysLoads     it is so for every book and every file
--   then_all        calls made one after another
--   calls           the calls that the lines of a file ask for, in their order
--   by_lines        a sale of runs made with the file's lots, in which these calls are made
--   packages_first  the same with all packages permitted before all bids are lodged
--   AllAccepted     none of some calls is refused
--   Replayed        a load gives the book of that sale, and all its calls are accepted
--   Replays         it is so for every accepted load
--   Standing        no bid of a list is withdrawn, as in every file
use Rattle.std.specs.Prelude.{◌≡◌, ℕ, ◌<◌, ◌≤◌, true, false, List, [], ◌∷◌, map, length, slice_index_or}
use Rattle.bids.specs.declared.bid.Bid.{Bid}
use Rattle.packages.specs.declared.run.Run.{Run}
use Rattle.packages.specs.Lots.{highest_run_lot}
use Rattle.lines.specs.Kinds.{Kind, header, opening, closing, lot, bid, remark, ending}
use Rattle.salefile.specs.FileContents.{FileContents, run_set}
use Rattle.salefile.specs.Files.{Accepted, Refused, BeginsWith, over}
use Rattle.salefile.specs.Limits.{max_bytes}
use Rattle.books.specs.Book.{Book, Call, permit, lodge, load, accepted, refused, answer, after, file_book, is_empty}
use Rattle.books.specs.History.{History, making, then, book_of}

pub record Loads (b : Book) (file : List ℕ) : Type 0 where
  pub too_long : max_bytes < length file → answer b (load file) ≡ refused (1, 0)
  pub not_empty : length file ≤ max_bytes → is_empty b ≡ false → answer b (load file) ≡ refused (21, 0)
  pub refused_file : (n p : ℕ) → length file ≤ max_bytes → is_empty b ≡ true → Refused file b.space n p → answer b (load file) ≡ refused (n, p)
  -- an accepted file's lots take the place of the old, and its packages and bids are written
  pub accepted_file : (c : FileContents) → length file ≤ max_bytes → is_empty b ≡ true → Accepted file b.space c
      → (answer b (load file) ≡ accepted (length c.bids)) × (after b (load file) ≡ file_book c b.space)
  -- an accepted answer comes of an accepted file only
  pub only_accepted : (n : ℕ) → answer b (load file) ≡ accepted n → (c : FileContents) × Accepted file b.space c

abbrev pub AlwaysLoads : Type 0
AlwaysLoads = (b : Book) (file : List ℕ) → Loads b file

abbrev pub then_all : History → List Call → History
then_all h [] = h
then_all h (c ∷ cs) = then_all (then h c) cs

abbrev pub permits : List Run → List Call
permits = map (λ r. permit (run_set r))

abbrev pub lodges : List Bid → List Call
lodges = map (λ x. lodge x.buyer x.price x.«package»)

-- at an opening the next package is permitted, at a bid the next bid is lodged
abbrev pub calls : List Kind → List Run → List Bid → List Call
calls [] rs xs = []
calls (opening ∷ ks) (r ∷ rs) xs = permit (run_set r) ∷ calls ks rs xs
calls (opening ∷ ks) [] xs = calls ks [] xs
calls (bid n p ∷ ks) rs (x ∷ xs) = lodge x.buyer x.price x.«package» ∷ calls ks rs xs
calls (bid n p ∷ ks) rs [] = calls ks rs []
calls (header ∷ ks) rs xs = calls ks rs xs
calls (closing ∷ ks) rs xs = calls ks rs xs
calls (lot ∷ ks) rs xs = calls ks rs xs
calls (remark w ∷ ks) rs xs = calls ks rs xs
calls (ending ∷ ks) rs xs = calls ks rs xs

-- the lines are ks, and the table has so many places
abbrev pub by_lines : FileContents → List Kind → ℕ → History
by_lines c ks places = then_all (making highest_run_lot c.lots places) (calls ks c.packages c.bids)

abbrev pub packages_first : FileContents → ℕ → History
packages_first c places = then_all (then_all (making highest_run_lot c.lots places) (permits c.packages)) (lodges c.bids)

-- each of the calls is accepted, one after another
abbrev pub AllAccepted : Book → List Call → Type 0
AllAccepted b [] = Unit {0}
AllAccepted b (c ∷ cs) = ((n : ℕ) × (answer b c ≡ accepted n)) × AllAccepted (after b c) cs

-- the file has the lines ks and says c
pub record Replayed (h : History) (file : List ℕ) (c : FileContents) (ks : List Kind) : Type 0 where
  pub in_order : book_of (then h (load file)) ≡ book_of (by_lines c ks (book_of h).space)
  pub all_accepted : AllAccepted (book_of (making highest_run_lot c.lots (book_of h).space)) (calls ks c.packages c.bids)
  pub regrouped : book_of (then h (load file)) ≡ book_of (packages_first c (book_of h).space)

abbrev pub Replays : Type 0
Replays =
    (h : History) (file : List ℕ) (n : ℕ) (c : FileContents) (ks : List Kind)
    → answer (book_of h) (load file) ≡ accepted n → Accepted file (book_of h).space c → BeginsWith file ks over → Replayed h file c ks

abbrev pub Standing : List Bid → Type 0
Standing bs = (k : ℕ) (d : Bid) → k < length bs → (slice_index_or bs k d).withdrawn ≡ false
