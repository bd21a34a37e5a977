-- The reading of a file, found by computing. It goes line by line, as the program does; Exact says that it is the one that the rules define.
--   Reading    what a file says, or the number and the place of its refusal
--   State      what some lines say, and the packages that are open after them
--   some_is    whether a run is among others
--   close, offer, add   the state after one line more, or the number of a refusal
--   ends, finish        the last line, and what may stand after it
--   further, walk       the rows of a file from a line on
--   begins, from_first  the first line
--   reading    the reading of a file
--   Reads      what the rules say of a reading
--   Exact      the reading is the one that the rules define, and no other is
use Rattle.std.specs.Prelude.{◌≡◌, ℕ, ◌+◌, Bool, true, false, cond, ◌&&◌, ◌||◌, List, [], ◌∷◌, ◌++◌, length, drop, Ok, Err, Result, ◌==◌, nat_le, nat_lt, slice_set}
use Rattle.packages.specs.declared.run.Run.{Run}
use Rattle.lines.specs.Kinds.{Kind, header, opening, closing, lot, bid, remark, ending, value}
use Rattle.lines.specs.Rows.{Row, rows_of}
use Rattle.lines.specs.Decode.{kind, legible}
use Rattle.bids.specs.Limits.{is_buyer, is_price, max_bids}
use Rattle.bids.specs.Bids.{new_bid}
use Rattle.salefile.specs.Limits.{max_bytes}
use Rattle.bids.specs.declared.bid.Bid.{Bid}
use Rattle.salefile.specs.declared.draft.Opened.{Opened}
use Rattle.salefile.specs.FileContents.{FileContents}
use Rattle.salefile.specs.Files.{Accepted, Refused}

-- what a file says, or the number and the place of its refusal
pub data Reading : Type 0 where
  says : FileContents → Reading
  refuses : ℕ → ℕ → Reading

-- what some lines say, and the packages that are open after them, the innermost first
pub record State : Type 0 where
  pub lots : ℕ
  pub packages : List Run
  pub unclosed : List Opened
  pub bids : List Bid

unfoldable pub some_is : Run → List Run → Bool
some_is r [] = false
some_is r (x ∷ xs) = (x.first == r.first && x.last == r.last) || some_is r xs

-- the state after a line more, or the number of a refusal

abbrev pub close : State → List Opened → Result State ℕ
close s [] = Err 5
close s (o ∷ os) =
    cond (nat_le o.first s.lots)
    (cond (some_is (record { first = o.first; last = s.lots }) (drop (o.«package» + 1) s.packages))
    (Err 7)
    (Ok (record { lots = s.lots; packages = slice_set s.packages o.«package» (record { first = o.first; last = s.lots }); unclosed = os; bids = s.bids })))
    (Err 6)

abbrev pub offer : State → ℕ → ℕ → List Opened → Result State ℕ
offer s buyer price [] = Err 5
offer s buyer price (o ∷ os) =
    cond (is_buyer buyer && is_price price)
    (cond (nat_lt (length s.bids) max_bids)
    (Ok (record { lots = s.lots; packages = s.packages; unclosed = s.unclosed; bids = s.bids ++ (new_bid buyer price (o.«package» + 1) ∷ []) }))
    (Err 23))
    (Err 4)

-- a line of the body, which is any line but the end, of the number n
abbrev pub add : ℕ → ℕ → State → Kind → Result State ℕ
add space n s header = Err 3
add space n s opening =
    cond (nat_lt (length s.packages) space)
    (Ok (record {
      lots = s.lots;
      packages = s.packages ++ ((record { first = s.lots + 1; last = 0 }) ∷ []);
      unclosed = (record { «package» = length s.packages; line = n; first = s.lots + 1 }) ∷ s.unclosed;
      bids = s.bids;
    }))
    (Err 22)
add space n s closing = close s s.unclosed
add space n s lot = Ok (record { lots = s.lots + 1; packages = s.packages; unclosed = s.unclosed; bids = s.bids })
add space n s (bid buyer price) = offer s (value buyer) (value price) s.unclosed
add space n s (remark words) = Ok s
add space n s ending = Err 3

-- the end on the line n, and the rows after it
abbrev pub finish : ℕ → State → List Opened → List Row → Reading
finish n s (o ∷ os) rest = refuses 8 o.line
finish n s [] (row ∷ rest) = refuses 10 (n + 1)
finish n s [] [] = says (record { lots = s.lots; packages = s.packages; bids = s.bids })

abbrev pub ends : Kind → Bool
ends ending = true
ends _ = false

abbrev pub further : ℕ → (State → Reading) → Result State ℕ → Reading
further n onward (Ok s) = onward s
further n onward (Err check) = refuses check n

-- the rows from the line n on
unfoldable pub walk : ℕ → ℕ → State → List Row → Reading
walk space n s [] = refuses 9 n
walk space n s (row ∷ rest) =
    cond (legible row)
    (cond (ends (kind row)) (finish n s s.unclosed rest) (further n (λ s'. walk space (n + 1) s' rest) (add space n s (kind row))))
    (refuses 3 n)

abbrev pub begins : Kind → Bool
begins header = true
begins _ = false

unfoldable pub from_first : ℕ → List Row → Reading
from_first space [] = refuses 2 1
from_first space (row ∷ rest) =
    cond (legible row && begins (kind row)) (walk space 2 (record { lots = 0; packages = []; unclosed = []; bids = [] }) rest) (refuses 2 1)

-- the reading of a file in a sale with `space` package places
unfoldable pub reading : ℕ → List ℕ → Reading
reading space file = cond (nat_le (length file) max_bytes) (from_first space (rows_of file)) (refuses 1 0)

-- what the rules say of a reading
abbrev pub Reads : List ℕ → ℕ → Reading → Type 0
Reads file space (says c) = Accepted file space c
Reads file space (refuses n p) = Refused file space n p

-- the reading is the one that the rules define
pub record Exact : Type 0 where
  pub right : (file : List ℕ) (space : ℕ) → Reads file space (reading space file)
  pub only : (file : List ℕ) (space : ℕ) (r : Reading) → Reads file space r → r ≡ reading space file
