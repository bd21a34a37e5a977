-- What a line reader answers over a whole file, call after call.
--   Reply        what one call answers
--   Calls        the answers of calls made one after another
--   readable     how many lines stand before the first row that is no line
--   start        the offset at which a row of the file begins
--   TellsLine    an answer is a line, with its number and its parts in their places
--   InOrder      the answers are the lines of the file in their order, up to the first row that is no line
--   ReadsWhole   whatever calls are made from the start of a file, their answers are such
use Rattle.std.specs.Prelude.{◌≡◌, ℕ, suc, ◌+◌, ◌<◌, ◌≤◌, false, cond, ◌⊎◌, List, [], ◌∷◌, length, take, drop, Some, None, Ok, Err, Option, Result, slice_index_or}
use Rattle.std.specs.List.{flat_map}
use Rattle.lines.specs.declared.line.Numbered.{Numbered}
use Rattle.lines.specs.declared.line.Unreadable.{Unreadable}
use Rattle.lines.specs.Rows.{Row, rows_of, Tells}
use Rattle.lines.specs.Reader.{kind_of, Placed, Next}
use Rattle.lines.specs.Split.{spelled}
use Rattle.lines.specs.Decode.{legible}

abbrev pub Reply : Type 0
Reply = Result (Option Numbered) Unreadable

-- the reader has read `number` rows and stands at the offset `at`
abbrev pub Calls : List ℕ → ℕ → ℕ → List Reply → Type 0
Calls file number at [] = Unit {0}
Calls file number at (r ∷ rs) =
    (number' : ℕ) × (at' : ℕ) × Next file (rows_of (drop at file)) number at r number' at' × Calls file number' at' rs

abbrev pub readable : List Row → ℕ
readable [] = 0
readable (row ∷ rows) = cond (legible row) (suc (readable rows)) 0

-- before row k, counted from 0, stand k rows with their line ends
abbrev pub start : List Row → ℕ → ℕ
start rows k = length (flat_map spelled (take k rows))

-- what stands past the last row
abbrev pub no_row : Row
no_row = record { bytes = []; ended = false }

abbrev pub TellsLine : List ℕ → ℕ → Row → ℕ → Reply → Type 0
TellsLine file number row at (Ok None) = ⊥
TellsLine file number row at (Ok (Some n)) = (n.number ≡ number) × Tells row (kind_of n.line) × Placed file at n.line
TellsLine file number row at (Err e) = ⊥

-- rows and answers are counted from 0, and lines from 1
pub record InOrder (file : List ℕ) (rs : List Reply) : Type 0 where
  pub lines : (k : ℕ) → k < length rs → k < readable (rows_of file)
      → TellsLine file (k + 1) (slice_index_or (rows_of file) k no_row) (start (rows_of file) k) (slice_index_or rs k (Ok None))
  -- the first row that is no line is the fault
  pub fault : (k : ℕ) → k < length rs → k ≡ readable (rows_of file) → k < length (rows_of file) → slice_index_or rs k (Ok None) ≡ Err (record { line = k + 1 })
  -- after the fault, or after the last row, the file is over
  pub over : (k : ℕ) → k < length rs → (readable (rows_of file) < k) ⊎ (length (rows_of file) ≤ k) → slice_index_or rs k (Ok None) ≡ Ok None

abbrev pub ReadsWhole : Type 0
ReadsWhole = (file : List ℕ) (rs : List Reply) → Calls file 0 0 rs → InOrder file rs
