-- What one call of the line reader answers, and where it leaves the reader.
--   kind_of    a line without its places
--   PartAt     a part of the file that begins at an offset
--   Placed     the parts of a line stand in the file where the line has them
--   Stands     the same, of the offsets alone
--   Answer     the answer at a row
--   Next       one call: its answer, and the reader's place after it
use Rattle.std.specs.Prelude.{◌≡◌, ℕ, ◌+◌, List, [], ◌∷◌, length, take, drop, Some, None, Ok, Err, Option, Result}
use Rattle.lines.specs.declared.line.Part.{Part}
use Rattle.lines.specs.declared.line.Line.{Line}
use Rattle.lines.specs.declared.line.Line.TheVariants.{Header, Open, Close, Lot, Bid, Remark, End}
use Rattle.lines.specs.declared.line.Numbered.{Numbered}
use Rattle.lines.specs.declared.line.Unreadable.{Unreadable}
use Rattle.lines.specs.Kinds.{Kind, header, opening, closing, lot, bid, remark, ending}
use Rattle.lines.specs.Rows.{Row, rows_of, Tells, Illegible}

-- the line without its places
abbrev pub kind_of : Line → Kind
kind_of Header = header
kind_of Open = opening
kind_of Close = closing
kind_of Lot = lot
kind_of (Bid buyer price) = bid buyer.part.bytes.now price.part.bytes.now
kind_of (Remark words) = remark words.bytes.now
kind_of End = ending

-- p is the part of the file that begins at the offset at
abbrev pub PartAt : List ℕ → ℕ → Part → Type 0
PartAt file at p = (p.at ≡ at) × (p.bytes.now ≡ take (length p.bytes.now) (drop at file))

-- the parts of a line that begins at the offset at stand where the line has them
abbrev pub Placed : List ℕ → ℕ → Line → Type 0
Placed file at (Bid buyer price) = PartAt file (at + 2) buyer.part × PartAt file (at + 3 + length buyer.part.bytes.now) price.part
Placed file at (Remark words) = PartAt file (at + 1) words
Placed file at _ = Unit {0}

-- the same, of the offsets alone
abbrev pub Stands : ℕ → Line → Type 0
Stands at (Bid buyer price) = (buyer.part.at ≡ at + 2) × (price.part.at ≡ at + 3 + length buyer.part.bytes.now)
Stands at (Remark words) = words.at ≡ at + 1
Stands at _ = Unit {0}

-- the answer at the row `row`, of which `number` rows stand before; it begins at `at`, and `rest` follows it
abbrev pub Answer : List ℕ → ℕ → ℕ → Row → List Row → Result (Option Numbered) Unreadable → ℕ → Type 0
Answer file number at row rest (Ok None) at' = ⊥
Answer file number at row rest (Ok (Some n)) at' =
    (n.number ≡ number + 1) × Tells row (kind_of n.line) × Placed file at n.line × (at' ≡ at + length row.bytes + 1) × (rows_of (drop at' file) ≡ rest)
Answer file number at row rest (Err e) at' = (e.line ≡ number + 1) × Illegible row × (at' ≡ length file)

-- one call: the rows from the offset at on, the answer, and the offset and the number of rows after it
abbrev pub Next : List ℕ → List Row → ℕ → ℕ → Result (Option Numbered) Unreadable → ℕ → ℕ → Type 0
Next file [] number at r number' at' = (r ≡ Ok None) × (number' ≡ number) × (at' ≡ at)
Next file (row ∷ rest) number at r number' at' = Answer file number at row rest r at' × (number' ≡ number + 1)
