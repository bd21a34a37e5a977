-- Which files are accepted, and what they say; which are refused, and how.
--   Item, Begins, FirstIs, BeginsWith   the lines that a file begins with, and what comes next
--   Check, number, order   the checks, the number of each, and the order in which a line is checked
--   Ended, IsBid, InRange, Repeated     what the checks ask about
--   Fails      what a check finds wrong with the next item of a file, and its place
--   First, Clear           the first check that fails; no check fails
--   Sound      each of some lines passes every check
--   Rejects    the next item is refused by a number at a place
--   Packaged   the packages of some lines
--   Lodged     the bids of some lines
--   Describes  what some lines say
--   Accepted, Refused      a file is accepted with its contents; it is refused by a number at a place
--   Outcome, ReadOutcome   what reading answers for a file
use Rattle.std.specs.Prelude.{◌≡◌, ℕ, ◌+◌, ◌<◌, ◌≤◌, ◌⊎◌, List, [], ◌∷◌, ◌++◌, length, Ok, Err, Result, ◌≢◌, slice_index_or}
use Rattle.packages.specs.declared.run.Run.{Run}
use Rattle.bids.specs.Bids.{new_bid}
use Rattle.bids.specs.Limits.{highest_buyer, highest_price, max_bids}
use Rattle.salefile.specs.Limits.{max_bytes}
use Rattle.bids.specs.declared.bid.Bid.{Bid}
use Rattle.salefile.specs.declared.contents.Contents.{Contents}
use Rattle.salefile.specs.declared.fault.Fault.{Fault}
use Rattle.salefile.specs.declared.fault.ReadFault.{ReadFault}
use Rattle.salefile.specs.declared.fault.ReadFault.TheVariants.{NoMemory, File}
use Rattle.salefile.specs.Refusals.{refusal}
use Rattle.salefile.specs.FileContents.{FileContents, contents_of}
use Rattle.lines.specs.Kinds.{Kind, header, opening, closing, bid, ending, value}
use Rattle.lines.specs.Rows.{Row, rows_of, Tells, Illegible}
use Rattle.salefile.specs.Blocks.{lots, opens, bids, Block, Innermost, NoneOpen}

-- what stands at a place of the file: nothing more, bytes that are no line, or a line
pub data Item : Type 0 where
  over : Item
  illegible : Item
  line : Kind → Item

-- the rows begin with the lines ks, and `rest` follows
abbrev pub Begins : List Row → List Kind → List Row → Type 0
Begins rows [] rest = rows ≡ rest
Begins [] (k ∷ ks) rest = ⊥
Begins (row ∷ rows) (k ∷ ks) rest = Tells row k × Begins rows ks rest

-- what stands at the first of the rows
abbrev pub FirstIs : List Row → Item → Type 0
FirstIs rows over = rows ≡ []
FirstIs rows illegible = (row : Row) × (rest : List Row) × (rows ≡ row ∷ rest) × Illegible row
FirstIs rows (line k) = (row : Row) × (rest : List Row) × (rows ≡ row ∷ rest) × Tells row k

-- the file begins with the lines ks, and x stands next
abbrev pub BeginsWith : List ℕ → List Kind → Item → Type 0
BeginsWith file ks x = (rest : List Row) × Begins (rows_of file) ks rest × FirstIs rest x

-- the checks
pub data Check : Type 0 where
  after_end : Check
  no_header : Check
  bad_line : Check
  none_open : Check
  out_of_range : Check
  no_space : Check
  too_many_bids : Check
  no_lots : Check
  same_lots : Check
  unclosed : Check
  no_end : Check

-- the number of a check's refusal
abbrev pub number : Check → ℕ
number after_end = 10
number no_header = 2
number bad_line = 3
number none_open = 5
number out_of_range = 4
number no_space = 22
number too_many_bids = 23
number no_lots = 6
number same_lots = 7
number unclosed = 8
number no_end = 9

-- the order in which a line is checked
abbrev pub order : List Check
order = after_end ∷ no_header ∷ bad_line ∷ none_open ∷ out_of_range ∷ no_space ∷ too_many_bids ∷ no_lots ∷ same_lots ∷ unclosed ∷ no_end ∷ []

-- the last of the lines is `END`
abbrev pub Ended : List Kind → Type 0
Ended ks = (b : List Kind) × (ks ≡ b ++ (ending ∷ []))

abbrev pub IsBid : Item → Type 0
IsBid x = (n : List ℕ) × (p : List ℕ) × (x ≡ line (bid n p))

-- a buyer and a price within the limits
abbrev pub InRange : ℕ → ℕ → Type 0
InRange buyer price = (1 ≤ buyer) × (buyer ≤ highest_buyer) × (1 ≤ price) × (price ≤ highest_price)

-- a package inside i has all the lots of i
abbrev pub Repeated : List Kind → Type 0
Repeated i = (u : List Kind) × (v : List Kind) × (w : List Kind) × Block i u v w × (lots v ≡ lots i)

-- what a check finds wrong with x after the lines ks, in a sale with `space` package places; p is the place
abbrev pub Fails : ℕ → List Kind → Item → Check → ℕ → Type 0
Fails space ks x after_end p = Ended ks × (x ≢ over) × (p ≡ length ks + 1)
Fails space ks x no_header p = (ks ≡ []) × (x ≢ line header) × (p ≡ length ks + 1)
Fails space ks x bad_line p = ((x ≡ illegible) ⊎ ((x ≡ line header) × (ks ≢ []))) × (p ≡ length ks + 1)
Fails space ks x none_open p = ((x ≡ line closing) ⊎ IsBid x) × NoneOpen ks × (p ≡ length ks + 1)
Fails space ks x out_of_range p = (n : List ℕ) × (q : List ℕ) × (x ≡ line (bid n q)) × (InRange (value n) (value q) → ⊥) × (p ≡ length ks + 1)
Fails space ks x no_space p = (x ≡ line opening) × (space ≤ opens ks) × (p ≡ length ks + 1)
Fails space ks x too_many_bids p = IsBid x × (max_bids ≤ bids ks) × (p ≡ length ks + 1)
Fails space ks x no_lots p = (x ≡ line closing) × ((b : List Kind) × (i : List Kind) × Innermost ks b i × (lots i ≡ 0)) × (p ≡ length ks + 1)
Fails space ks x same_lots p = (x ≡ line closing) × ((b : List Kind) × (i : List Kind) × Innermost ks b i × Repeated i) × (p ≡ length ks + 1)
Fails space ks x unclosed p = (x ≡ line ending) × ((b : List Kind) × (i : List Kind) × Innermost ks b i × (p ≡ length b + 1))
Fails space ks x no_end p = (x ≡ over) × (Ended ks → ⊥) × (p ≡ length ks + 1)

-- c is the first of the checks that fails, and p its place
abbrev pub First : (Check → ℕ → Type 0) → List Check → Check → ℕ → Type 0
First F [] c p = ⊥
First F (d ∷ ds) c p = ((c ≡ d) × F d p) ⊎ (((q : ℕ) → F d q → ⊥) × First F ds c p)

-- none of the checks fails
abbrev pub Clear : (Check → ℕ → Type 0) → List Check → Type 0
Clear F [] = Unit {0}
Clear F (d ∷ ds) = ((q : ℕ) → F d q → ⊥) × Clear F ds

-- each of the lines passes every check
abbrev pub Sound : ℕ → List Kind → Type 0
Sound space ks = (b : List Kind) (k : Kind) (a : List Kind) → ks ≡ b ++ (k ∷ a) → Clear (Fails space b (line k)) order

-- x after the lines ks is refused by the number n at the place p
abbrev pub Rejects : ℕ → List Kind → Item → ℕ → ℕ → Type 0
Rejects space ks x n p = (c : Check) × First (Fails space ks x) order c p × (n ≡ number c)

-- the packages of the lines ks: each is the run of the lots between its opening and its closing, and they are numbered by their openings
pub record Packaged (ks : List Kind) (runs : List Run) : Type 0 where
  pub many : length runs ≡ opens ks
  pub each : (b i a : List Kind) → Block ks b i a → (d : Run) → slice_index_or runs (opens b) d ≡ record { first = lots b + 1; last = lots b + lots i }

-- the bids of the lines ks: each is on the innermost package that is open at its line
pub record Lodged (ks : List Kind) (all : List Bid) : Type 0 where
  pub many : length all ≡ bids ks
  pub each : (s : List Kind) (n q : List ℕ) (a : List Kind) → ks ≡ s ++ (bid n q ∷ a) → (b i : List Kind) → Innermost s b i → (d : Bid) → slice_index_or all (bids s) d ≡ new_bid (value n) (value q) (opens b + 1)

-- what the lines ks say
pub record Describes (ks : List Kind) (c : FileContents) : Type 0 where
  pub lot_count : c.lots ≡ lots ks
  pub packaged : Packaged ks c.packages
  pub lodged : Lodged ks c.bids

-- the file is accepted with these contents
abbrev pub Accepted : List ℕ → ℕ → FileContents → Type 0
Accepted file space c = (length file ≤ max_bytes) × ((ks : List Kind) × BeginsWith file ks over × Sound space ks × Clear (Fails space ks over) order × Describes ks c)

-- the file is refused by the number n at the place p: it is too long, or its first bad line fails a check
abbrev pub Refused : List ℕ → ℕ → ℕ → ℕ → Type 0
Refused file space n p =
    ((max_bytes < length file) × (n ≡ 1) × (p ≡ 0))
    ⊎ ((length file ≤ max_bytes) × ((ks : List Kind) × (x : Item) × BeginsWith file ks x × Sound space ks × Rejects space ks x n p))

-- what reading the lines of a file answers
abbrev pub Outcome : List ℕ → ℕ → Result Contents Fault → Type 0
Outcome file space (Ok c) = Accepted file space (contents_of c)
Outcome file space (Err f) = Refused file space (refusal f).0 (refusal f).1

-- what reading a file answers: the same, or that there is no memory, which says nothing of the file
abbrev pub ReadOutcome : List ℕ → ℕ → Result Contents ReadFault → Type 0
ReadOutcome file space (Ok c) = Accepted file space (contents_of c)
ReadOutcome file space (Err NoMemory) = Unit {0}
ReadOutcome file space (Err (File f)) = Refused file space (refusal f).0 (refusal f).1
