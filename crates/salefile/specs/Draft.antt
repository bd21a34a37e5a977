-- The state of reading after some lines. This is inner to the proofs: no promise rests on it.
--   Opens, Nest    an open package, and all that are open after some lines
--   Kept, Keeps    what is kept of some lines
--   RefusedBy      a fault is the refusal of an item after some lines
--   Step           one line more is taken up or refused
--   Finishes       the end is taken up or refused
--   Reached, Loading, Ending   how far the reader has come
use Rattle.std.specs.Prelude.{◌≡◌, ℕ, ◌+◌, ◌≤◌, List, [], ◌∷◌, ◌++◌, reverse, length, drop, vec_items, Result, MatchResult, ◌≢◌}
use Rattle.packages.specs.declared.run.Run.{Run}
use Rattle.salefile.specs.Limits.{max_bytes}
use Rattle.bids.specs.declared.bid.Bid.{Bid}
use Rattle.salefile.specs.declared.draft.Opened.{Opened}
use Rattle.salefile.specs.declared.draft.Draft.{Draft}
use Rattle.lines.specs.declared.reader.LineReader.{LineReader}
use Rattle.salefile.specs.declared.contents.Contents.{Contents}
use Rattle.lines.specs.Rows.{rows_of}
use Rattle.salefile.specs.declared.fault.Fault.{Fault}
use Rattle.lines.specs.Kinds.{Kind, ending}
use Rattle.salefile.specs.FileContents.{contents_of}
use Rattle.salefile.specs.Blocks.{lots, opens, Balanced, Innermost, NoneOpen}
use Rattle.salefile.specs.Files.{Ended, Fails, Clear, order, Item, line, Rejects, Packaged, Lodged, Begins, BeginsWith, Sound, Describes}
use Rattle.salefile.specs.Refusals.{refusal}

-- o is the package whose opening stands after the lines b
abbrev pub Opens : Opened → List Kind → Type 0
Opens o b = (o.«package» ≡ opens b) × (o.line ≡ length b + 1) × (o.first ≡ lots b + 1)

-- the packages that are open after the lines ks, the innermost first
abbrev pub Nest : List Opened → List Kind → Type 0
Nest [] ks = Balanced ks
Nest (o ∷ os) ks = (b : List Kind) × (i : List Kind) × Innermost ks b i × Opens o b × Nest os b

-- what is kept of the lines ks, the first of which is the header and none of which is the end
pub record Kept (ks : List Kind) (lots_so_far : ℕ) (runs : List Run) (stack : List Opened) (all : List Bid) : Type 0 where
  pub begun : ks ≢ []
  pub going : Ended ks → ⊥
  pub lot_count : lots_so_far ≡ lots ks
  pub packaged : Packaged ks runs
  pub nest : Nest (reverse stack) ks
  pub lodged : Lodged ks all

abbrev pub Keeps : List Kind → Draft → Type 0
Keeps ks d = Kept ks d.lots (vec_items d.packages) (vec_items d.unclosed) (vec_items d.bids)

-- a fault is the refusal of x after the lines ks
abbrev pub RefusedBy : ℕ → List Kind → Item → Fault → Type 0
RefusedBy space ks x f = Rejects space ks x (refusal f).0 (refusal f).1

-- the line k, of the number n, after the lines ks: it is taken up, or refused
abbrev pub Step : ℕ → Kind → Draft → {T : Type 0} → Result T Fault → Draft → Type 0
Step n k d r d' =
    (ks : List Kind) → Keeps ks d → n ≡ length ks + 1
    → MatchResult r (λ _. Clear (Fails d.space ks (line k)) order × Keeps (ks ++ (k ∷ [])) d' × (d'.space ≡ d.space)) (RefusedBy d.space ks (line k))

-- the end after the lines ks: the contents are complete, or a package is open
abbrev pub Finishes : Draft → Result Contents Fault → Type 0
Finishes d r =
    (ks : List Kind) → Keeps ks d → MatchResult r (λ c. NoneOpen ks × Describes (ks ++ (ending ∷ [])) (contents_of c)) (λ f. (space : ℕ) → RefusedBy space ks (line ending) f)

-- the reader has read the lines ks of the file
pub record Reached (file : List ℕ) (ks : List Kind) (s : LineReader) : Type 0 where
  pub same : s.file.now ≡ file
  pub begins : Begins (rows_of file) ks (rows_of (drop s.at file))
  pub counted : s.number ≡ length ks

-- some lines of the file are read and drafted
pub record Loading (file : List ℕ) (space : ℕ) (s : LineReader) (d : Draft) : Type 0 where
  pub fits : length file ≤ max_bytes
  pub spaced : d.space ≡ space
  pub lines : List Kind
  pub reached : Reached file lines s
  pub keeps : Keeps lines d
  pub sound : Sound space lines

-- the lines up to the end are read, and those before it drafted
pub record Ending (file : List ℕ) (space : ℕ) (s : LineReader) (d : Draft) : Type 0 where
  pub fits : length file ≤ max_bytes
  pub lines : List Kind
  pub reached : Reached file (lines ++ (ending ∷ [])) s
  pub shows : BeginsWith file lines (line ending)
  pub keeps : Keeps lines d
  pub sound : Sound space lines
