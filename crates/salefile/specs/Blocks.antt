-- How the lines of a file nest.
--   count, is_lot, is_opening, is_closing, is_bid   how many lines of a kind there are
--   lots, opens, closes, bids   the numbers of lots, openings, closings and bids among lines
--   Plain      a line that neither opens nor closes a package
--   Balanced   lines in which each opening has its closing
--   Block      a package: the lines between an opening and its matching closing
--   Innermost  the innermost package that is open after some lines
--   NoneOpen   no package is open after some lines
use Rattle.std.specs.Prelude.{◌≡◌, ℕ, ◌+◌, List, [], ◌∷◌, ◌++◌}
use Rattle.lines.specs.Kinds.{Kind, opening, closing, lot, bid}

-- how many lines of a kind there are, where f is 1 at that kind and 0 elsewhere
abbrev pub count : (Kind → ℕ) → List Kind → ℕ
count f [] = 0
count f (k ∷ ks) = f k + count f ks

abbrev pub is_lot : Kind → ℕ
is_lot lot = 1
is_lot _ = 0

abbrev pub is_opening : Kind → ℕ
is_opening opening = 1
is_opening _ = 0

abbrev pub is_closing : Kind → ℕ
is_closing closing = 1
is_closing _ = 0

abbrev pub is_bid : Kind → ℕ
is_bid (bid n p) = 1
is_bid _ = 0

abbrev pub lots : List Kind → ℕ
lots = count is_lot

abbrev pub opens : List Kind → ℕ
opens = count is_opening

abbrev pub closes : List Kind → ℕ
closes = count is_closing

abbrev pub bids : List Kind → ℕ
bids = count is_bid

-- the line neither opens nor closes a package
abbrev pub Plain : Kind → Type 0
Plain k = (is_opening k ≡ 0) × (is_closing k ≡ 0)

-- lines in which each opening has its closing: a plain line, or a block `G .. E`, and so on
pub data Balanced : List Kind → Type 0 where
  none : Balanced []
  plain : {k : Kind} {ks : List Kind} → Plain k → Balanced ks → Balanced (k ∷ ks)
  block : {i ks : List Kind} → Balanced i → Balanced ks → Balanced (opening ∷ (i ++ (closing ∷ ks)))

-- a package: its lines i stand between an opening, before which stand b, and the matching closing, after which stand a
abbrev pub Block : List Kind → List Kind → List Kind → List Kind → Type 0
Block ks b i a = (ks ≡ b ++ (opening ∷ (i ++ (closing ∷ a)))) × Balanced i

-- the innermost package that is open after the lines ks: before its opening stand b, and after it i
abbrev pub Innermost : List Kind → List Kind → List Kind → Type 0
Innermost ks b i = (ks ≡ b ++ (opening ∷ i)) × Balanced i

-- no package is open after the lines ks
abbrev pub NoneOpen : List Kind → Type 0
NoneOpen ks = (b i : List Kind) → Innermost ks b i → ⊥
