-- The line that some bytes are, found by computing.
--   upto, past      the bytes before the first space, and those after it
--   decoded         the only kind of line that some bytes can be
--   same_bytes      whether two lists of bytes are the same
--   all_digits, is_numeral, is_proper   whether bytes are digits, a number, and a line's numbers are numbers
--   kind            the only line that a row can be
--   legible         whether a row is a line
--   Decodes         a row is a line exactly if it is legible, and then the line that is found
use Rattle.std.specs.Prelude.{◌≡◌, ℕ, Bool, true, false, cond, not, ◌&&◌, ◌||◌, List, [], ◌∷◌, length, drop, ◌==◌, nat_le, nat_lt, slice_index}
use Rattle.lines.specs.Kinds.{max_digits, Kind, header, opening, closing, lot, bid, remark, ending, written}
use Rattle.lines.specs.Rows.{Row, content, Tells}

-- the bytes before the first space, and those after it
unfoldable pub upto : List ℕ → List ℕ
upto [] = []
upto (b ∷ bs) = cond (b == 32) [] (b ∷ upto bs)

unfoldable pub past : List ℕ → List ℕ
past [] = []
past (b ∷ bs) = cond (b == 32) bs (past bs)

-- the only kind of line that the bytes can be
unfoldable pub decoded : List ℕ → Kind
decoded bs =
    cond (slice_index bs 0 == 42) (remark (drop 1 bs))
    (cond (slice_index bs 0 == 66) (bid (upto (drop 2 bs)) (past (drop 2 bs)))
    (cond (slice_index bs 0 == 71) opening
    (cond (slice_index bs 0 == 76) lot
    (cond (slice_index bs 0 == 83) header
    (cond (length bs == 1) closing ending)))))

unfoldable pub same_bytes : List ℕ → List ℕ → Bool
same_bytes [] [] = true
same_bytes [] (c ∷ cs) = false
same_bytes (b ∷ bs) [] = false
same_bytes (b ∷ bs) (c ∷ cs) = b == c && same_bytes bs cs

unfoldable pub all_digits : List ℕ → Bool
all_digits [] = true
all_digits (d ∷ ds) = (nat_le 48 d && nat_le d 57) && all_digits ds

unfoldable pub is_numeral : List ℕ → Bool
is_numeral ds = (nat_lt 0 (length ds) && nat_le (length ds) max_digits) && (all_digits ds && (not (slice_index ds 0 == 48) || length ds == 1))

unfoldable pub is_proper : Kind → Bool
is_proper (bid buyer price) = is_numeral buyer && is_numeral price
is_proper _ = true

unfoldable pub kind : Row → Kind
kind row = decoded (content row.bytes)

-- the row is a line
unfoldable pub legible : Row → Bool
legible row = row.ended && (same_bytes (content row.bytes) (written (kind row)) && is_proper (kind row))

-- a row is a line exactly if it is legible, and then that line
pub record Decodes : Type 0 where
  pub line : (row : Row) → legible row ≡ true → Tells row (kind row)
  pub only : (row : Row) (k : Kind) → Tells row k → (legible row ≡ true) × (kind row ≡ k)
