-- A file as the list of its rows, each the bytes up to a line end.
--   Row        the bytes before a line end, and whether there is one
--   rows_of    a file split at each byte 10
--   content    a row without one byte 13 at its end
--   Tells      a row is a line
--   Illegible  a row is no line
use Rattle.std.specs.Prelude.{◌≡◌, ℕ, ◌-◌, Bool, true, false, cond, List, [], ◌∷◌, length, take, ◌==◌, slice_index}
use Rattle.lines.specs.Kinds.{Kind, Spells}

-- the bytes of a line before its byte 10, and whether it has one
pub record Row : Type 0 where
  pub bytes : List ℕ
  pub ended : Bool

-- one byte more at the front of the first line
abbrev pub lengthen : ℕ → List Row → List Row
lengthen b [] = (record { bytes = b ∷ []; ended = false }) ∷ []
lengthen b (row ∷ rows) = (record { bytes = b ∷ row.bytes; ended = row.ended }) ∷ rows

-- a file is split at each byte 10; bytes after the last one are a line that is not ended
abbrev pub rows_of : List ℕ → List Row
rows_of [] = []
rows_of (b ∷ bs) = cond (b == 10) ((record { bytes = []; ended = true }) ∷ rows_of bs) (lengthen b (rows_of bs))

-- one byte 13 at the end is no part of the line
abbrev pub content : List ℕ → List ℕ
content bs = cond (slice_index bs (length bs - 1) == 13) (take (length bs - 1) bs) bs

-- the row is the line k
abbrev pub Tells : Row → Kind → Type 0
Tells row k = (row.ended ≡ true) × Spells (content row.bytes) k

-- the row is none of the lines, or not ended
abbrev pub Illegible : Row → Type 0
Illegible row = (k : Kind) → Tells row k → ⊥
