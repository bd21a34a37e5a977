-- That a file's rows are the file, split at its line ends in the only way.
--   spelled    the bytes of a row in the file, with its line end
--   Unbroken   no line end stands in some bytes
--   Tidy       rows that a file can have
--   Splits     a file's rows are Tidy and give the file, and no other rows do
use Rattle.std.specs.Prelude.{◌≡◌, ℕ, ◌<◌, true, false, cond, ◌⊎◌, List, [], ◌∷◌, ◌++◌, length, ◌≢◌, slice_index}
use Rattle.std.specs.List.{flat_map}
use Rattle.lines.specs.Rows.{Row, rows_of}

-- the bytes of a row in the file
abbrev pub spelled : Row → List ℕ
spelled row = row.bytes ++ cond row.ended (10 ∷ []) []

-- no byte 10 stands in a row; each row is ended but the last, which then is not empty
abbrev pub Unbroken : List ℕ → Type 0
Unbroken bs = (k : ℕ) → k < length bs → slice_index bs k ≢ 10

abbrev pub Tidy : List Row → Type 0
Tidy [] = Unit {0}
Tidy (row ∷ []) = Unbroken row.bytes × ((row.ended ≡ true) ⊎ ((row.ended ≡ false) × (0 < length row.bytes)))
Tidy (row ∷ next ∷ rows) = Unbroken row.bytes × (row.ended ≡ true) × Tidy (next ∷ rows)

abbrev pub Splits : Type 0
Splits = ((file : List ℕ) → (flat_map spelled (rows_of file) ≡ file) × Tidy (rows_of file)) × ((rows : List Row) → Tidy rows → rows_of (flat_map spelled rows) ≡ rows)
