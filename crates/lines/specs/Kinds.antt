-- The lines that a file can have, and how each is written.
--   Kind       a line, by what it says
--   written    the bytes of a line
--   max_digits the most digits of a number
--   Digit      a byte is a decimal digit
--   Numeral    bytes are a number as the file writes it
--   value      the number that digits write
--   Proper     the numbers in a line are written as numbers are
--   Spells     some bytes are a line
use Rattle.std.specs.Prelude.{◌≡◌, ℕ, ◌+◌, ◌-◌, ◌*◌, ◌^◌, ◌<◌, ◌≤◌, List, [], ◌∷◌, ◌++◌, length, codes, slice_index, slice_index_or}

-- a line, by what it says; a bid's two numbers are kept as written
pub data Kind : Type 0 where
  header : Kind
  opening : Kind
  closing : Kind
  lot : Kind
  bid : List ℕ → List ℕ → Kind
  remark : List ℕ → Kind
  ending : Kind

-- the bytes of a line: 66 is 'B', 32 a space, 42 '*'
abbrev pub written : Kind → List ℕ
written header = codes "SALE 94"
written opening = codes "G"
written closing = codes "E"
written lot = codes "L"
written (bid buyer price) = 66 ∷ 32 ∷ (buyer ++ (32 ∷ price))
written (remark words) = 42 ∷ words
written ending = codes "END"

-- the most digits of a number
abbrev pub max_digits : ℕ
max_digits = 10

-- a byte is a decimal digit
abbrev pub Digit : ℕ → Type 0
Digit b = (48 ≤ b) × (b ≤ 57)

-- a number is one or more decimal digits, at most ten, with no leading 0 unless it is 0 itself
pub record Numeral (ds : List ℕ) : Type 0 where
  pub some : 0 < length ds
  pub few : length ds ≤ max_digits
  pub digits : (k : ℕ) → k < length ds → Digit (slice_index ds k)
  pub leading : slice_index_or ds 0 0 ≡ 48 → length ds ≡ 1

-- the number that digits write
abbrev pub value : List ℕ → ℕ
value [] = 0
value (d ∷ ds) = (d - 48) * 10 ^ length ds + value ds

-- the numbers in a line are numerals
abbrev pub Proper : Kind → Type 0
Proper (bid buyer price) = Numeral buyer × Numeral price
Proper _ = Unit {0}

-- these bytes are the line k
abbrev pub Spells : List ℕ → Kind → Type 0
Spells bs k = (bs ≡ written k) × Proper k
