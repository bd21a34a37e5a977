-- That the rules fix one outcome for each file.
--   Unique   a file is accepted with one contents or refused by one number at one place, and not both
use Rattle.std.specs.Prelude.{◌≡◌, ℕ, List}
use Rattle.salefile.specs.FileContents.{FileContents}
use Rattle.salefile.specs.Files.{Accepted, Refused}

-- a file is accepted with one contents, or refused by one number at one place, and not both
abbrev pub Unique : Type 0
Unique =
    (file : List ℕ) (space : ℕ)
    → ((c c' : FileContents) → Accepted file space c → Accepted file space c' → c ≡ c')
    × ((c : FileContents) (n p : ℕ) → Accepted file space c → Refused file space n p → ⊥)
    × ((n p n' p' : ℕ) → Refused file space n p → Refused file space n' p' → (n ≡ n') × (p ≡ p'))
