-- Count is not trivial.
--   ones          so many ones added
--   OneToFour     1, 2, 3 and 4 are that many ones
--   TellsApart    different numbers of ones, up to 999,999,999, are different counts
use Rattle.std.specs.Prelude.{◌≡◌, ℕ, zero, suc, ◌≤◌}
use Rattle.scales.specs.Count.{Counts, counts}
use Rattle.scales.specs.Cut.{top_count}

abbrev pub ones : ℕ → Counts
ones zero = counts.nought
ones (suc n) = counts.add counts.unit (ones n)

abbrev pub OneToFour : Type 0
OneToFour = ((ones 1).number ≡ 1) × ((ones 2).number ≡ 2) × ((ones 3).number ≡ 3) × ((ones 4).number ≡ 4)

abbrev pub TellsApart : Type 0
TellsApart = (m n : ℕ) → m ≤ top_count → n ≤ top_count → ones m ≡ ones n → m ≡ n
