-- Numbers cut at a limit, and the limits of the scales.
--   Upto        a number of at most the limit
--   cut         the lesser of a number and the limit
--   top_amount  the greatest amount of Revenue and BestThree, and where over begins in Tied
--   top_count   the greatest count
use Rattle.std.specs.Prelude.{ℕ, ◌^◌, ◌≤◌, min}
use Rattle.std.proofs.Common.{arith}

pub record Upto (limit : ℕ) : Type 0 where
  pub number : ℕ
  pub within : number ≤ limit

abbrev pub cut : (limit : ℕ) → ℕ → Upto limit
cut limit n = record { number = min limit n; within = omega arith }

abbrev pub top_amount : ℕ
top_amount = 10 ^ 15

abbrev pub top_count : ℕ
top_count = 999999999
