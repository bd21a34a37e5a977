use Rattle.std.proofs.Common.{◌≡◌, ℕ, zero, suc, min, refl, ap, arith}
use Rattle.scales.specs.Count.{Counts}
use Rattle.scales.specs.Cut.{top_count}
use Rattle.scales.specs.Tells.{ones}
use Rattle.scales.proofs.laws.counts_differ.Goals as goal

ones_number : (n : ℕ) → (ones n).number ≡ min top_count n
ones_number zero = refl
ones_number (suc n) = omega (arith, ones_number n)

pub returns-clause-apart : goal.returns-clause-apart
returns-clause-apart c = λ m n h k e. omega (arith, ones_number m, ones_number n, ap (λ (a : Counts). a.number) e)
