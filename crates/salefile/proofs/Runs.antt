-- The test whether two runs are the same.
use Rattle.std.proofs.Common.{◌≡◌, ◌==◌, ◌&&◌, true, false, arith}
use Rattle.std.proofs.lemmas.Bool.Decides.{nat_tests}
use Rattle.packages.specs.declared.run.Run.{Run}

pub same_run : (x y : Run) → (x.first == y.first && x.last == y.last) ≡ true → x ≡ y
same_run x y e = grind (arith, nat_tests)

pub other_run : (x y : Run) → (x.first == y.first && x.last == y.last) ≡ false → x ≡ y → ⊥
other_run x y e is = grind (arith, nat_tests)
