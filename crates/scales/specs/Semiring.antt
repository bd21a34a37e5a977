-- Commutative semirings.
--   Semiring  two values, nought and unit, and two operations, the sum and the product
--   Laws      the laws of a commutative semiring
use Rattle.std.specs.Prelude.{◌≡◌}

pub record Semiring (M : Type 0) : Type 0 where
  pub nought : M
  pub unit : M
  pub add : M → M → M
  pub mul : M → M → M

pub record Laws {M : Type 0} (r : Semiring M) : Type 0 where
  pub add_comm : (a b : M) → r.add a b ≡ r.add b a
  pub add_assoc : (a b c : M) → r.add (r.add a b) c ≡ r.add a (r.add b c)
  pub add_nought : (a : M) → r.add r.nought a ≡ a
  pub mul_comm : (a b : M) → r.mul a b ≡ r.mul b a
  pub mul_assoc : (a b c : M) → r.mul (r.mul a b) c ≡ r.mul a (r.mul b c)
  pub mul_unit : (a : M) → r.mul r.unit a ≡ a
  pub distrib : (a b c : M) → r.mul a (r.add b c) ≡ r.add (r.mul a b) (r.mul a c)
  pub mul_nought : (a : M) → r.mul r.nought a ≡ r.nought
