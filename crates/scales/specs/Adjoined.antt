-- A nought put under values that have a unit, a sum and a product: none adds nothing, and none times anything is none.
--   Core, CoreLaws  a semiring without its nought, and its laws
--   add_some        the one that is there, or the sum of both
--   mul_both        the product of both, if both are there
--   adjoined        the semiring with none as its nought
use Rattle.std.specs.Prelude.{◌≡◌, Some, None, Option}
use Rattle.scales.specs.Semiring.{Semiring}

pub record Core (A : Type 0) : Type 0 where
  pub unit : A
  pub add : A → A → A
  pub mul : A → A → A

pub record CoreLaws {A : Type 0} (r : Core A) : Type 0 where
  pub add_comm : (a b : A) → r.add a b ≡ r.add b a
  pub add_assoc : (a b c : A) → r.add (r.add a b) c ≡ r.add a (r.add b c)
  pub mul_comm : (a b : A) → r.mul a b ≡ r.mul b a
  pub mul_assoc : (a b c : A) → r.mul (r.mul a b) c ≡ r.mul a (r.mul b c)
  pub mul_unit : (a : A) → r.mul r.unit a ≡ a
  pub distrib : (a b c : A) → r.mul a (r.add b c) ≡ r.add (r.mul a b) (r.mul a c)

abbrev pub add_some : {A : Type 0} → (A → A → A) → Option A → Option A → Option A
add_some add None b = b
add_some add (Some x) None = Some x
add_some add (Some x) (Some y) = Some (add x y)

abbrev pub mul_both : {A : Type 0} → (A → A → A) → Option A → Option A → Option A
mul_both mul None b = None
mul_both mul (Some x) None = None
mul_both mul (Some x) (Some y) = Some (mul x y)

abbrev pub adjoined : {A : Type 0} → Core A → Semiring (Option A)
adjoined r = record { nought = None; unit = Some r.unit; add = add_some r.add; mul = mul_both r.mul }
