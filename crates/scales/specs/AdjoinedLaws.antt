-- The laws hold once a nought is adjoined.
use Rattle.std.specs.Prelude.{◌≡◌, Some, None, Option, refl}
use Rattle.std.proofs.Common.{ap}
use Rattle.scales.specs.Adjoined.{Core, CoreLaws, add_some, mul_both, adjoined}
use Rattle.scales.specs.Semiring.{Laws}

both_comm : {A : Type 0} (op : A → A → A) → ((a b : A) → op a b ≡ op b a) → (a b : Option A) → mul_both op a b ≡ mul_both op b a
both_comm op e None None = refl
both_comm op e None (Some y) = refl
both_comm op e (Some x) None = refl
both_comm op e (Some x) (Some y) = ap Some (e x y)

some_comm : {A : Type 0} (op : A → A → A) → ((a b : A) → op a b ≡ op b a) → (a b : Option A) → add_some op a b ≡ add_some op b a
some_comm op e None None = refl
some_comm op e None (Some y) = refl
some_comm op e (Some x) None = refl
some_comm op e (Some x) (Some y) = ap Some (e x y)

both_assoc : {A : Type 0} (op : A → A → A) → ((a b c : A) → op (op a b) c ≡ op a (op b c)) → (a b c : Option A) → mul_both op (mul_both op a b) c ≡ mul_both op a (mul_both op b c)
both_assoc op e None b c = refl
both_assoc op e (Some x) None c = refl
both_assoc op e (Some x) (Some y) None = refl
both_assoc op e (Some x) (Some y) (Some z) = ap Some (e x y z)

some_assoc : {A : Type 0} (op : A → A → A) → ((a b c : A) → op (op a b) c ≡ op a (op b c)) → (a b c : Option A) → add_some op (add_some op a b) c ≡ add_some op a (add_some op b c)
some_assoc op e None b c = refl
some_assoc op e (Some x) None c = refl
some_assoc op e (Some x) (Some y) None = refl
some_assoc op e (Some x) (Some y) (Some z) = ap Some (e x y z)

both_unit : {A : Type 0} (op : A → A → A) (u : A) → ((a : A) → op u a ≡ a) → (a : Option A) → mul_both op (Some u) a ≡ a
both_unit op u e None = refl
both_unit op u e (Some x) = ap Some (e x)

both_some : {A : Type 0} (add mul : A → A → A) → ((a b c : A) → mul a (add b c) ≡ add (mul a b) (mul a c)) → (a b c : Option A) → mul_both mul a (add_some add b c) ≡ add_some add (mul_both mul a b) (mul_both mul a c)
both_some add mul e None b c = refl
both_some add mul e (Some x) None c = refl
both_some add mul e (Some x) (Some y) None = refl
both_some add mul e (Some x) (Some y) (Some z) = ap Some (e x y z)

pub adjoined_laws : {A : Type 0} (r : Core A) → CoreLaws r → Laws (adjoined r)
adjoined_laws r l = record {
  add_comm = some_comm r.add l.add_comm;
  add_assoc = some_assoc r.add l.add_assoc;
  add_nought = λ a. refl;
  mul_comm = both_comm r.mul l.mul_comm;
  mul_assoc = both_assoc r.mul l.mul_assoc;
  mul_unit = both_unit r.mul r.unit l.mul_unit;
  distrib = both_some r.add r.mul l.distrib;
  mul_nought = λ a. refl;
}
