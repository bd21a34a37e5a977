-- Counting with numbers cut at a limit is lawful.
use Rattle.std.specs.Prelude.{◌≡◌, ℕ, ◌+◌, ◌*◌, min}
use Rattle.std.proofs.Common.{sym, ap, ◌∙◌, mul_comm, mul_assoc, mul-add, arith}
use Rattle.scales.specs.Count.{counting}
use Rattle.scales.specs.Semiring.{Laws}
use Rattle.scales.specs.Numbers.{upto_path, cut_factor, cut_second}

times_assoc : (limit a b c : ℕ) → min limit (min limit (a * b) * c) ≡ min limit (a * min limit (b * c))
times_assoc limit a b c =
    cut_factor limit (a * b) c ∙ ap (min limit) (mul_assoc a b c) ∙ sym (cut_second limit a (b * c))

times_sum : (limit a b c : ℕ) → min limit (a * min limit (b + c)) ≡ min limit (min limit (a * b) + min limit (a * c))
times_sum limit a b c = cut_second limit a (b + c) ∙ rw mul-add (omega arith)

pub counting_laws : (limit : ℕ) → Laws (counting limit)
counting_laws limit = record {
  add_comm = λ a b. upto_path _ _ (omega arith);
  add_assoc = λ a b c. upto_path _ _ (omega arith);
  add_nought = λ a. upto_path _ _ (omega arith);
  mul_comm = λ a b. upto_path _ _ (ap (min limit) (mul_comm a.number b.number));
  mul_assoc = λ a b c. upto_path _ _ (times_assoc limit a.number b.number c.number);
  mul_unit = λ a. upto_path _ _ (cut_factor limit 1 a.number ∙ omega arith);
  distrib = λ a b c. upto_path _ _ (times_sum limit a.number b.number c.number);
  mul_nought = λ a. upto_path _ _ (cut_factor limit 0 a.number ∙ omega arith);
}
