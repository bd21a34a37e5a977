-- The greater of two amounts, and two amounts added, cut at the limit, are lawful.
use Rattle.std.specs.Prelude.{ℕ}
use Rattle.std.proofs.Common.{arith}
use Rattle.scales.specs.Adjoined.{CoreLaws}
use Rattle.scales.specs.Revenue.{greatest}
use Rattle.scales.specs.Numbers.{upto_path}

pub greatest_laws : (limit : ℕ) → CoreLaws (greatest limit)
greatest_laws limit = record {
  add_comm = λ a b. upto_path _ _ (omega arith);
  add_assoc = λ a b c. upto_path _ _ (omega arith);
  mul_comm = λ a b. upto_path _ _ (omega arith);
  mul_assoc = λ a b c. upto_path _ _ (omega arith);
  mul_unit = λ a. upto_path _ _ (omega arith);
  distrib = λ a b c. upto_path _ _ (omega arith);
}
