-- Numbers cut at a limit.
use Rattle.std.specs.Prelude.{◌≡◌, ℕ, ◌*◌, ◌<◌, ◌≤◌, min}
use Rattle.std.proofs.Common.{ap, ◌∙◌, ⊎_elim, mul_comm, mul-zero, mul-le-mul_right, le-mul_of_pos_right, arith}
use mathlib.Core.HLevel.{is_prop→PathP}
use Rattle.std.proofs.Math.Bridge.{le_prop}
use Rattle.std.proofs.lemmas.Bool.{cases_lt}
use Rattle.scales.specs.Cut.{Upto, cut}

-- a number within the limit is known by its value
pub upto_path : {limit : ℕ} (a b : Upto limit) → a.number ≡ b.number → a ≡ b
upto_path {limit} a b p = λ i. record {
  number = p i;
  within = is_prop→PathP (λ j. p j ≤ limit) (λ j. le_prop) a.within b.within i;
}

-- a factor may be cut before the product is
pub cut_factor : (limit m n : ℕ) → min limit (min limit m * n) ≡ min limit (m * n)
cut_factor limit m n = ⊎_elim small (λ (h : limit ≤ m). ⊎_elim (none h) (large h) (cases_lt 0 n)) (cases_lt m limit)
  where
    small : m < limit → min limit (min limit m * n) ≡ min limit (m * n)
    small h = let e : min limit m ≡ m = omega arith in rw e

    large : limit ≤ m → n ≤ 0 → min limit (min limit m * n) ≡ min limit (m * n)
    large h z = let e : n ≡ 0 = omega arith in simp (e, mul-zero)

    none : limit ≤ m → 0 < n → min limit (min limit m * n) ≡ min limit (m * n)
    none h p =
        let e : min limit m ≡ limit = omega arith in
        let k : limit * n ≤ m * n = mul-le-mul_right n h in
        let j : limit ≤ limit * n = le-mul_of_pos_right limit p in
        rw e (omega arith)

pub cut_second : (limit m n : ℕ) → min limit (m * min limit n) ≡ min limit (m * n)
cut_second limit m n =
    ap (min limit) (mul_comm m (min limit n)) ∙ cut_factor limit n m ∙ ap (min limit) (mul_comm n m)

pub cut_factors : (limit m n : ℕ) → min limit (min limit m * min limit n) ≡ min limit (m * n)
cut_factors limit m n = cut_factor limit m (min limit n) ∙ cut_second limit m n

pub cut_path : (limit m n : ℕ) → min limit m ≡ min limit n → cut limit m ≡ cut limit n
cut_path limit m n p = upto_path (cut limit m) (cut limit n) p
