-- Counts are a lawful scale coded by numbers, so the coded scales tell contests apart.
use Rattle.std.proofs.Common.{◌≡◌, ℕ, zero, suc, List, [], ◌∷◌, map, get_or, sym, refl, ap, ◌∙◌, ap₂, arith}
use Rattle.std.proofs.Math.ListN.{length-map}
use Rattle.scales.specs.Semiring.{Semiring, Laws}
use Rattle.scales.specs.Cut.{cut, top_count}
use Rattle.scales.specs.Count.{counts}
use Rattle.scales.specs.Numbers.{upto_path}
use Rattle.scales.specs.CountLaws.{counting_laws}
use Rattle.contest.specs.Contest.{Contest}
use Rattle.contest.specs.Total.{keep, subsets, from, clash_free, sum_by, product_by, worth, total}
use Rattle.contest.specs.Telling.{Agree}
use Rattle.contest.specs.Coded.{Lawful, AgreeCoded, TotalsTell}
use Rattle.contest.proofs.Kept.{same_total}
use Rattle.contest.proofs.Tells.{agree_same}

-- A semiring whose values are coded: `code` of a value is a number that `value` turns back.
module _ {M : Type 0} (r : Semiring M) (code : M → ℕ) (value : ℕ → M) (back : (x : M) → value (code x) ≡ x) where
  abbrev pub coded : Semiring ℕ
  coded = record {
    nought = code r.nought;
    unit = code r.unit;
    add = λ a b. code (r.add (value a) (value b));
    mul = λ a b. code (r.mul (value a) (value b));
  }

  abbrev pub meant : ℕ → ℕ
  meant a = code (value a)

  -- equal in meaning, equal as values
  known : (a b : ℕ) → meant a ≡ meant b → value a ≡ value b
  known a b e = sym (back (value a)) ∙ ap value e ∙ back (value b)

  pub coded_lawful : Laws r → Lawful coded meant
  coded_lawful laws = record {
    add_follows = λ a b c d e f. ap₂ (λ x y. code (value (code (r.add x y)))) (known a c e) (known b d f);
    mul_follows = λ a b c d e f. ap₂ (λ x y. code (value (code (r.mul x y)))) (known a c e) (known b d f);
    add_comm = λ a b. ap (λ x. code (value (code x))) (laws.add_comm (value a) (value b));
    add_assoc = λ a b c. ap (λ x. code (value (code x))) (ap (λ x. r.add x (value c)) (back _) ∙ laws.add_assoc (value a) (value b) (value c) ∙ sym (ap (r.add (value a)) (back _)));
    add_nought = λ a. ap code (back _ ∙ ap (λ x. r.add x (value a)) (back _) ∙ laws.add_nought (value a));
    mul_comm = λ a b. ap (λ x. code (value (code x))) (laws.mul_comm (value a) (value b));
    mul_assoc = λ a b c. ap (λ x. code (value (code x))) (ap (λ x. r.mul x (value c)) (back _) ∙ laws.mul_assoc (value a) (value b) (value c) ∙ sym (ap (r.mul (value a)) (back _)));
    mul_unit = λ a. ap code (back _ ∙ ap (λ x. r.mul x (value a)) (back _) ∙ laws.mul_unit (value a));
    distrib = λ a b c. ap (λ x. code (value (code x))) (ap (r.mul (value a)) (back _) ∙ laws.distrib (value a) (value b) (value c) ∙ sym (ap₂ r.add (back _) (back _)));
    mul_nought = λ a. ap code (back _ ∙ ap (λ x. r.mul x (value a)) (back _) ∙ laws.mul_nought (value a) ∙ sym (back r.nought));
  }

  value_product : (w : ℕ → ℕ) (s : List ℕ) → value (product_by coded w s) ≡ product_by r (λ k. value (w k)) s
  value_product w [] = back r.unit
  value_product w (x ∷ s) = back _ ∙ ap (r.mul (value (w x))) (value_product w s)

  value_sum : (w : ℕ → ℕ) (ss : List (List ℕ)) → value (sum_by coded (product_by coded w) ss) ≡ sum_by r (product_by r (λ k. value (w k))) ss
  value_sum w [] = back r.nought
  value_sum w (s ∷ ss) = back _ ∙ ap₂ r.add (value_product w s) (value_sum w ss)

  get_d_code : (ws : List M) (k : ℕ) → value (get_or (map code ws) k (code r.nought)) ≡ get_or ws k r.nought
  get_d_code [] k = back r.nought
  get_d_code (w ∷ ws) zero = back w
  get_d_code (w ∷ ws) (suc k) = get_d_code ws k

  worth_code : (ws : List M) (k : ℕ) → value (worth coded (map code ws) k) ≡ worth r ws k
  worth_code ws zero = back r.nought
  worth_code ws (suc k) = get_d_code ws k

  product_worths : (v w : ℕ → M) (s : List ℕ) → ((k : ℕ) → v k ≡ w k) → product_by r v s ≡ product_by r w s
  product_worths v w [] e = refl
  product_worths v w (x ∷ s) e = ap₂ r.mul (e x) (product_worths v w s e)

  sum_worths : (v w : ℕ → M) (ss : List (List ℕ)) → ((k : ℕ) → v k ≡ w k) → sum_by r (product_by r v) ss ≡ sum_by r (product_by r w) ss
  sum_worths v w [] e = refl
  sum_worths v w (s ∷ ss) e = ap₂ r.add (product_worths v w s e) (sum_worths v w ss e)

  total_code : (c : Contest) (ws : List M) → value (total coded c (map code ws)) ≡ total r c ws
  total_code c ws =
      let ss = keep (clash_free c.stands c.clash) (subsets (from 1 c.count)) in
      value_sum (worth coded (map code ws)) ss ∙ sum_worths _ _ ss (worth_code ws)

  pub coded_agree : Laws r → (c d : Contest) → AgreeCoded c d → Agree r c d
  coded_agree laws c d agree ws long =
      sym (total_code c ws)
      ∙ known _ _ (agree coded meant (coded_lawful laws) (map code ws) (length-map ws code ∙ long))
      ∙ total_code d ws

pub totals_tell : TotalsTell
totals_tell c d sc sd many = (
  λ same r meaning lawful ws long. ap meaning (same_total r c d same (worth r ws)),
  λ agree. agree_same c d sc sd many (coded_agree counts (λ x. x.number) (cut top_count) (λ x. upto_path _ _ (omega (arith, x.within))) (counting_laws top_count) c d agree),
)
