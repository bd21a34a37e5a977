-- The same contests have the same clash-free sets, so the same totals by any operations.
use Rattle.std.proofs.Common.{◌≡◌, ℕ, zero, suc, ◌+◌, ◌<◌, ◌≤◌, Bool, true, cond, not, ◌≢◌, List, [], ◌∷◌, ◌++◌, map, sym, refl, ap, ◌∙◌, subst, ap₂, arith}
use Rattle.std.proofs.lemmas.Bool.{and_parts, and_from}
use Rattle.scales.specs.Semiring.{Semiring}
use Rattle.contest.specs.Contest.{Contest}
use Rattle.contest.specs.Total.{from, subsets, keep, apart, clash_free, sum_by, product_by, total_by}
use Rattle.contest.specs.Telling.{Same}
use Rattle.contest.proofs.Algebra.{bool_same}

-- the numbers rise, from `low` on and below `high`
abbrev Rising : ℕ → ℕ → List ℕ → Type 0
Rising low high [] = Unit {0}
Rising low high (x ∷ xs) = (low ≤ x) × (x < high) × Rising (suc x) high xs

rising_lower : (low mid high : ℕ) (s : List ℕ) → low ≤ mid → Rising mid high s → Rising low high s
rising_lower low mid high [] l r = tt
rising_lower low mid high (x ∷ xs) l r = (omega (arith, r.0), r.1, r.2)

abbrev Each : (List ℕ → Type 0) → List (List ℕ) → Type 0
Each P [] = Unit {0}
Each P (x ∷ xs) = P x × Each P xs

each_append : (P : List ℕ → Type 0) (xs ys : List (List ℕ)) → Each P xs → Each P ys → Each P (xs ++ ys)
each_append P [] ys a b = b
each_append P (x ∷ xs) ys a b = (a.0, each_append P xs ys a.1 b)

each_map : (P Q : List ℕ → Type 0) (f : List ℕ → List ℕ) (xs : List (List ℕ)) → ((x : List ℕ) → P x → Q (f x)) → Each P xs → Each Q (map f xs)
each_map P Q f [] g a = tt
each_map P Q f (x ∷ xs) g a = (g x a.0, each_map P Q f xs g a.1)

each_of : (P Q : List ℕ → Type 0) (xs : List (List ℕ)) → ((x : List ℕ) → P x → Q x) → Each P xs → Each Q xs
each_of P Q [] g a = tt
each_of P Q (x ∷ xs) g a = (g x a.0, each_of P Q xs g a.1)

subsets_rise : (first n high : ℕ) → first + n ≤ high → Each (Rising first high) (subsets (from first n))
subsets_rise first zero high l = (tt, tt)
subsets_rise first (suc n) high l =
    let rest = subsets_rise (suc first) n high (omega arith) in
    each_append _ _ _ (each_of _ _ _ (λ s. rising_lower first (suc first) high s (omega arith)) rest)
    (each_map _ _ _ _ (λ s r. (omega arith, omega arith, r)) rest)

keep_each : (p q : List ℕ → Bool) (xs : List (List ℕ)) → Each (λ s. p s ≡ q s) xs → keep p xs ≡ keep q xs
keep_each p q [] a = refl
keep_each p q (x ∷ xs) a = ap₂ (λ v l. cond v (x ∷ l) l) a.0 (keep_each p q xs a.1)

module _ (c d : Contest) (same : Same c d) where
  apart_goes : (b low : ℕ) (s : List ℕ) → 1 ≤ b → b < low → b ≤ c.count → c.stands b ≡ true → Rising low (suc c.count) s → clash_free c.stands c.clash s ≡ true → apart c.clash b s ≡ true → apart d.clash b s ≡ true
  apart_goes b low [] pos lt top e r f a = refl
  apart_goes b low (x ∷ s) pos lt top e r f a =
      let g = and_parts (c.stands x) _ f in
      let h = and_parts (not (c.clash b x)) _ a in
      let ne : b ≢ x = omega (arith, r.0) in
      and_from _ _ (ap not (sym (same.clash b x pos top (omega (arith, r.0)) (omega (arith, r.1)) ne e g.0)) ∙ h.0)
      (apart_goes b (suc x) s pos (omega (arith, r.0)) top e r.2 (and_parts _ _ g.1).1 h.1)

  free_goes : (low : ℕ) (s : List ℕ) → 1 ≤ low → Rising low (suc c.count) s → clash_free c.stands c.clash s ≡ true → clash_free d.stands d.clash s ≡ true
  free_goes low [] pos r f = refl
  free_goes low (x ∷ s) pos r f =
      let g = and_parts (c.stands x) _ f in
      let h = and_parts (apart c.clash x s) _ g.1 in
      and_from _ _ (sym (same.stands x (omega (arith, r.0)) (omega (arith, r.1))) ∙ g.0)
      (and_from _ _ (apart_goes x (suc x) s (omega (arith, r.0)) (omega arith) (omega (arith, r.1)) g.0 r.2 h.1 h.0)
      (free_goes (suc x) s (omega arith) r.2 h.1))

pub same_sym : (c d : Contest) → Same c d → Same d c
same_sym c d same = record {
  count = sym same.count;
  stands = λ b l h. sym (same.stands b l (omega (arith, same.count)));
  clash = λ a b la ha lb hb ne sa sb.
      let xa : a ≤ c.count = omega (arith, same.count) in
      let xb : b ≤ c.count = omega (arith, same.count) in
      sym (same.clash a b la xa lb xb ne (same.stands a la xa ∙ sa) (same.stands b lb xb ∙ sb));
}

-- By any operations, lawful or not, the same contests have the same total.
pub same_total : {M : Type 0} (r : Semiring M) (c d : Contest) → Same c d → (w : ℕ → M) → total_by r c w ≡ total_by r d w
same_total r c d same w =
    ap (sum_by r (product_by r w))
    (keep_each _ _ (subsets (from 1 c.count))
    (each_of _ _ _ (λ s rise. bool_same _ _ (free_goes c d same 1 s (omega arith) rise) (free_goes d c (same_sym c d same) 1 s (omega arith) (subst (λ n. Rising 1 (suc n) s) same.count rise)))
    (subsets_rise 1 c.count (suc c.count) (omega arith)))
    ∙ ap (λ n. keep (clash_free d.stands d.clash) (subsets (from 1 n))) same.count)
