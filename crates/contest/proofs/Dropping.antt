-- In a total, bids of worth nought count as if they did not stand.
use Rattle.std.proofs.Common.{◌≡◌, ℕ, Bool, true, false, cond, ◌&&◌, List, [], ◌∷◌, sym, refl, ap, ◌∙◌, ap₂}
use Rattle.std.proofs.lemmas.Bool.{cond-true, cond-false}
use Rattle.contest.proofs.Algebra.{mul_nought_right}
use Rattle.contest.specs.Contest.{Contest, only}
use Rattle.scales.specs.Semiring.{Semiring, Laws}
use Rattle.contest.specs.Total.{from, subsets, keep, apart, clash_free, sum_by, product_by, total_by}

-- All of a list pass a test.
abbrev all : (ℕ → Bool) → List ℕ → Bool
all p [] = true
all p (x ∷ xs) = p x && all p xs

-- The test of a list with fewer bids standing.
only_test : (stands : ℕ → Bool) (clash : ℕ → ℕ → Bool) (p : ℕ → Bool) (xs : List ℕ) → clash_free (λ k. stands k && p k) clash xs ≡ (clash_free stands clash xs && all p xs)
only_test stands clash p [] = refl
only_test stands clash p (x ∷ xs) =
    ap (λ w. (stands x && p x) && (apart clash x xs && w)) (only_test stands clash p xs) ∙ regroup (stands x) (p x) (apart clash x xs) (clash_free stands clash xs) (all p xs)
  where
    regroup : (a b c d e : Bool) → ((a && b) && (c && (d && e))) ≡ ((a && (c && d)) && (b && e))
    regroup true true true d e = refl
    regroup true true false d e = refl
    regroup true false true true e = refl
    regroup true false true false e = refl
    regroup true false false d e = refl
    regroup false b c d e = refl

module _ {M : Type 0} (r : Semiring M) (laws : Laws r) (p : ℕ → Bool) (w : ℕ → M) where
  abbrev masked : ℕ → M
  masked k = cond (p k) (w k) r.nought

  -- The product of a list that passes is as before, and of any other nought.
  product_masked : (xs : List ℕ) → product_by r masked xs ≡ cond (all p xs) (product_by r w xs) r.nought
  product_masked [] = refl
  product_masked (x ∷ xs) = ap (r.mul (masked x)) (product_masked xs) ∙ go (p x) (all p xs)
    where
      go : (a b : Bool) → r.mul (cond a (w x) r.nought) (cond b (product_by r w xs) r.nought) ≡ cond (a && b) (r.mul (w x) (product_by r w xs)) r.nought
      go true true = refl
      go true false = mul_nought_right laws (w x)
      go false b = laws.mul_nought _

  sum_masked : (stands : ℕ → Bool) (clash : ℕ → ℕ → Bool) (ls : List (List ℕ)) → sum_by r (product_by r masked) (keep (clash_free stands clash) ls) ≡ sum_by r (product_by r w) (keep (clash_free (λ k. stands k && p k) clash) ls)
  sum_masked stands clash [] = refl
  sum_masked stands clash (x ∷ ls) = go (clash_free stands clash x) (all p x) refl (only_test stands clash p x) (sum_masked stands clash ls)
    where
      go : (a b : Bool) → all p x ≡ b → clash_free (λ k. stands k && p k) clash x ≡ (a && all p x) → sum_by r (product_by r masked) (keep (clash_free stands clash) ls) ≡ sum_by r (product_by r w) (keep (clash_free (λ k. stands k && p k) clash) ls) → sum_by r (product_by r masked) (cond a (x ∷ keep (clash_free stands clash) ls) (keep (clash_free stands clash) ls)) ≡ sum_by r (product_by r w) (cond (clash_free (λ k. stands k && p k) clash x) (x ∷ keep (clash_free (λ k. stands k && p k) clash) ls) (keep (clash_free (λ k. stands k && p k) clash) ls))
      go true true e t ih = ap₂ r.add (product_masked x ∙ cond-true (all p x) _ _ e) ih ∙ sym (ap (sum_by r (product_by r w)) (cond-true _ _ _ (t ∙ e)))
      go true false e t ih = ap₂ r.add (product_masked x ∙ cond-false (all p x) _ _ e) ih ∙ laws.add_nought _ ∙ sym (ap (sum_by r (product_by r w)) (cond-false _ _ _ (t ∙ e)))
      go false b e t ih = ih ∙ sym (ap (sum_by r (product_by r w)) (cond-false _ _ _ t))

  pub nought_drops : (c : Contest) → total_by r c masked ≡ total_by r (only c p) w
  nought_drops c = sum_masked c.stands c.clash (subsets (from 1 c.count))
