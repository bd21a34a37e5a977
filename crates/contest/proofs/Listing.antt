-- Lists read by place, and sums over the numbers from 1 on, one more at a time.
use Rattle.std.proofs.Common.{◌≡◌, ℕ, zero, suc, ◌+◌, ◌<◌, Bool, true, false, cond, List, [], ◌∷◌, ◌++◌, map, length, get_or, refl, ap, ◌∙◌, arith}
use Rattle.scales.specs.Semiring.{Semiring, Laws}
use Rattle.contest.specs.Total.{from, keep, sum_by}
use Rattle.contest.proofs.Algebra.{add_nought_right, keep_append, sum_append, add_cond}

pub from_more : (first n : ℕ) → from first (suc n) ≡ from first n ++ ((first + n) ∷ [])
from_more first zero = let e : first ≡ first + 0 = omega arith in ap (λ x. x ∷ []) e
from_more first (suc n) =
    let e : suc first + n ≡ first + suc n = omega arith in
    ap (λ l. first ∷ l) (from_more (suc first) n ∙ ap (λ x. from (suc first) n ++ (x ∷ [])) e)

-- an element at a default of its own
pub get_d_any : {A : Type 0} (xs : List A) (i : ℕ) (d e : A) → i < length xs → get_or xs i d ≡ get_or xs i e
get_d_any [] i d e low = absurd (omega arith)
get_d_any (x ∷ xs) zero d e low = refl
get_d_any (x ∷ xs) (suc i) d e low = get_d_any xs i d e (omega arith)

pub get_or_mapped : {A B : Type 0} (f : A → B) (xs : List A) (i : ℕ) (d : B) (e : A) → i < length xs → get_or (map f xs) i d ≡ f (get_or xs i e)
get_or_mapped f [] i d e low = absurd (omega arith)
get_or_mapped f (x ∷ xs) zero d e low = refl
get_or_mapped f (x ∷ xs) (suc i) d e low = get_or_mapped f xs i d e (omega arith)

-- the worths of those of the numbers 1 to i that pass
abbrev pub sum_front : {M : Type 0} → Semiring M → (ℕ → M) → (ℕ → Bool) → ℕ → M
sum_front r w p i = sum_by r w (keep p (from 1 i))

module _ {M : Type 0} {r : Semiring M} (laws : Laws r) (w : ℕ → M) (p : ℕ → Bool) (i : ℕ) where
  front_more : sum_front r w p (i + 1) ≡ cond (p (i + 1)) (r.add (sum_front r w p i) (w (i + 1))) (sum_front r w p i)
  front_more =
      let next : i + 1 ≡ suc i = omega arith in
      let at : 1 + i ≡ i + 1 = omega arith in
      ap (sum_front r w p) next
      ∙ ap (λ l. sum_by r w (keep p l)) (from_more 1 i ∙ ap (λ x. from 1 i ++ (x ∷ [])) at)
      ∙ ap (sum_by r w) (keep_append p (from 1 i) ((i + 1) ∷ []))
      ∙ sum_append laws w (keep p (from 1 i)) (keep p ((i + 1) ∷ []))
      ∙ ap (r.add (sum_front r w p i)) (one (p (i + 1)))
      ∙ add_cond laws (p (i + 1)) (sum_front r w p i) (w (i + 1))
    where
      one : (v : Bool) → sum_by r w (cond v ((i + 1) ∷ []) []) ≡ cond v (w (i + 1)) r.nought
      one true = add_nought_right laws _
      one false = refl

  pub front_adds : p (i + 1) ≡ true → sum_front r w p (i + 1) ≡ r.add (sum_front r w p i) (w (i + 1))
  front_adds e = front_more ∙ ap (λ v. cond v (r.add (sum_front r w p i) (w (i + 1))) (sum_front r w p i)) e

  pub front_skips : p (i + 1) ≡ false → sum_front r w p (i + 1) ≡ sum_front r w p i
  front_skips e = front_more ∙ ap (λ v. cond v (r.add (sum_front r w p i) (w (i + 1))) (sum_front r w p i)) e
