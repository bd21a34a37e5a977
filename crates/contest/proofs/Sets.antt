-- Sets of bids: two sets with the same members are equal, and preference is decided by one number.
use Rattle.std.proofs.Common.{◌≡◌, ℕ, Bool, true, false, ◌||◌, eqb, ◌⊎◌, sym, refl, ap, ◌∙◌, inl, inr, ⊎_elim}
use Rattle.std.proofs.lemmas.Bool.{cases_order, both_ways, eq-eqb, ne_eqb, eqb-true, or_cases}
use Rattle.contest.specs.Contest.{Bids, adding, Preferred}

-- A test that cannot be true is false.
pub false_since : (b : Bool) → (b ≡ true → ⊥) → b ≡ false
false_since true h = absurd (h refl)
false_since false h = refl

pub true_since : (b : Bool) → (b ≡ false → ⊥) → b ≡ true
true_since true h = refl
true_since false h = absurd (h refl)

-- Two tests are equal if each is true where the other is.
pub same_since : (a b : Bool) → (a ≡ true → b ≡ true) → (b ≡ true → a ≡ true) → a ≡ b
same_since true true h g = refl
same_since true false h g = sym (h refl)
same_since false true h g = g refl
same_since false false h g = refl

pub adding_same : (k : ℕ) (s : Bids) → adding k s k ≡ true
adding_same k s = ap (λ b. b || s k) (eq-eqb k k refl)

pub adding_other : (k : ℕ) (s : Bids) (j : ℕ) → (j ≡ k → ⊥) → adding k s j ≡ s j
adding_other k s j d = ap (λ b. b || s j) (ne_eqb j k d)

-- What is in adding k s is k or was in s.
pub adding_cases : (k : ℕ) (s : Bids) (j : ℕ) → adding k s j ≡ true → (j ≡ k) ⊎ (s j ≡ true)
adding_cases k s j e = ⊎_elim (λ t. inl (eqb-true j k t)) inr (or_cases (eqb j k) (s j) e)

-- Of two sets not both are preferred.
pub preferred_once : (s t : Bids) → Preferred s t → Preferred t s → ⊥
preferred_once s t p q =
    elim (cases_order p.0 q.0) [
      | inl e ↦ both_ways (t p.0) p.2 (ap t e ∙ q.1)
      | inr (inl h) ↦ both_ways (t p.0) p.2 (q.3 p.0 h ∙ p.1)
      | inr (inr h) ↦ both_ways (t q.0) (sym (p.3 q.0 h) ∙ q.2) q.1
    ]
