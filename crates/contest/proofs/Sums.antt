-- Sums and tests over the numbers 1 to n.
use Rattle.std.proofs.Common.{◌≡◌, ℕ, zero, suc, ◌+◌, ◌≤◌, Bool, true, false, ◌||◌, sym, refl, ap, ◌∙◌, ap₂, inl, inr, arith}
use Rattle.std.proofs.lemmas.Bool.{cases_eq, and_parts, and_from, or_left, or_right, or_from}
use Rattle.contest.specs.Contest.{sum, every, some}

pub sum_same : (n : ℕ) (f g : ℕ → ℕ) → ((k : ℕ) → 1 ≤ k → k ≤ n → f k ≡ g k) → sum n f ≡ sum n g
sum_same zero f g h = refl
sum_same (suc n) f g h =
    let e = sum_same n f g (λ k a b. h k a (omega arith)) in
    let d : f (suc n) ≡ g (suc n) = h (suc n) (omega arith) (omega arith) in
    omega arith

pub sum_le : (n : ℕ) (f g : ℕ → ℕ) → ((k : ℕ) → 1 ≤ k → k ≤ n → f k ≤ g k) → sum n f ≤ sum n g
sum_le zero f g h = omega arith
sum_le (suc n) f g h =
    let e = sum_le n f g (λ k a b. h k a (omega arith)) in
    let d : f (suc n) ≤ g (suc n) = h (suc n) (omega arith) (omega arith) in
    omega arith

pub sum_plus : (n : ℕ) (f g : ℕ → ℕ) → sum n (λ k. f k + g k) ≡ sum n f + sum n g
sum_plus zero f g = refl
sum_plus (suc n) f g = let e = sum_plus n f g in omega arith

-- One term is at most the sum.
pub sum_term : (n : ℕ) (f : ℕ → ℕ) (k : ℕ) → 1 ≤ k → k ≤ n → f k ≤ sum n f
sum_term zero f k a b = absurd (omega arith)
sum_term (suc n) f k a b =
    elim (cases_eq k (suc n)) [
      | inl e ↦ (let d : f k ≡ f (suc n) = ap f e in omega arith)
      | inr d ↦ (let e : f k ≤ sum n f = sum_term n f k a (omega arith) in omega arith)
    ]

pub every_at : (n : ℕ) (p : ℕ → Bool) → every n p ≡ true → (k : ℕ) → 1 ≤ k → k ≤ n → p k ≡ true
every_at zero p e k a b = absurd (omega arith)
every_at (suc n) p e k a b =
    let both = and_parts (every n p) (p (suc n)) e in
    elim (cases_eq k (suc n)) [
      | inl d ↦ ap p d ∙ both.1
      | inr d ↦ every_at n p both.0 k a (omega arith)
    ]

pub every_from : (n : ℕ) (p : ℕ → Bool) → ((k : ℕ) → 1 ≤ k → k ≤ n → p k ≡ true) → every n p ≡ true
every_from zero p h = refl
every_from (suc n) p h =
    and_from (every n p) (p (suc n)) (every_from n p (λ k a b. h k a (omega arith))) (h (suc n) (omega arith) (omega arith))

pub some_from : (n : ℕ) (p : ℕ → Bool) (k : ℕ) → 1 ≤ k → k ≤ n → p k ≡ true → some n p ≡ true
some_from zero p k a b e = absurd (omega arith)
some_from (suc n) p k a b e =
    elim (cases_eq k (suc n)) [
      | inl d ↦ or_right (some n p) (p (suc n)) (ap p (sym d) ∙ e)
      | inr d ↦ or_left (some n p) (p (suc n)) (some_from n p k a (omega arith) e)
    ]

pub some_same : (n : ℕ) (p q : ℕ → Bool) → ((k : ℕ) → 1 ≤ k → k ≤ n → p k ≡ q k) → some n p ≡ some n q
some_same zero p q h = refl
some_same (suc n) p q h = ap₂ ◌||◌ (some_same n p q (λ k a b. h k a (omega arith))) (h (suc n) (omega arith) (omega arith))

pub some_none : (n : ℕ) (p : ℕ → Bool) → ((k : ℕ) → 1 ≤ k → k ≤ n → p k ≡ false) → some n p ≡ false
some_none zero p h = refl
some_none (suc n) p h = or_from (some n p) (p (suc n)) (some_none n p (λ k a b. h k a (omega arith))) (h (suc n) (omega arith) (omega arith))
