-- Sums of a function over a list.
use Rattle.std.specs.Prelude.{◌≡◌, ℕ, ◌+◌, ◌≤◌, List, [], ◌∷◌, ◌++◌, map, refl}
use Rattle.std.proofs.Common.{sym, ap, ap₂, ◌∙◌, zero-add, arith}
use Rattle.scales.specs.Best.{pair_sums, total}

pub total_same : (f g : ℕ → ℕ) → ((x : ℕ) → f x ≡ g x) → (xs : List ℕ) → total f xs ≡ total g xs
total_same f g e [] = refl
total_same f g e (x ∷ xs) = ap₂ ◌+◌ (e x) (total_same f g e xs)

pub total_le : (f g : ℕ → ℕ) → ((x : ℕ) → f x ≤ g x) → (xs : List ℕ) → total f xs ≤ total g xs
total_le f g e [] = omega arith
total_le f g e (x ∷ xs) = omega (arith, e x, total_le f g e xs)

pub total_append : (g : ℕ → ℕ) (xs ys : List ℕ) → total g (xs ++ ys) ≡ total g xs + total g ys
total_append g [] ys = sym (zero-add (total g ys))
total_append g (x ∷ xs) ys = omega (arith, total_append g xs ys)

pub total_map : (g f : ℕ → ℕ) (xs : List ℕ) → total g (map f xs) ≡ total (λ x. g (f x)) xs
total_map g f [] = refl
total_map g f (x ∷ xs) = ap (λ n. g (f x) + n) (total_map g f xs)

total_plus : (f g : ℕ → ℕ) (xs : List ℕ) → total (λ x. f x + g x) xs ≡ total f xs + total g xs
total_plus f g [] = refl
total_plus f g (x ∷ xs) = omega (arith, total_plus f g xs)

total_nought : (xs : List ℕ) → total (λ x. 0) xs ≡ 0
total_nought [] = refl
total_nought (x ∷ xs) = omega (arith, total_nought xs)

-- the two sums of a double sum change places
total_swap : (f : ℕ → ℕ → ℕ) (xs ys : List ℕ) → total (λ x. total (f x) ys) xs ≡ total (λ y. total (λ x. f x y) xs) ys
total_swap f [] ys = sym (total_nought ys)
total_swap f (x ∷ xs) ys =
    ap (λ n. total (f x) ys + n) (total_swap f xs ys) ∙ sym (total_plus (f x) (λ y. total (λ x. f x y) xs) ys)

pub total_pairs : (g : ℕ → ℕ) (xs ys : List ℕ) → total g (pair_sums xs ys) ≡ total (λ x. total (λ y. g (x + y)) ys) xs
total_pairs g [] ys = refl
total_pairs g (x ∷ xs) ys =
    total_append g (map (λ y. x + y) ys) (pair_sums xs ys) ∙ ap₂ ◌+◌ (total_map g (λ y. x + y) ys) (total_pairs g xs ys)

-- the same, by the second list
pub total_pairs_second : (g : ℕ → ℕ) (xs ys : List ℕ) → total g (pair_sums xs ys) ≡ total (λ y. total (λ x. g (x + y)) xs) ys
total_pairs_second g xs ys = total_pairs g xs ys ∙ total_swap (λ x y. g (x + y)) xs ys
