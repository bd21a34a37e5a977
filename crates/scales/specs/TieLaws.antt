-- Ties over a lawful semiring are lawful.
use Rattle.std.specs.Prelude.{◌≡◌, ℕ, ◌+◌, ◌<◌, ◌≤◌, min, ◌⊎◌, nat_lt, refl}
use Rattle.std.proofs.Common.{sym, ap, ap₂, subst, ◌∙◌, ⊎_elim, inl, inr, arith}
use mathlib.Core.HLevel.{is_prop→PathP}
use Rattle.std.proofs.Math.Bridge.{le_prop}
use Rattle.std.proofs.Math.Decide.{dec_lt}
use Rattle.std.proofs.lemmas.Bool.{cases_lt, cases_order, lt-ltb, le-ltb, cond-true, cond-false}
use Rattle.scales.specs.Adjoined.{CoreLaws}
use Rattle.scales.specs.Semiring.{Semiring, Laws}
use Rattle.scales.specs.Tied.{Tie, over, amount, tie, tie_add, tie_mul, ties}

module _ (limit : ℕ) {M : Type 0} where
  amount_path : (m n : ℕ) (h : m < limit) (k : n < limit) (x y : M) → m ≡ n → x ≡ y → ◌≡◌ {A = Tie limit M} (amount m h x) (amount n k y)
  amount_path m n h k x y p q =
      λ i. amount (p i) (is_prop→PathP (λ j. p j < limit) (λ j. le_prop) h k i) (q i)

  pub tie_below : (n : ℕ) (x : M) (h : n < limit) → tie limit n x ≡ amount n h x
  tie_below n x h =
      elim (dec_lt n limit)
      as (λ d. ◌≡◌ {A = Tie limit M} (elim d [ yes k ↦ amount n k x | no k ↦ over ]) (amount n h x))
      [ yes k ↦ amount_path n n k h x x refl refl | no k ↦ absurd (k h) ]

  tie_over : (n : ℕ) (x : M) → limit ≤ n → tie limit n x ≡ over
  tie_over n x h =
      elim (dec_lt n limit)
      as (λ d. ◌≡◌ {A = Tie limit M} (elim d [ yes k ↦ amount n k x | no k ↦ over ]) over)
      [ yes k ↦ absurd (omega arith) | no k ↦ refl ]

  -- beyond the limit every amount is read alike
  pub tie_cut : (f : ℕ → M) (n : ℕ) → tie limit n (f n) ≡ tie limit (min limit n) (f (min limit n))
  tie_cut f n = ⊎_elim below above (cases_lt n limit)
    where
      below : n < limit → tie limit n (f n) ≡ tie limit (min limit n) (f (min limit n))
      below h = let e : n ≡ min limit n = omega arith in ap (λ k. tie limit k (f k)) e

      above : limit ≤ n → tie limit n (f n) ≡ tie limit (min limit n) (f (min limit n))
      above h = tie_over n (f n) h ∙ sym (tie_over (min limit n) (f (min limit n)) (omega arith))

  -- what holds of over and of every amount as it is read holds of all
  by_ties : (P : Tie limit M → Type 0) → P over → ((n : ℕ) (x : M) → P (tie limit n x)) → (a : Tie limit M) → P a
  by_ties P o t over = o
  by_ties P o t (amount n h x) = subst P (tie_below n x h) (t n x)

  module _ (op : M → M → M) where
    add_over : (a : Tie limit M) → tie_add limit op a over ≡ over
    add_over over = refl
    add_over (amount n h x) = refl

    mul_over : (a : Tie limit M) → tie_mul limit op a over ≡ over
    mul_over over = refl
    mul_over (amount n h x) = refl

    pub add_less : (m n : ℕ) (x y : M) → m < n → tie_add limit op (tie limit m x) (tie limit n y) ≡ tie limit n y
    add_less m n x y h = ⊎_elim below above (cases_lt n limit)
      where
        below : n < limit → tie_add limit op (tie limit m x) (tie limit n y) ≡ tie limit n y
        below k =
            let j : m < limit = omega arith in
            ap₂ (tie_add limit op) (tie_below m x j) (tie_below n y k) ∙ cond-true (nat_lt m n) _ _ (lt-ltb m n h) ∙ sym (tie_below n y k)

        above : limit ≤ n → tie_add limit op (tie limit m x) (tie limit n y) ≡ tie limit n y
        above k = ap (tie_add limit op (tie limit m x)) (tie_over n y k) ∙ add_over (tie limit m x) ∙ sym (tie_over n y k)

    pub add_more : (m n : ℕ) (x y : M) → n < m → tie_add limit op (tie limit m x) (tie limit n y) ≡ tie limit m x
    add_more m n x y h = ⊎_elim below above (cases_lt m limit)
      where
        below : m < limit → tie_add limit op (tie limit m x) (tie limit n y) ≡ tie limit m x
        below k =
            let j : n < limit = omega arith in
            let i : n ≤ m = omega arith in
            ap₂ (tie_add limit op) (tie_below m x k) (tie_below n y j)
            ∙ cond-false (nat_lt m n) _ _ (le-ltb m n i) ∙ cond-true (nat_lt n m) _ _ (lt-ltb n m h) ∙ sym (tie_below m x k)

        above : limit ≤ m → tie_add limit op (tie limit m x) (tie limit n y) ≡ tie limit m x
        above k = ap (λ a. tie_add limit op a (tie limit n y)) (tie_over m x k) ∙ sym (tie_over m x k)

    pub add_same : (m n : ℕ) (x y : M) → m ≡ n → tie_add limit op (tie limit m x) (tie limit n y) ≡ tie limit m (op x y)
    add_same m n x y e = ⊎_elim below above (cases_lt m limit)
      where
        below : m < limit → tie_add limit op (tie limit m x) (tie limit n y) ≡ tie limit m (op x y)
        below k =
            let j : n < limit = omega arith in
            let i : n ≤ m = omega arith in
            let i' : m ≤ n = omega arith in
            ap₂ (tie_add limit op) (tie_below m x k) (tie_below n y j)
            ∙ cond-false (nat_lt m n) _ _ (le-ltb m n i) ∙ cond-false (nat_lt n m) _ _ (le-ltb n m i') ∙ sym (tie_below m (op x y) k)

        above : limit ≤ m → tie_add limit op (tie limit m x) (tie limit n y) ≡ tie limit m (op x y)
        above k = ap (λ a. tie_add limit op a (tie limit n y)) (tie_over m x k) ∙ sym (tie_over m (op x y) k)

    pub mul_ties : (m n : ℕ) (x y : M) → tie_mul limit op (tie limit m x) (tie limit n y) ≡ tie limit (m + n) (op x y)
    mul_ties m n x y = ⊎_elim (λ h. ⊎_elim (both h) second (cases_lt n limit)) first (cases_lt m limit)
      where
        both : m < limit → n < limit → tie_mul limit op (tie limit m x) (tie limit n y) ≡ tie limit (m + n) (op x y)
        both h k = ap₂ (tie_mul limit op) (tie_below m x h) (tie_below n y k)

        first : limit ≤ m → tie_mul limit op (tie limit m x) (tie limit n y) ≡ tie limit (m + n) (op x y)
        first h = ap (λ a. tie_mul limit op a (tie limit n y)) (tie_over m x h) ∙ sym (tie_over (m + n) (op x y) (omega arith))

        second : limit ≤ n → tie_mul limit op (tie limit m x) (tie limit n y) ≡ tie limit (m + n) (op x y)
        second k = ap (tie_mul limit op (tie limit m x)) (tie_over n y k) ∙ mul_over (tie limit m x) ∙ sym (tie_over (m + n) (op x y) (omega arith))

-- one amount equals another, is below it, or is above it
abbrev Order : ℕ → ℕ → Type 0
Order m n = (m ≡ n) ⊎ ((m < n) ⊎ (n < m))

module _ (limit : ℕ) {M : Type 0} (r : Semiring M) (l : Laws r) where
  abbrev S : Tie limit M → Tie limit M → Tie limit M
  S = tie_add limit r.add

  abbrev P : Tie limit M → Tie limit M → Tie limit M
  P = tie_mul limit r.mul

  abbrev t : ℕ → M → Tie limit M
  t = tie limit

  less : (m n : ℕ) (x y : M) → m < n → S (t m x) (t n y) ≡ t n y
  less = add_less limit r.add

  more : (m n : ℕ) (x y : M) → n < m → S (t m x) (t n y) ≡ t m x
  more = add_more limit r.add

  same : (m n : ℕ) (x y : M) → m ≡ n → S (t m x) (t n y) ≡ t m (r.add x y)
  same = add_same limit r.add

  times : (m n : ℕ) (x y : M) → P (t m x) (t n y) ≡ t (m + n) (r.mul x y)
  times = mul_ties limit r.mul

  comm_at : (m n : ℕ) (x y : M) → Order m n → S (t m x) (t n y) ≡ S (t n y) (t m x)
  comm_at m n x y (inl e) = same m n x y e ∙ ap₂ t e (l.add_comm x y) ∙ sym (same n m y x (sym e))
  comm_at m n x y (inr (inl h)) = less m n x y h ∙ sym (more n m y x h)
  comm_at m n x y (inr (inr h)) = more m n x y h ∙ sym (less n m y x h)

  assoc_at : (m n p : ℕ) (x y z : M) → Order m n → Order n p → S (S (t m x) (t n y)) (t p z) ≡ S (t m x) (S (t n y) (t p z))
  assoc_at m n p x y z (inl e) (inl f) =
      ap (λ a. S a (t p z)) (same m n x y e) ∙ same m p (r.add x y) z (e ∙ f) ∙ ap (t m) (l.add_assoc x y z)
      ∙ sym (ap (S (t m x)) (same n p y z f) ∙ same m n x (r.add y z) e)
  assoc_at m n p x y z (inl e) (inr (inl k)) =
      let j : m < p = omega arith in
      ap (λ a. S a (t p z)) (same m n x y e) ∙ less m p (r.add x y) z j ∙ sym (ap (S (t m x)) (less n p y z k) ∙ less m p x z j)
  assoc_at m n p x y z (inl e) (inr (inr k)) =
      let j : p < m = omega arith in
      ap (λ a. S a (t p z)) (same m n x y e) ∙ more m p (r.add x y) z j ∙ sym (ap (S (t m x)) (more n p y z k) ∙ same m n x y e)
  assoc_at m n p x y z (inr (inl h)) (inl f) =
      ap (λ a. S a (t p z)) (less m n x y h) ∙ same n p y z f ∙ sym (ap (S (t m x)) (same n p y z f) ∙ less m n x (r.add y z) h)
  assoc_at m n p x y z (inr (inl h)) (inr (inl k)) =
      let j : m < p = omega arith in
      ap (λ a. S a (t p z)) (less m n x y h) ∙ less n p y z k ∙ sym (ap (S (t m x)) (less n p y z k) ∙ less m p x z j)
  assoc_at m n p x y z (inr (inl h)) (inr (inr k)) =
      ap (λ a. S a (t p z)) (less m n x y h) ∙ more n p y z k ∙ sym (ap (S (t m x)) (more n p y z k) ∙ less m n x y h)
  assoc_at m n p x y z (inr (inr h)) (inl f) =
      let j : p < m = omega arith in
      ap (λ a. S a (t p z)) (more m n x y h) ∙ more m p x z j ∙ sym (ap (S (t m x)) (same n p y z f) ∙ more m n x (r.add y z) h)
  assoc_at m n p x y z (inr (inr h)) (inr (inl k)) =
      ap (λ a. S a (t p z)) (more m n x y h) ∙ sym (ap (S (t m x)) (less n p y z k))
  assoc_at m n p x y z (inr (inr h)) (inr (inr k)) =
      let j : p < m = omega arith in
      ap (λ a. S a (t p z)) (more m n x y h) ∙ more m p x z j ∙ sym (ap (S (t m x)) (more n p y z k) ∙ more m n x y h)

  distrib_at : (m n p : ℕ) (x y z : M) → Order n p → P (t m x) (S (t n y) (t p z)) ≡ S (P (t m x) (t n y)) (P (t m x) (t p z))
  distrib_at m n p x y z o = start o ∙ sym (ap₂ S (times m n x y) (times m p x z))
    where
      start : Order n p → P (t m x) (S (t n y) (t p z)) ≡ S (t (m + n) (r.mul x y)) (t (m + p) (r.mul x z))
      start (inl f) =
          ap (P (t m x)) (same n p y z f) ∙ times m n x (r.add y z) ∙ ap (t (m + n)) (l.distrib x y z)
          ∙ sym (same (m + n) (m + p) (r.mul x y) (r.mul x z) (ap (λ k. m + k) f))
      start (inr (inl k)) =
          ap (P (t m x)) (less n p y z k) ∙ times m p x z ∙ sym (less (m + n) (m + p) (r.mul x y) (r.mul x z) (omega arith))
      start (inr (inr k)) =
          ap (P (t m x)) (more n p y z k) ∙ times m n x y ∙ sym (more (m + n) (m + p) (r.mul x y) (r.mul x z) (omega arith))

  times_assoc_at : (m n p : ℕ) (x y z : M) → P (P (t m x) (t n y)) (t p z) ≡ P (t m x) (P (t n y) (t p z))
  times_assoc_at m n p x y z =
      let e : m + n + p ≡ m + (n + p) = omega arith in
      ap (λ a. P a (t p z)) (times m n x y) ∙ times (m + n) p (r.mul x y) z ∙ ap₂ t e (l.mul_assoc x y z)
      ∙ sym (ap (P (t m x)) (times n p y z) ∙ times m (n + p) x (r.mul y z))

  sum_over : (a : Tie limit M) → S a over ≡ over
  sum_over = add_over limit r.add

  product_over : (a : Tie limit M) → P a over ≡ over
  product_over = mul_over limit r.mul

  sum_comm : (a b : Tie limit M) → S a b ≡ S b a
  sum_comm =
      by_ties limit _ (λ b. sym (sum_over b)) λ m x.
      by_ties limit _ (sum_over (t m x)) λ n y. comm_at m n x y (cases_order m n)

  sum_assoc : (a b c : Tie limit M) → S (S a b) c ≡ S a (S b c)
  sum_assoc =
      by_ties limit _ (λ b c. refl) λ m x.
      by_ties limit _ (λ c. ap (λ a. S a c) (sum_over (t m x)) ∙ sym (sum_over (t m x))) λ n y.
      by_ties limit _ (sum_over (S (t m x) (t n y)) ∙ sym (ap (S (t m x)) (sum_over (t n y)) ∙ sum_over (t m x))) λ p z.
      assoc_at m n p x y z (cases_order m n) (cases_order n p)

  product_comm : (a b : Tie limit M) → P a b ≡ P b a
  product_comm =
      by_ties limit _ (λ b. sym (product_over b)) λ m x.
      by_ties limit _ (product_over (t m x)) λ n y.
      (let e : m + n ≡ n + m = omega arith in times m n x y ∙ ap₂ t e (l.mul_comm x y) ∙ sym (times n m y x))

  product_assoc : (a b c : Tie limit M) → P (P a b) c ≡ P a (P b c)
  product_assoc =
      by_ties limit _ (λ b c. refl) λ m x.
      by_ties limit _ (λ c. ap (λ a. P a c) (product_over (t m x)) ∙ sym (product_over (t m x))) λ n y.
      by_ties limit _ (product_over (P (t m x) (t n y)) ∙ sym (ap (P (t m x)) (product_over (t n y)) ∙ product_over (t m x))) λ p z.
      times_assoc_at m n p x y z

  product_unit : (a : Tie limit M) → P (t 0 r.unit) a ≡ a
  product_unit =
      by_ties limit _ (product_over (t 0 r.unit)) λ n y.
      (let e : 0 + n ≡ n = omega arith in times 0 n r.unit y ∙ ap₂ t e (l.mul_unit y))

  product_sum : (a b c : Tie limit M) → P a (S b c) ≡ S (P a b) (P a c)
  product_sum =
      by_ties limit _ (λ b c. refl) λ m x.
      by_ties limit _ (λ c. product_over (t m x) ∙ sym (ap (λ a. S a (P (t m x) c)) (product_over (t m x)))) λ n y.
      by_ties limit _
      (ap (P (t m x)) (sum_over (t n y)) ∙ product_over (t m x) ∙ sym (ap (S (P (t m x) (t n y))) (product_over (t m x)) ∙ sum_over (P (t m x) (t n y)))) λ p z.
      distrib_at m n p x y z (cases_order n p)

  pub ties_laws : CoreLaws (ties limit r)
  ties_laws = record {
    add_comm = sum_comm;
    add_assoc = sum_assoc;
    mul_comm = product_comm;
    mul_assoc = product_assoc;
    mul_unit = product_unit;
    distrib = product_sum;
  }
