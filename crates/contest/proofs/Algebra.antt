-- Small laws of tests, of sums over lists and of a semiring.
use Rattle.std.proofs.Common.{◌≡◌, ℕ, zero, suc, ◌+◌, ◌<◌, ◌≤◌, Bool, true, false, cond, ◌&&◌, List, [], ◌∷◌, ◌++◌, map, sym, refl, ap, ◌∙◌, ap₂, true≢false, arith}
use mathlib.Core.Path.{fun_ext}
use mathlib.Core.Bool.{false≢true}
use Rattle.scales.specs.Semiring.{Semiring, Laws}
use Rattle.contest.specs.Total.{from, keep, sum_by, product_by}

-- two tests that imply one another
pub bool_same : (a b : Bool) → (a ≡ true → b ≡ true) → (b ≡ true → a ≡ true) → a ≡ b
bool_same true b f g = sym (f refl)
bool_same false true f g = g refl
bool_same false false f g = refl

pub not_true : (b : Bool) → (b ≡ true → ⊥) → b ≡ false
not_true true f = absurd (f refl)
not_true false f = refl

pub and_same : (u v a b : Bool) → u ≡ v → (u ≡ true → a ≡ b) → (u && a) ≡ (v && b)
and_same true true a b e f = f refl
and_same true false a b e f = absurd (true≢false e)
and_same false true a b e f = absurd (false≢true e)
and_same false false a b e f = refl

pub cond_same : {A : Type 0} (u v : Bool) (a b x y : A) → u ≡ v → (u ≡ true → a ≡ b) → x ≡ y → cond u a x ≡ cond v b y
cond_same true true a b x y e f g = f refl
cond_same true false a b x y e f g = absurd (true≢false e)
cond_same false true a b x y e f g = absurd (false≢true e)
cond_same false false a b x y e f g = g

pub keep_append : {A : Type 0} (p : A → Bool) (xs ys : List A) → keep p (xs ++ ys) ≡ keep p xs ++ keep p ys
keep_append p [] ys = refl
keep_append p (x ∷ xs) ys =
    let ih = keep_append p xs ys in
    elim (p x) as (λ v. cond v (x ∷ keep p (xs ++ ys)) (keep p (xs ++ ys)) ≡ cond v (x ∷ keep p xs) (keep p xs) ++ keep p ys) [ true ↦ ap (λ l. x ∷ l) ih | false ↦ ih ]

pub keep_map : {A B : Type 0} (p : B → Bool) (f : A → B) (xs : List A) → keep p (map f xs) ≡ map f (keep (λ x. p (f x)) xs)
keep_map p f [] = refl
keep_map p f (x ∷ xs) =
    let ih = keep_map p f xs in
    elim (p (f x)) as (λ v. cond v (f x ∷ keep p (map f xs)) (keep p (map f xs)) ≡ map f (cond v (x ∷ keep (λ y. p (f y)) xs) (keep (λ y. p (f y)) xs))) [ true ↦ ap (λ l. f x ∷ l) ih | false ↦ ih ]

pub keep_same : {A : Type 0} (p q : A → Bool) (xs : List A) → ((x : A) → p x ≡ q x) → keep p xs ≡ keep q xs
keep_same p q xs e = ap (λ f. keep f xs) (fun_ext e)

pub keep_none : {A : Type 0} (xs : List A) → keep (λ x. false) xs ≡ []
keep_none [] = refl
keep_none (x ∷ xs) = keep_none xs

pub keep_outside : (p : ℕ → Bool) (first n : ℕ) → ((x : ℕ) → first ≤ x → x < first + n → p x ≡ false) → keep p (from first n) ≡ []
keep_outside p first zero e = refl
keep_outside p first (suc n) e =
    ap (λ v. cond v (first ∷ keep p (from (suc first) n)) (keep p (from (suc first) n))) (e first (omega arith) (omega arith))
    ∙ keep_outside p (suc first) n (λ x h k. e x (omega arith) (omega arith))

-- a product over the numbers that are kept
pub product_same : {M : Type 0} (r : Semiring M) (f g : ℕ → M) (p : ℕ → Bool) (first n : ℕ) → ((x : ℕ) → first ≤ x → x < first + n → p x ≡ true → f x ≡ g x) → product_by r f (keep p (from first n)) ≡ product_by r g (keep p (from first n))
product_same r f g p first zero e = refl
product_same r f g p first (suc n) e =
    go (p first) (keep p (from (suc first) n)) (e first (omega arith) (omega arith)) (product_same r f g p (suc first) n (λ x h k. e x (omega arith) (omega arith)))
  where
    go : (v : Bool) (l : List ℕ) → (v ≡ true → f first ≡ g first) → product_by r f l ≡ product_by r g l → product_by r f (cond v (first ∷ l) l) ≡ product_by r g (cond v (first ∷ l) l)
    go true l here rest = ap₂ r.mul (here refl) rest
    go false l here rest = rest

module _ {M : Type 0} {r : Semiring M} (laws : Laws r) where
  pub add_nought_right : (a : M) → r.add a r.nought ≡ a
  add_nought_right a = laws.add_comm a r.nought ∙ laws.add_nought a

  pub mul_unit_right : (a : M) → r.mul a r.unit ≡ a
  mul_unit_right a = laws.mul_comm a r.unit ∙ laws.mul_unit a

  pub mul_nought_right : (a : M) → r.mul a r.nought ≡ r.nought
  mul_nought_right a = laws.mul_comm a r.nought ∙ laws.mul_nought a

  pub nought_add : (a : M) → r.add r.nought a ≡ a
  nought_add a = laws.add_nought a

  pub unit_mul : (a : M) → r.mul r.unit a ≡ a
  unit_mul a = laws.mul_unit a

  pub add_mul : (a b c : M) → r.mul (r.add a b) c ≡ r.add (r.mul a c) (r.mul b c)
  add_mul a b c =
      laws.mul_comm (r.add a b) c ∙ laws.distrib c a b ∙ ap₂ r.add (laws.mul_comm c a) (laws.mul_comm c b)

  -- (a + b) + c = (a + c) + b
  pub add_swap : (a b c : M) → r.add (r.add a b) c ≡ r.add (r.add a c) b
  add_swap a b c = laws.add_assoc a b c ∙ ap (r.add a) (laws.add_comm b c) ∙ sym (laws.add_assoc a c b)

  pub add_cond : (v : Bool) (a b : M) → r.add a (cond v b r.nought) ≡ cond v (r.add a b) a
  add_cond true a b = refl
  add_cond false a b = add_nought_right a

  pub sum_append : {A : Type 0} (f : A → M) (xs ys : List A) → sum_by r f (xs ++ ys) ≡ r.add (sum_by r f xs) (sum_by r f ys)
  sum_append f [] ys = sym (nought_add (sum_by r f ys))
  sum_append f (x ∷ xs) ys = ap (r.add (f x)) (sum_append f xs ys) ∙ sym (laws.add_assoc (f x) (sum_by r f xs) (sum_by r f ys))

  pub sum_map : {A B : Type 0} (f : B → M) (g : A → B) (xs : List A) → sum_by r f (map g xs) ≡ sum_by r (λ x. f (g x)) xs
  sum_map f g [] = refl
  sum_map f g (x ∷ xs) = ap (r.add (f (g x))) (sum_map f g xs)

  pub sum_scale : {A : Type 0} (a : M) (f : A → M) (xs : List A) → sum_by r (λ x. r.mul a (f x)) xs ≡ r.mul a (sum_by r f xs)
  sum_scale a f [] = sym (mul_nought_right a)
  sum_scale a f (x ∷ xs) = ap (r.add (r.mul a (f x))) (sum_scale a f xs) ∙ sym (laws.distrib a (f x) (sum_by r f xs))
