-- The total of the clash-free sets by one bid after another, and how it splits over classes of bids.
use Rattle.std.proofs.Common.{◌≡◌, ℕ, zero, suc, ◌+◌, ◌<◌, ◌≤◌, Bool, true, false, cond, not, ◌&&◌, ◌||◌, List, [], ◌∷◌, map, sym, refl, ap, ◌∙◌, ap₂, true≢false, arith}
use mathlib.Core.Bool.{false≢true}
use Rattle.std.proofs.lemmas.Bool.{and_parts}
use Rattle.scales.specs.Semiring.{Semiring, Laws}
use Rattle.contest.specs.Contest.{Contest}
use Rattle.contest.specs.Total.{total_by, from, subsets, keep, apart, clash_free, sum_by, product_by}
use Rattle.contest.proofs.Algebra.{add_nought_right, mul_unit_right, mul_nought_right, and_same, cond_same, keep_append, keep_map, keep_same, keep_none, add_mul, add_swap, add_cond, sum_append, sum_map, sum_scale}

-- those of p that do not clash with b
abbrev pub without : (ℕ → ℕ → Bool) → ℕ → (ℕ → Bool) → ℕ → Bool
without clash b p x = p x && not (clash b x)

shuffle : (c p a b f : Bool) → ((c && a) && (p && (b && f))) ≡ ((p && c) && (b && (a && f)))
shuffle true true true b f = refl
shuffle true true false true f = refl
shuffle true true false false f = refl
shuffle true false true b f = refl
shuffle true false false b f = refl
shuffle false true a b f = refl
shuffle false false a b f = refl

-- a set with b more is clash-free where b clashes with none of it and it is clash-free
pub clash_free_without : (p : ℕ → Bool) (clash : ℕ → ℕ → Bool) (b : ℕ) (s : List ℕ) → (apart clash b s && clash_free p clash s) ≡ clash_free (without clash b p) clash s
clash_free_without p clash b [] = refl
clash_free_without p clash b (x ∷ s) =
    shuffle (not (clash b x)) (p x) (apart clash b s) (apart clash x s) (clash_free p clash s) ∙ ap (λ f. (p x && not (clash b x)) && (apart clash x s && f)) (clash_free_without p clash b s)

-- Over `n` numbers from `first`: leave the first out, or take it and go on with those that do not clash with it.
abbrev pub weigh : {M : Type 0} → Semiring M → (ℕ → ℕ → Bool) → (ℕ → M) → (ℕ → Bool) → ℕ → ℕ → M
weigh r clash w p first zero = r.unit
weigh r clash w p first (suc n) = cond (p first) (r.add (weigh r clash w p (suc first) n) (r.mul (w first) (weigh r clash w (without clash first p) (suc first) n))) (weigh r clash w p (suc first) n)

module _ {M : Type 0} {r : Semiring M} (laws : Laws r) where
  -- the sets that have b
  sum_with : (w : ℕ → M) (p : ℕ → Bool) (clash : ℕ → ℕ → Bool) (b : ℕ) (ss : List (List ℕ)) → sum_by r (product_by r w) (keep (clash_free p clash) (map (λ s. b ∷ s) ss)) ≡ cond (p b) (r.mul (w b) (sum_by r (product_by r w) (keep (clash_free (without clash b p) clash) ss))) r.nought
  sum_with w p clash b ss =
      ap (sum_by r (product_by r w)) (keep_map (clash_free p clash) (λ s. b ∷ s) ss)
      ∙ sum_map laws (product_by r w) (λ s. b ∷ s) (keep (λ s. clash_free p clash (b ∷ s)) ss)
      ∙ sum_scale laws (w b) (product_by r w) (keep (λ s. clash_free p clash (b ∷ s)) ss)
      ∙ ap (λ l. r.mul (w b) (sum_by r (product_by r w) l)) (keep_same _ _ ss (λ s. ap (λ v. p b && v) (clash_free_without p clash b s)))
      ∙ go (p b)
    where
      go : (v : Bool) → r.mul (w b) (sum_by r (product_by r w) (keep (λ s. v && clash_free (without clash b p) clash s) ss)) ≡ cond v (r.mul (w b) (sum_by r (product_by r w) (keep (clash_free (without clash b p) clash) ss))) r.nought
      go true = refl
      go false = ap (λ l. r.mul (w b) (sum_by r (product_by r w) l)) (keep_none ss) ∙ mul_nought_right laws (w b)

  -- the total over subsets
  pub weigh_is : (clash : ℕ → ℕ → Bool) (w : ℕ → M) (p : ℕ → Bool) (first n : ℕ) → sum_by r (product_by r w) (keep (clash_free p clash) (subsets (from first n))) ≡ weigh r clash w p first n
  weigh_is clash w p first zero = add_nought_right laws r.unit
  weigh_is clash w p first (suc n) =
      let rest = subsets (from (suc first) n) in
      ap (sum_by r (product_by r w)) (keep_append (clash_free p clash) rest (map (λ s. first ∷ s) rest))
      ∙ sum_append laws (product_by r w) (keep (clash_free p clash) rest) (keep (clash_free p clash) (map (λ s. first ∷ s) rest))
      ∙ ap₂ r.add (weigh_is clash w p (suc first) n) (sum_with w p clash first rest ∙ ap (λ x. cond (p first) (r.mul (w first) x) r.nought) (weigh_is clash w (without clash first p) (suc first) n))
      ∙ add_cond laws (p first) (weigh r clash w p (suc first) n) (r.mul (w first) (weigh r clash w (without clash first p) (suc first) n))

-- Bids that stand alike, clash alike and are worth the same weigh the same.
pub weigh_same : {M : Type 0} (r : Semiring M) (c d : ℕ → ℕ → Bool) (w v : ℕ → M) (p q : ℕ → Bool) (first n : ℕ) → ((x : ℕ) → first ≤ x → x < first + n → p x ≡ q x) → ((x : ℕ) → first ≤ x → x < first + n → p x ≡ true → w x ≡ v x) → ((a b : ℕ) → first ≤ a → a < b → b < first + n → p a ≡ true → p b ≡ true → c a b ≡ d a b) → weigh r c w p first n ≡ weigh r d v q first n
weigh_same r c d w v p q first zero stand worth clash = refl
weigh_same r c d w v p q first (suc n) stand worth clash =
    let leave : weigh r c w p (suc first) n ≡ weigh r d v q (suc first) n = weigh_same r c d w v p q (suc first) n
    (λ x h k. stand x (omega arith) (omega arith))
    (λ x h k. worth x (omega arith) (omega arith))
    (λ a b h k l. clash a b (omega arith) (omega arith) (omega arith)) in
    cond_same (p first) (q first) _ _ _ _ (stand first (omega arith) (omega arith))
    (λ e. ap₂ r.add leave (ap₂ r.mul (worth first (omega arith) (omega arith) e)
    (weigh_same r c d w v (without c first p) (without d first q) (suc first) n
    (λ x h k. and_same (p x) (q x) _ _ (stand x (omega arith) (omega arith)) (λ f. ap not (clash first x (omega arith) (omega arith) (omega arith) e f)))
    (λ x h k f. worth x (omega arith) (omega arith) (and_parts _ _ f).0)
    (λ a b h k l f g. clash a b (omega arith) (omega arith) (omega arith) (and_parts _ _ f).0 (and_parts _ _ g).0))))
    leave

-- Only the worths of the bids count.
pub total_worths : {M : Type 0} {r : Semiring M} → Laws r → (c : Contest) (w v : ℕ → M) → ((k : ℕ) → 1 ≤ k → k ≤ c.count → w k ≡ v k) → total_by r c w ≡ total_by r c v
total_worths {r = r} laws c w v same =
    weigh_is laws c.clash w c.stands 1 c.count
    ∙ weigh_same r c.clash c.clash w v c.stands c.stands 1 c.count (λ x a b. refl) (λ x a b e. same x a (omega arith)) (λ x y a b l e f. refl)
    ∙ sym (weigh_is laws c.clash v c.stands 1 c.count)

abbrev pub either : (ℕ → Bool) → (ℕ → Bool) → ℕ → Bool
either p q x = p x || q x

-- No bid of one class clashes with a later one of the other.
abbrev pub Free : (ℕ → ℕ → Bool) → (ℕ → Bool) → (ℕ → Bool) → Type 0
Free clash p q = (a b : ℕ) → a < b → p a ≡ true → q b ≡ true → clash a b ≡ false

-- Each bid of one class clashes with every later one of the other.
abbrev pub Full : (ℕ → ℕ → Bool) → (ℕ → Bool) → (ℕ → Bool) → Type 0
Full clash p q = (a b : ℕ) → a < b → p a ≡ true → q b ≡ true → clash a b ≡ true

abbrev pub Disjoint : (ℕ → Bool) → (ℕ → Bool) → Type 0
Disjoint p q = (x : ℕ) → p x ≡ true → q x ≡ true → ⊥

-- those of either class without what clashes with b, where nothing of the second does
drop_left : (p q c : Bool) → (q ≡ true → c ≡ false) → ((p || q) && not c) ≡ ((p && not c) || q)
drop_left true true true e = absurd (true≢false (e refl))
drop_left true true false e = refl
drop_left true false true e = refl
drop_left true false false e = refl
drop_left false true true e = absurd (true≢false (e refl))
drop_left false true false e = refl
drop_left false false true e = refl
drop_left false false false e = refl

drop_right : (p q c : Bool) → (p ≡ true → c ≡ false) → ((p || q) && not c) ≡ (p || (q && not c))
drop_right true q true e = absurd (true≢false (e refl))
drop_right true q false e = refl
drop_right false q c e = refl

-- where all of the first class clash with b
drop_first : (p q c : Bool) → (p ≡ true → c ≡ true) → ((p || q) && not c) ≡ (q && not c)
drop_first true q true e = drop_all q
  where
    drop_all : (v : Bool) → false ≡ (v && false)
    drop_all true = refl
    drop_all false = refl
drop_first true q false e = absurd (false≢true (e refl))
drop_first false q c e = refl

drop_both : (p q c : Bool) → (p ≡ true → c ≡ true) → (q ≡ true → c ≡ true) → ((p || q) && not c) ≡ false
drop_both true q true e f = refl
drop_both true q false e f = absurd (false≢true (e refl))
drop_both false true true e f = refl
drop_both false true false e f = absurd (false≢true (f refl))
drop_both false false c e f = refl

module _ {M : Type 0} {r : Semiring M} (laws : Laws r) (clash : ℕ → ℕ → Bool) (w : ℕ → M) where
  pub weigh_test : (p q : ℕ → Bool) (first n : ℕ) → ((x : ℕ) → first ≤ x → p x ≡ q x) → weigh r clash w p first n ≡ weigh r clash w q first n
  weigh_test p q first n e = weigh_same r clash clash w w p q first n (λ x h k. e x h) (λ x h k l. refl) (λ a b h k l m o. refl)

  pub weigh_none : (first n : ℕ) → weigh r clash w (λ x. false) first n ≡ r.unit
  weigh_none first zero = refl
  weigh_none first (suc n) = weigh_none (suc first) n

  -- the first bid, in one of two classes apart or in neither
  first_apart : (u v : Bool) (x both both' a a' b b' : M) → (u ≡ true → v ≡ true → ⊥) → both ≡ r.mul a b → (u ≡ true → both' ≡ r.mul a' b) → (v ≡ true → both' ≡ r.mul a b') → cond (u || v) (r.add both (r.mul x both')) both ≡ r.mul (cond u (r.add a (r.mul x a')) a) (cond v (r.add b (r.mul x b')) b)
  first_apart true true x both both' a a' b b' never leave left right = absurd (never refl refl)
  first_apart true false x both both' a a' b b' never leave left right =
      ap₂ r.add leave (ap (r.mul x) (left refl) ∙ sym (laws.mul_assoc x a' b)) ∙ sym (add_mul laws a (r.mul x a') b)
  first_apart false true x both both' a a' b b' never leave left right =
      ap₂ r.add leave (ap (r.mul x) (right refl) ∙ sym (laws.mul_assoc x a b') ∙ ap (λ y. r.mul y b') (laws.mul_comm x a) ∙ laws.mul_assoc a x b') ∙ sym (laws.distrib a b (r.mul x b'))
  first_apart false false x both both' a a' b b' never leave left right = leave

  -- Two classes that do not clash with one another weigh the product of the two.
  pub weigh_apart : (p q : ℕ → Bool) (first n : ℕ) → Disjoint p q → Free clash p q → Free clash q p → weigh r clash w (either p q) first n ≡ r.mul (weigh r clash w p first n) (weigh r clash w q first n)
  weigh_apart p q first zero dis pq qp = sym (mul_unit_right laws r.unit)
  weigh_apart p q first (suc n) dis pq qp =
      let P : ℕ → Bool = without clash first p in
      let Q : ℕ → Bool = without clash first q in
      let in_p : (x : ℕ) → P x ≡ true → p x ≡ true = λ x e. (and_parts _ _ e).0 in
      let in_q : (x : ℕ) → Q x ≡ true → q x ≡ true = λ x e. (and_parts _ _ e).0 in
      first_apart (p first) (q first) (w first) _ _ _ _ _ _ (dis first)
      (weigh_apart p q (suc first) n dis pq qp)
      (λ e. weigh_test (without clash first (either p q)) (either P q) (suc first) n (λ x h. drop_left (p x) (q x) (clash first x) (λ f. pq first x h e f))
      ∙ weigh_apart P q (suc first) n (λ x f g. dis x (in_p x f) g) (λ a b h f g. pq a b h (in_p a f) g) (λ a b h f g. qp a b h f (in_p b g)))
      (λ e. weigh_test (without clash first (either p q)) (either p Q) (suc first) n (λ x h. drop_right (p x) (q x) (clash first x) (λ f. qp first x h e f))
      ∙ weigh_apart p Q (suc first) n (λ x f g. dis x f (in_q x g)) (λ a b h f g. pq a b h f (in_q b g)) (λ a b h f g. qp a b h (in_q a f) g))

  -- the first bid, in a class that clashes with all, in another, or in neither
  first_over : (u v : Bool) (b : ℕ) (both both' i i' : M) (l : List ℕ) → (u ≡ true → v ≡ true → ⊥) → both ≡ r.add i (sum_by r w l) → (u ≡ true → both' ≡ r.unit) → (v ≡ true → both' ≡ i') → cond (u || v) (r.add both (r.mul (w b) both')) both ≡ r.add (cond v (r.add i (r.mul (w b) i')) i) (sum_by r w (cond u (b ∷ l) l))
  first_over true true b both both' i i' l never leave left right = absurd (never refl refl)
  first_over true false b both both' i i' l never leave left right =
      ap₂ r.add leave (ap (r.mul (w b)) (left refl) ∙ mul_unit_right laws (w b)) ∙ laws.add_assoc i (sum_by r w l) (w b) ∙ ap (r.add i) (laws.add_comm (sum_by r w l) (w b))
  first_over false true b both both' i i' l never leave left right =
      ap₂ r.add leave (ap (r.mul (w b)) (right refl)) ∙ add_swap laws i (sum_by r w l) (r.mul (w b) i')
  first_over false false b both both' i i' l never leave left right = leave

  -- A class whose bids clash with one another and with all of a second class adds the sum of its worths.
  pub weigh_over : (o i : ℕ → Bool) (first n : ℕ) → Disjoint o i → Full clash o o → Full clash o i → Full clash i o → weigh r clash w (either o i) first n ≡ r.add (weigh r clash w i first n) (sum_by r w (keep o (from first n)))
  weigh_over o i first zero dis oo oi io = sym (add_nought_right laws r.unit)
  weigh_over o i first (suc n) dis oo oi io =
      let I : ℕ → Bool = without clash first i in
      first_over (o first) (i first) first _ _ _ _ (keep o (from (suc first) n)) (dis first)
      (weigh_over o i (suc first) n dis oo oi io)
      (λ e. weigh_test (without clash first (either o i)) (λ x. false) (suc first) n (λ x h. drop_both (o x) (i x) (clash first x) (λ f. oo first x h e f) (λ f. oi first x h e f))
      ∙ weigh_none (suc first) n)
      (λ e. weigh_test (without clash first (either o i)) I (suc first) n (λ x h. drop_first (o x) (i x) (clash first x) (λ f. io first x h e f)))
