-- The award that the definition computes is the one that the relation describes.
use Rattle.std.proofs.Common.{◌≡◌, ℕ, zero, suc, ◌+◌, ◌<◌, ◌≤◌, Bool, true, false, cond, not, ◌&&◌, leb, ◌⊎◌, sym, refl, ap, ◌∙◌, subst, inl, inr, ⊎_elim, arith}
use mathlib.Core.Path.{fun_ext}
use Rattle.std.proofs.lemmas.Bool.{cases_eq, cases_Bool, cases_lt, both_ways, leb-true, leb-false, le-leb, and_parts, and_from, not-true, not-false}
use Rattle.contest.specs.Contest.{Contest, Bids, none, adding, Numbered, ClashFree, revenue, Preferred, IsAward, may_add, better, extend, award}
use Rattle.contest.specs.Theorems.{OneAward}
use Rattle.contest.proofs.Sums.{every_at, every_from}
use Rattle.contest.proofs.Sets.{false_since, true_since, adding_same, adding_other, adding_cases, preferred_once}

-- Set r is at least as good as t: it fetches more, or as much and is t or preferred to it.
abbrev pub AtLeast : Contest → Bids → Bids → Type 0
AtLeast c r t = (revenue c t ≤ revenue c r) × (revenue c t ≡ revenue c r → (t ≡ r) ⊎ Preferred r t)

-- The two sets have the same members below k.
abbrev pub Agree : ℕ → Bids → Bids → Type 0
Agree k s t = (j : ℕ) → j < k → s j ≡ t j

-- A clash-free set with numbers below k only.
pub record Begun (c : Contest) (k : ℕ) (s : Bids) : Type 0 where
  pub free : ClashFree c s
  pub below : (j : ℕ) → s j ≡ true → j < k

-- The best of the clash-free sets that agree with s below k.
pub record Extends (c : Contest) (k : ℕ) (s r : Bids) : Type 0 where
  pub free : ClashFree c r
  pub agree : Agree k r s
  pub best : (t : Bids) → ClashFree c t → Agree k t s → AtLeast c r t

-- The test may_add says of a set below k that k can join it.
pub may_add_stands : (c : Contest) (k : ℕ) (s : Bids) → may_add c k s ≡ true → c.stands k ≡ true
may_add_stands c k s e = (and_parts (c.stands k) _ e).0

pub may_add_apart : (c : Contest) (k : ℕ) (s : Bids) → Begun c k s → may_add c k s ≡ true → (j : ℕ) → s j ≡ true → c.clash j k ≡ false
may_add_apart c k s b e j h =
    let n = b.free.numbered j h in
    let p : not (s j && (leb (suc j) k && c.clash j k)) ≡ true = every_at c.count (λ i. not (s i && (leb (suc i) k && c.clash i k))) (and_parts (c.stands k) _ e).1 j n.0 n.1 in
    false_since (c.clash j k) (λ q. both_ways _ (not-true _ p) (and_from _ _ h (and_from _ _ (le-leb (suc j) k (b.below j h)) q)))

pub may_add_from : (c : Contest) (k : ℕ) (s t : Bids) → ClashFree c t → Agree k t s → t k ≡ true → may_add c k s ≡ true
may_add_from c k s t f a h =
    and_from (c.stands k) _ (f.standing k h) (every_from c.count (λ i. not (s i && (leb (suc i) k && c.clash i k))) (λ j _ _. true_since _ (λ q. refuse j (not-false _ q))))
  where
    refuse : (j : ℕ) → (s j && (leb (suc j) k && c.clash j k)) ≡ true → ⊥
    refuse j q =
        let p = and_parts (s j) _ q in
        let r = and_parts (leb (suc j) k) (c.clash j k) p.1 in
        let l : j < k = leb-true (suc j) k r.0 in
        both_ways (c.clash j k) (f.apart j k l (a j l ∙ p.0) h) r.1

-- A set below k may be seen as one below k + 1.
pub begun_skip : (c : Contest) (k : ℕ) (s : Bids) → Begun c k s → Begun c (suc k) s
begun_skip c k s b = record { free = b.free; below = λ j h. (let l = b.below j h in omega arith) }

pub begun_add : (c : Contest) (k : ℕ) (s : Bids) → Numbered c k → Begun c k s → may_add c k s ≡ true → Begun c (suc k) (adding k s)
begun_add c k s n b e =
    record {
      free =
          record {
            numbered = λ j h. ⊎_elim (λ d. subst (Numbered c) (sym d) n) (b.free.numbered j) (adding_cases k s j h);
            standing = λ j h. ⊎_elim (λ d. ap c.stands d ∙ may_add_stands c k s e) (b.free.standing j) (adding_cases k s j h);
            apart = λ i j l g h. go i j l (adding_cases k s i g) (adding_cases k s j h);
          };
      below = λ j h. ⊎_elim (λ d. omega arith) (λ d. (let l = b.below j d in omega arith)) (adding_cases k s j h);
    }
  where
    go : (i j : ℕ) → i < j → (i ≡ k) ⊎ (s i ≡ true) → (j ≡ k) ⊎ (s j ≡ true) → c.clash i j ≡ false
    go i j l (inl p) (inl q) = absurd (omega arith)
    go i j l (inl p) (inr q) = (let m = b.below j q in absurd (omega arith))
    go i j l (inr p) (inl q) = ap (c.clash i) q ∙ may_add_apart c k s b e i p
    go i j l (inr p) (inr q) = b.free.apart i j l p q

-- Two clash-free sets below n + 1 that agree there are equal.
pub outside : (c : Contest) (s : Bids) → ClashFree c s → (j : ℕ) → c.count < j → s j ≡ false
outside c s f j l = false_since (s j) (λ h. (let n = f.numbered j h in omega arith))

pub equal_sets : (c : Contest) (s t : Bids) → ClashFree c s → ClashFree c t → Agree (suc c.count) s t → s ≡ t
equal_sets c s t f g a = fun_ext at
  where
    at : (j : ℕ) → s j ≡ t j
    at j = ⊎_elim (λ l. a j l) (λ l. outside c s f j l ∙ sym (outside c t g j l)) (cases_lt j (suc c.count))

-- With bid k or without it: the better of the best two.
pub with_or_without : (c : Contest) (k : ℕ) (s x y : Bids) → Begun c k s → Extends c (suc k) (adding k s) x → Extends c (suc k) s y → Extends c k s (better c x y)
with_or_without c k s x y b ex ey = go (leb (revenue c y) (revenue c x)) refl
  where
    x_agree : Agree k x s
    x_agree j l = ex.agree j (omega arith) ∙ adding_other k s j (λ e. omega arith)

    y_agree : Agree k y s
    y_agree j l = ey.agree j (omega arith)

    has : (t : Bids) → Agree k t s → t k ≡ true → Agree (suc k) t (adding k s)
    has t a h j l = ⊎_elim (λ e. ap t e ∙ h ∙ sym (ap (adding k s) e ∙ adding_same k s)) (λ d. a j (omega arith) ∙ sym (adding_other k s j d)) (cases_eq j k)

    lacks : (t : Bids) → Agree k t s → t k ≡ false → Agree (suc k) t s
    lacks t a h j l =
        ⊎_elim
        (λ e. ap t e ∙ h ∙ sym (ap s e ∙ false_since (s k) (λ q. (let m = b.below k q in omega arith))))
        (λ d. a j (omega arith))
        (cases_eq j k)

    x_first : (t : Bids) → Agree k t s → t k ≡ false → Preferred x t
    x_first t a h = (k, ex.agree k (omega arith) ∙ adding_same k s, h, λ j l. x_agree j l ∙ sym (a j l))

    go : (w : Bool) → leb (revenue c y) (revenue c x) ≡ w → Extends c k s (cond w x y)
    go true e =
        record {
          free = ex.free;
          agree = x_agree;
          best = λ t f a. ⊎_elim (λ h. ex.best t f (has t a h)) (λ h. (let d = ey.best t f (lacks t a h) in let l : revenue c y ≤ revenue c x = leb-true (revenue c y) (revenue c x) e in (omega (arith, d.0), λ _. inr (x_first t a h)))) (cases_Bool (t k));
        }
    go false e =
        record {
          free = ey.free;
          agree = y_agree;
          best = λ t f a. ⊎_elim (λ h. (let d = ex.best t f (has t a h) in let l : revenue c x < revenue c y = leb-false (revenue c y) (revenue c x) e in (omega (arith, d.0), λ q. absurd (omega (arith, d.0))))) (λ h. ey.best t f (lacks t a h)) (cases_Bool (t k));
        }

-- Where bid k cannot join, nothing is lost without it.
pub only_without : (c : Contest) (k : ℕ) (s y : Bids) → Begun c k s → may_add c k s ≡ false → Extends c (suc k) s y → Extends c k s y
only_without c k s y b e ey =
    record {
      free = ey.free;
      agree = λ j l. ey.agree j (omega arith);
      best = λ t f a. ey.best t f (λ j l. ⊎_elim (λ d. ap t d ∙ lacks t f a ∙ sym (ap s d ∙ false_since (s k) (λ q. (let m = b.below k q in omega arith)))) (λ d. a j (omega arith)) (cases_eq j k));
    }
  where
    lacks : (t : Bids) → ClashFree c t → Agree k t s → t k ≡ false
    lacks t f a = false_since (t k) (λ h. both_ways (may_add c k s) e (may_add_from c k s t f a h))

pub extend_best : (c : Contest) (m k : ℕ) (s : Bids) → 1 ≤ k → k + m ≡ suc c.count → Begun c k s → Extends c k s (extend c m k s)
extend_best c zero k s p q b =
    record {
      free = b.free;
      agree = λ j l. refl;
      best = λ t f a. (let e : t ≡ s = equal_sets c t s f b.free (λ j l. a j (omega arith)) in (subst (λ u. revenue c t ≤ revenue c u) e (omega arith), λ _. inl e));
    }
extend_best c (suc m) k s p q b =
    let r : suc k + m ≡ suc c.count = omega arith in
    go (may_add c k s) refl (λ e. extend_best c m (suc k) (adding k s) (omega arith) r (begun_add c k s (p, omega arith) b e)) (extend_best c m (suc k) s (omega arith) r (begun_skip c k s b))
  where
    go : (w : Bool) → may_add c k s ≡ w → (may_add c k s ≡ true → Extends c (suc k) (adding k s) (extend c m (suc k) (adding k s))) → Extends c (suc k) s (extend c m (suc k) s) → Extends c k s (elim w [ true ↦ better c (extend c m (suc k) (adding k s)) (extend c m (suc k) s) | false ↦ extend c m (suc k) s ])
    go true e x y = with_or_without c k s _ _ b (x e) y
    go false e x y = only_without c k s _ b e y

pub none_begun : (c : Contest) → Begun c 1 none
none_begun c =
    record {
      free =
          record {
            numbered = λ k h. absurd (both_ways false refl h);
            standing = λ k h. absurd (both_ways false refl h);
            apart = λ j k l g h. absurd (both_ways false refl h);
          };
      below = λ j h. absurd (both_ways false refl h);
    }

-- No numbered bid is below 1.
pub agree_one : (c : Contest) (t : Bids) → ClashFree c t → Agree 1 t none
agree_one c t f j l = false_since (t j) (λ h. (let n = f.numbered j h in omega arith))

pub award_is : (c : Contest) → IsAward c (award c)
award_is c =
    let e = extend_best c c.count 1 none (omega arith) (omega arith) (none_begun c) in
    record {
      clash_free = e.free;
      greatest = λ t f. (e.best t f (agree_one c t f)).0;
      preferred = λ t f. (e.best t f (agree_one c t f)).1;
    }

-- There is one award.
pub award_only : (c : Contest) (a b : Bids) → IsAward c a → IsAward c b → a ≡ b
award_only c a b p q =
    let l = p.greatest b q.clash_free in
    let m = q.greatest a p.clash_free in
    ⊎_elim
    (λ e. sym e)
    (λ f. ⊎_elim (λ e. e) (λ g. absurd (preferred_once a b f g)) (q.preferred a p.clash_free (omega arith)))
    (p.preferred b q.clash_free (omega arith))

pub one_award : (c : Contest) → OneAward c
one_award c =
    let w = award_is c in
    record {
      best = w;
      unbeaten = λ s f b. ⊎_elim (λ more. let l = w.greatest s f in omega arith)
          (λ t. ⊎_elim (λ e. preferred_self (award c) (subst (λ x. Preferred x (award c)) e t.1)) (λ p. preferred_once s (award c) t.1 p) (w.preferred s f t.0)) b;
      only_one = λ a f none. ⊎_elim
          (λ less. absurd (none (award c) w.clash_free (inl less)))
          (λ most. let l = w.greatest a f in let e : revenue c a ≡ revenue c (award c) = omega arith in ⊎_elim (λ same. same) (λ p. absurd (none (award c) w.clash_free (inr (sym e, p)))) (w.preferred a f e))
          (cases_lt (revenue c a) (revenue c (award c)));
    }
  where
    preferred_self : (s : Bids) → Preferred s s → ⊥
    preferred_self s p = preferred_once s s p p
