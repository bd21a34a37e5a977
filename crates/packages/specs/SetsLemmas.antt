-- The tests of sets decide what their words say.
use Rattle.std.specs.Prelude.{◌≡◌, ℕ, zero, suc, ◌≤◌, Bool, true, false, not, ◌&&◌, ◌||◌, ◌≢◌, nat_le, refl}
use Rattle.std.proofs.Common.{sym, ap, ◌∙◌, subst, inl, inr, arith}
use Rattle.std.proofs.lemmas.Bool.{false≢true, leb-true, le-leb, and_parts, and_from, and_cases, not-true, not-false, not_from_false, cases_Bool, cases_lt, both_ways, false_from_ne_true}
use Rattle.packages.specs.declared.relation.Relation.{Relation}
use Rattle.packages.specs.declared.relation.Relation.TheVariants.{Equal, Inside, Around, Apart, Crossing}
use Rattle.packages.specs.Lots.{Lots, has, all, empty, within, apart, fits_in}
use Rattle.packages.specs.Nest.{relation_of, first_true}
use Rattle.packages.specs.Sets.{Has, Within, Disjoint, Fits, Stands, Exact, TrueAnswers}

pub same_tests : (x y : Bool) → (x ≡ true → y ≡ true) → (y ≡ true → x ≡ true) → x ≡ y
same_tests true y f g = sym (f refl)
same_tests false true f g = g refl
same_tests false false f g = refl

pub all_at : (f : ℕ → Bool) (n k : ℕ) → all f n ≡ true → k ≤ n → f k ≡ true
unfolding all
all_at f zero k e h = let z : k ≡ 0 = omega arith in ap f z ∙ e
all_at f (suc n) k e h =
    let parts = and_parts (f (suc n)) (all f n) e in
    let rest = all_at f n k parts.1 in
    elim (cases_lt n k) [
      | inl more ↦ let top : k ≡ suc n = omega arith in ap f top ∙ parts.0
      | inr less ↦ rest less
    ]

pub all_from : (f : ℕ → Bool) (n : ℕ) → ((k : ℕ) → k ≤ n → f k ≡ true) → all f n ≡ true
unfolding all
all_from f zero h = h 0 (omega arith)
all_from f (suc n) h = and_from (f (suc n)) (all f n) (h (suc n) (omega arith)) (all_from f n (λ k l. h k (omega arith)))

pub all_fails : (f : ℕ → Bool) (n : ℕ) → all f n ≡ false → (k : ℕ) × (k ≤ n) × (f k ≡ false)
unfolding all
all_fails f zero e = (0, omega arith, e)
all_fails f (suc n) e =
    let rest = all_fails f n in
    elim (and_cases (f (suc n)) (all f n) e) [
      | inl here ↦ (suc n, omega arith, here)
      | inr below ↦ let w = rest below in (w.0, omega (arith, w.1), w.2)
    ]

pub has_parts : (s : Lots) (k : ℕ) → Has s k → (k ≤ s.top) × (s.test k ≡ true)
unfolding has
has_parts s k e = let p = and_parts (nat_le k s.top) (s.test k) e in (leb-true k s.top p.0, p.1)

pub has_from : (s : Lots) (k : ℕ) → k ≤ s.top → s.test k ≡ true → Has s k
unfolding has
has_from s k h e = and_from (nat_le k s.top) (s.test k) (le-leb k s.top h) e

implies_says : (x y : Bool) → (not x || y) ≡ true → x ≡ true → y ≡ true
implies_says true y e h = e
implies_says false y e h = absurd (false≢true h)

implies_from : (x y : Bool) → (x ≡ true → y ≡ true) → (not x || y) ≡ true
implies_from true y h = h refl
implies_from false y h = refl

never_says : (x y : Bool) → not (x && y) ≡ true → x ≡ true → y ≢ true
never_says true true e h k = false≢true e
never_says true false e h k = false≢true k
never_says false y e h k = false≢true h

never_from : (x y : Bool) → (x ≡ true → y ≢ true) → not (x && y) ≡ true
never_from true true h = absurd (h refl refl)
never_from true false h = refl
never_from false y h = refl

pub within_says : (s t : Lots) → within s t ≡ true → Within s t
unfolding within
within_says s t e k h = implies_says (has s k) (has t k) (all_at (λ j. not (has s j) || has t j) s.top k e (has_parts s k h).0) h

pub within_from : (s t : Lots) → Within s t → within s t ≡ true
unfolding within
within_from s t h = all_from (λ j. not (has s j) || has t j) s.top (λ k l. implies_from (has s k) (has t k) (h k))

pub apart_says : (s t : Lots) → apart s t ≡ true → Disjoint s t
unfolding apart
apart_says s t e k h = never_says (has s k) (has t k) (all_at (λ j. not (has s j && has t j)) s.top k e (has_parts s k h).0) h

pub apart_from : (s t : Lots) → Disjoint s t → apart s t ≡ true
unfolding apart
apart_from s t h = all_from (λ j. not (has s j && has t j)) s.top (λ k l. never_from (has s k) (has t k) (h k))

pub empty_says : (s : Lots) → empty s ≡ true → (k : ℕ) → Has s k → ⊥
unfolding empty
empty_says s e k h = both_ways (has s k) (not-true (has s k) (all_at (λ j. not (has s j)) s.top k e (has_parts s k h).0)) h

pub lot_of : (s : Lots) → empty s ≡ false → (k : ℕ) × Has s k
unfolding empty
lot_of s e = let w = all_fails (λ j. not (has s j)) s.top e in (w.0, not-false (has s w.0) w.2)

pub fits_says : (n : ℕ) (s : Lots) → fits_in n s ≡ true → Fits n s
unfolding fits_in
fits_says n s e =
    let p = and_parts (not (empty s)) (all (λ k. not (has s k) || (nat_le 1 k && nat_le k n)) s.top) e in (
      lot_of s (not-true (empty s) p.0),
      λ k h.
          let within = implies_says (has s k) (nat_le 1 k && nat_le k n) (all_at (λ j. not (has s j) || (nat_le 1 j && nat_le j n)) s.top k p.1 (has_parts s k h).0) h in
          let q = and_parts (nat_le 1 k) (nat_le k n) within in
          (leb-true 1 k q.0, leb-true k n q.1),
    )

pub fits_from : (n : ℕ) (s : Lots) → Fits n s → fits_in n s ≡ true
unfolding fits_in
fits_from n s h =
    let inhabited : empty s ≡ false = elim (cases_Bool (empty s)) [ inl e ↦ absurd (empty_says s e h.0.0 h.0.1) | inr e ↦ e ] in
    and_from (not (empty s)) (all (λ k. not (has s k) || (nat_le 1 k && nat_le k n)) s.top) (not_from_false (empty s) inhabited)
    (all_from (λ k. not (has s k) || (nat_le 1 k && nat_le k n)) s.top
    (λ k l. implies_from (has s k) (nat_le 1 k && nat_le k n) (λ e. and_from (nat_le 1 k) (nat_le k n) (le-leb 1 k (h.1 k e).0) (le-leb k n (h.1 k e).1))))

pub stands_so : (s t : Lots) → Stands s t (relation_of s t)
unfolding relation_of
stands_so s t = go (within s t) (within t s) (apart s t) refl refl refl
  where
    go : (x y z : Bool) → within s t ≡ x → within t s ≡ y → apart s t ≡ z → Stands s t (first_true x y z)
    go true true z e f h = (within_says s t e, within_says t s f)
    go true false z e f h = (within_says s t e, λ w. both_ways (within t s) f (within_from t s w))
    go false true z e f h = (λ w. both_ways (within s t) e (within_from s t w), within_says t s f)
    go false false true e f h = (λ w. both_ways (within s t) e (within_from s t w), λ w. both_ways (within t s) f (within_from t s w), apart_says s t h)
    go false false false e f h = (λ w. both_ways (within s t) e (within_from s t w), λ w. both_ways (within t s) f (within_from t s w), λ w. both_ways (apart s t) h (apart_from s t w))

pub relation_from : (s t : Lots) (x y z : Bool) → x ≡ within s t → y ≡ within t s → z ≡ apart s t → first_true x y z ≡ relation_of s t
unfolding relation_of
relation_from s t x y z e f h =
    ap (λ v. first_true v y z) e ∙ ap (λ v. first_true (within s t) v z) f ∙ ap (λ v. first_true (within s t) (within t s) v) h

pub stands_as : (s t : Lots) (r : Relation) → relation_of s t ≡ r → Stands s t r
stands_as s t r e = subst (λ x. Stands s t x) e (stands_so s t)

-- and no other relation stands
pub stands_only : (s t : Lots) (r : Relation) → Stands s t r → r ≡ relation_of s t
stands_only s t r h = go r h
  where
    part : (s t : Lots) → Within s t → true ≡ within s t
    part s t w = sym (within_from s t w)

    no_part : (s t : Lots) → (Within s t → ⊥) → false ≡ within s t
    no_part s t never = sym (false_from_ne_true (within s t) (λ e. never (within_says s t e)))

    go : (r : Relation) → Stands s t r → r ≡ relation_of s t
    go Equal h = relation_from s t true true (apart s t) (part s t h.0) (part t s h.1) refl
    go Inside h = relation_from s t true false (apart s t) (part s t h.0) (no_part t s h.1) refl
    go Around h = relation_from s t false true (apart s t) (no_part s t h.0) (part t s h.1) refl
    go Apart h = relation_from s t false false true (no_part s t h.0) (no_part t s h.1) (sym (apart_from s t h.2))
    go Crossing h =
        relation_from s t false false false (no_part s t h.0) (no_part t s h.1) (sym (false_from_ne_true (apart s t) (λ e. h.2 (apart_says s t e))))

pub exact : Exact
exact = record {
  part = λ s t. (within_says s t, within_from s t);
  shareless = λ s t. (apart_says s t, apart_from s t);
  fits = fits_says;
  fits_not = λ n s e h. both_ways (fits_in n s) e (fits_from n s h);
  stands = stands_so;
  only = stands_only;
}

pub true_answers : (n : ℕ) (s t : Lots) (fits : Bool) (relation : Relation) → fits ≡ fits_in n s → relation ≡ relation_of s t → TrueAnswers n s t fits relation
true_answers n s t fits relation e f = record {
  accepted = λ h. e ∙ fits_from n s h;
  refused = λ never. e ∙ false_from_ne_true (fits_in n s) (λ h. never (fits_says n s h));
  stands = stands_as s t relation (sym f);
  not_apart = λ w apart. (stands_as s t Apart (sym f ∙ apart)).2 w.0 w.1 w.2;
  is_apart = λ h h' never. f ∙ sym (stands_only s t Apart (
    λ w. never (h.0.0, h.0.1, w h.0.0 h.0.1),
    λ w. never (h'.0.0, w h'.0.0 h'.0.1, h'.0.1),
    λ k l l'. never (k, l, l'),
  ));
}
