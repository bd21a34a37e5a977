-- The total of a nest: each package's own worths and the product over its children.
use Rattle.std.proofs.Common.{◌≡◌, ℕ, zero, suc, ◌+◌, ◌<◌, ◌≤◌, Bool, true, false, cond, ◌&&◌, ◌||◌, eqb, ◌≢◌, ◌∷◌, sym, refl, ap, ◌∙◌, ap₂, ⊎_elim, arith}
use mathlib.Core.Path.{fun_ext}
use mathlib.Core.Bool.{and-false, and-true}
use Rattle.std.proofs.lemmas.Bool.{eqb-true, eq-eqb, or_cases, or_left, or_right, and_parts, cases_eq, or_from}
use Rattle.scales.specs.Semiring.{Semiring, Laws}
use Rattle.contest.specs.Contest.{Contest}
use Rattle.contest.specs.Total.{from, keep, sum_by, product_by, total_by}
use Rattle.contest.specs.Nest.{Falling, inside, related, Nested, children, own, part, Splits}
use Rattle.contest.proofs.Algebra.{add_nought_right, not_true, bool_same, and_same, keep_outside, product_same}
use Rattle.contest.proofs.Weigh.{weigh, weigh_is, weigh_same, weigh_test, weigh_none, weigh_apart, weigh_over, either}
use Rattle.contest.proofs.Nesting.{inside_root, inside_self, inside_parent, inside_le, inside_trans, siblings, inside_child, under, Listed, under_child, child_under}

-- a class within either of two tests
and_or : (p u v : Bool) → (p && (u || v)) ≡ ((p && u) || (p && v))
and_or true u v = refl
and_or false u v = refl

module _ {M : Type 0} {r : Semiring M} (laws : Laws r) (parent : ℕ → ℕ) (falls : Falling parent) (on : ℕ → ℕ) (w : ℕ → M) (p : ℕ → Bool) (n : ℕ) where
  abbrev within : ℕ → ℕ → Bool
  within g x = p x && inside parent g (on x)

  abbrev beneath : ℕ → ℕ → ℕ → ℕ → Bool
  beneath g first m x = p x && under parent falls g (from first m) (on x)

  abbrev clashing : ℕ → ℕ → Bool
  clashing a b = related parent (on a) (on b)

  abbrev weight : (ℕ → Bool) → M
  weight q = weigh r clashing w q 1 n

  -- the child around a bid beneath g
  beneath_child : (g first m x : ℕ) → beneath g first m x ≡ true → Listed parent falls g first m (on x)
  beneath_child g first m x e = under_child parent falls g first m (on x) (and_parts (p x) (under parent falls g (from first m) (on x)) e).1

  apart_siblings : (c d g h k : ℕ) → 0 < c → 0 < d → c ≢ d → parent c ≡ g → parent d ≡ g → inside parent c h ≡ true → inside parent d k ≡ true → related parent h k ≡ false
  apart_siblings c d g h k pc pd ne ec ed e f =
      or_from _ _
      (not_true _ (λ a. siblings parent falls c d k pc pd ne (ec ∙ sym ed) (inside_trans parent falls c h k e a) f))
      (not_true _ (λ a. siblings parent falls c d h pc pd ne (ec ∙ sym ed) e (inside_trans parent falls d k h f a)))

  -- What lies inside the listed children of g weighs the product over them.
  weigh_children : (g first m : ℕ) → 0 < first → weight (beneath g first m) ≡ product_by r (λ c. weight (within c)) (keep (λ c. eqb (parent c) g) (from first m))
  weigh_children g first zero pos =
      weigh_test laws clashing w (beneath g first 0) (λ x. false) 1 n (λ x h. and-false (p x)) ∙ weigh_none laws clashing w 1 n
  weigh_children g first (suc m) pos =
      let ih = weigh_children g (suc first) m (omega arith) in
      go (eqb (parent first) g) refl ih
    where
      go : (v : Bool) → eqb (parent first) g ≡ v → weight (beneath g (suc first) m) ≡ product_by r (λ c. weight (within c)) (keep (λ c. eqb (parent c) g) (from (suc first) m)) →
          weight (λ x. p x && ((v && inside parent first (on x)) || under parent falls g (from (suc first) m) (on x)))
          ≡ product_by r (λ c. weight (within c)) (cond v (first ∷ keep (λ c. eqb (parent c) g) (from (suc first) m)) (keep (λ c. eqb (parent c) g) (from (suc first) m)))
      go true e ih =
          weigh_test laws clashing w _ (either (within first) (beneath g (suc first) m)) 1 n (λ x h. and_or (p x) _ _)
          ∙ weigh_apart laws clashing w (within first) (beneath g (suc first) m) 1 n
          (λ x a b. let t = beneath_child g (suc first) m x b in
          siblings parent falls first t.0 (on x) pos (omega (arith, t.1)) (omega (arith, t.1)) (eqb-true _ _ e ∙ sym t.3) (and_parts _ _ a).1 t.4)
          (λ x y l a b. let t = beneath_child g (suc first) m y b in
          apart_siblings first t.0 g (on x) (on y) pos (omega (arith, t.1)) (omega (arith, t.1)) (eqb-true _ _ e) t.3 (and_parts _ _ a).1 t.4)
          (λ x y l a b. let t = beneath_child g (suc first) m x a in
          apart_siblings t.0 first g (on x) (on y) (omega (arith, t.1)) pos (omega (arith, t.1)) t.3 (eqb-true _ _ e) t.4 (and_parts _ _ b).1)
          ∙ ap (r.mul (weight (within first))) ih
      go false e ih = ih

  abbrev upon : ℕ → ℕ → Bool
  upon g x = p x && eqb (on x) g

  -- on g, or inside a child of g
  inside_splits : (g count h : ℕ) → h ≤ count → inside parent g h ≡ (eqb h g || under parent falls g (from 1 count) h)
  inside_splits g count h low =
      bool_same _ _
      (λ e. ⊎_elim (λ s. or_left _ _ (eq-eqb h g s)) (λ ns. let t = inside_child parent falls g h e ns in or_right _ _ (child_under parent falls g 1 count h t.0 (omega (arith, t.2)) (omega (arith, t.3)) t.1 t.4)) (cases_eq h g))
      (λ e. ⊎_elim (λ s. ap (inside parent g) (eqb-true h g s) ∙ inside_self parent falls g) (λ u. let t = under_child parent falls g 1 count h u in inside_trans parent falls g t.0 h (inside_parent parent falls g t.0 t.3) t.4) (or_cases _ _ e))

  beneath_inside : (g count x : ℕ) → beneath g 1 count x ≡ true → inside parent g (on x) ≡ true
  beneath_inside g count x e =
      let t = beneath_child g 1 count x e in
      inside_trans parent falls g t.0 (on x) (inside_parent parent falls g t.0 t.3) t.4

  upon_is : (g x : ℕ) → upon g x ≡ true → on x ≡ g
  upon_is g x e = eqb-true _ _ (and_parts _ _ e).1

  weigh_package : (g count : ℕ) → ((x : ℕ) → 1 ≤ x → x ≤ n → p x ≡ true → on x ≤ count) → weight (within g) ≡ r.add (product_by r (λ c. weight (within c)) (children parent count g)) (sum_by r w (keep (upon g) (from 1 n)))
  weigh_package g count low =
      weigh_same r clashing clashing w w (within g) (either (upon g) (beneath g 1 count)) 1 n
      (λ x h k. and_same (p x) (p x) _ _ refl (λ e. inside_splits g count (on x) (low x h (omega arith) e)) ∙ and_or (p x) _ _)
      (λ x h k e. refl) (λ a b h k l e f. refl)
      ∙ weigh_over laws clashing w (upon g) (beneath g 1 count) 1 n
      (λ x a b. let t = beneath_child g 1 count x b in
      omega (arith, upon_is g x a, inside_le parent falls t.0 (on x) t.4, falls t.0, t.3, t.1))
      (λ x y l a b. or_left _ _ (ap₂ (inside parent) (upon_is g x a) (upon_is g y b) ∙ inside_self parent falls g))
      (λ x y l a b. or_left _ _ (ap (λ z. inside parent z (on y)) (upon_is g x a) ∙ beneath_inside g count y b))
      (λ x y l a b. or_right _ _ (ap (λ z. inside parent z (on x)) (upon_is g y b) ∙ beneath_inside g count x a))
      ∙ ap (λ z. r.add z (sum_by r w (keep (upon g) (from 1 n)))) (weigh_children g 1 count (omega arith))

-- The weights are the totals of the contest.
module _ {M : Type 0} {r : Semiring M} (laws : Laws r) (c : Contest) (parent on : ℕ → ℕ) (count : ℕ) (nested : Nested c parent on count) (w : ℕ → M) where
  part_weighs : (g : ℕ) → part r c on w parent g ≡ weigh r (λ a b. related parent (on a) (on b)) w (λ b. c.stands b && inside parent g (on b)) 1 c.count
  part_weighs g =
      weigh_is laws c.clash w (λ b. c.stands b && inside parent g (on b)) 1 c.count
      ∙ weigh_same r c.clash _ w w _ _ 1 c.count (λ x h k. refl) (λ x h k e. refl) (λ a b h k l e f. nested.clashes a b (h, omega arith) (omega arith, omega arith) k)

  -- The total of a package is the product over its children and the sum of its own worths.
  pub part_is : (g : ℕ) → part r c on w parent g ≡ r.add (product_by r (part r c on w parent) (children parent count g)) (own r c on w g)
  part_is g =
      part_weighs g
      ∙ weigh_package laws parent nested.falls on w c.stands c.count g count (λ x h k e. (nested.placed x (h, omega arith)).1)
      ∙ ap (λ f. r.add (product_by r f (children parent count g)) (own r c on w g)) (fun_ext (λ d. sym (part_weighs d)))

  total_part : total_by r c w ≡ part r c on w parent 0
  total_part =
      weigh_is laws c.clash w c.stands 1 c.count
      ∙ weigh_same r c.clash c.clash w w c.stands (λ b. c.stands b && inside parent 0 (on b)) 1 c.count
      (λ x h k. sym (ap (λ v. c.stands x && v) (inside_root parent nested.falls (on x)) ∙ and-true (c.stands x))) (λ x h k e. refl) (λ a b h k l e f. refl)
      ∙ sym (weigh_is laws c.clash w (λ b. c.stands b && inside parent 0 (on b)) 1 c.count)

  -- The grand total is the product over the outermost packages.
  pub total_is : total_by r c w ≡ product_by r (part r c on w parent) (children parent count 0)
  total_is =
      total_part
      ∙ part_is 0
      ∙ ap (λ l. r.add (product_by r (part r c on w parent) (children parent count 0)) (sum_by r w l))
      (keep_outside _ 1 c.count (λ x h k. not_true _ (λ e. let t = and_parts (c.stands x) (eqb (on x) 0) e in omega (arith, (nested.placed x (h, omega arith)).0, eqb-true _ _ t.1))))
      ∙ add_nought_right laws _

  only_by : (T : ℕ → M) → ((g : ℕ) → 1 ≤ g → g ≤ count → T g ≡ r.add (product_by r T (children parent count g)) (own r c on w g)) → (k g : ℕ) → count ≤ g + k → 1 ≤ g → g ≤ count → T g ≡ part r c on w parent g
  only_by T solves zero g near low high =
      solves g low high
      ∙ ap (λ x. r.add x (own r c on w g)) (product_same r T (part r c on w parent) (λ d. eqb (parent d) g) 1 count (λ d h k e. absurd (omega (arith, eqb-true _ _ e, nested.falls d))))
      ∙ sym (part_is g)
  only_by T solves (suc k) g near low high =
      solves g low high
      ∙ ap (λ x. r.add x (own r c on w g)) (product_same r T (part r c on w parent) (λ d. eqb (parent d) g) 1 count (λ d h l e. let up = eqb-true (parent d) g e in only_by T solves k d (omega (arith, nested.falls d)) h (omega arith)))
      ∙ sym (part_is g)

  -- No other values have these equations.
  pub part_only : (T : ℕ → M) → ((g : ℕ) → 1 ≤ g → g ≤ count → T g ≡ r.add (product_by r T (children parent count g)) (own r c on w g)) → (g : ℕ) → 1 ≤ g → g ≤ count → T g ≡ part r c on w parent g
  part_only T solves g = only_by T solves count g (omega arith)

pub splits : {M : Type 0} (r : Semiring M) → Splits r
splits r laws c parent on count nested w = (part_is laws c parent on count nested w, total_is laws c parent on count nested w, part_only laws c parent on count nested w)
