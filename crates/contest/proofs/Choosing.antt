-- The total in a semiring of amounts with the lowest bid number.
use Rattle.std.proofs.Common.{◌≡◌, ℕ, ◌<◌, ◌≤◌, Bool, true, false, cond, ◌⊎◌, List, [], ◌∷◌, sym, refl, ap, ◌∙◌, subst, ap₂, inl, inr, ⊎_elim, arith}
use Rattle.std.proofs.lemmas.Bool.{cases_eq, cases_order}
use Rattle.std.proofs.lemmas.Bool.Decides.{nat_tests}
use Rattle.contest.specs.Contest.{Contest, Bids, ClashFree, award, best_revenue}
use Rattle.contest.specs.Descent.{IsLowest}
use Rattle.scales.specs.Semiring.{Semiring}
use Rattle.contest.specs.Total.{from, subsets, keep, clash_free, sum_by, product_by, total_by}
use Rattle.contest.specs.Choices.{lesser, Choices}
use Rattle.contest.proofs.Awarding.{award_is}
use Rattle.contest.proofs.Subsets.{In, listed, listed_in, in_listed, listed_has, has_listed, passes_free, free_passes, list_sum, listed_sum}

-- What a filter keeps.
pub in_keep : {A : Type 0} (p : A → Bool) (a : A) (xs : List A) → In a xs → p a ≡ true → In a (keep p xs)
in_keep p a [] i h = absurd i
in_keep p a (x ∷ xs) (inl e) h = go (p x) (sym (ap p e) ∙ h)
  where
    go : (w : Bool) → w ≡ true → In a (cond w (x ∷ keep p xs) (keep p xs))
    go true d = inl e
    go false d = absurd (Rattle.std.proofs.lemmas.Bool.both_ways false refl d)
in_keep p a (x ∷ xs) (inr i) h = go (p x) (in_keep p a xs i h)
  where
    go : (w : Bool) → In a (keep p xs) → In a (cond w (x ∷ keep p xs) (keep p xs))
    go true j = inr j
    go false j = j

pub kept_in : {A : Type 0} (p : A → Bool) (a : A) (xs : List A) → In a (keep p xs) → In a xs × (p a ≡ true)
kept_in p a [] i = absurd i
kept_in p a (x ∷ xs) i = go (p x) refl i (kept_in p a xs)
  where
    go : (w : Bool) → p x ≡ w → In a (cond w (x ∷ keep p xs) (keep p xs)) → (In a (keep p xs) → In a xs × (p a ≡ true)) → ((a ≡ x) ⊎ In a xs) × (p a ≡ true)
    go true e (inl d) r = (inl d, ap p d ∙ e)
    go true e (inr j) r = (let b = r j in (inr b.0, b.1))
    go false e j r = (let b = r j in (inr b.0, b.1))

-- The lesser of two numbers is one of them, and none only if both are.
pub lesser_one : (x y : ℕ) → (lesser x y ≡ x) ⊎ (lesser x y ≡ y)
lesser_one x y =
    elim (cases_eq x 0) [
      | inl e ↦ inr (grind (arith, nat_tests))
      | inr d ↦ elim (cases_order x y) [ inl e ↦ inl (grind (arith, nat_tests)) | inr (inl l) ↦ inl (grind (arith, nat_tests)) | inr (inr l) ↦ elim (cases_eq y 0) [ inl e ↦ inl (grind (arith, nat_tests)) | inr g ↦ inr (grind (arith, nat_tests)) ] ]
    ]

pub lesser_left : (x y : ℕ) → 1 ≤ x → (1 ≤ lesser x y) × (lesser x y ≤ x)
lesser_left x y p = (grind (arith, nat_tests), grind (arith, nat_tests))

pub lesser_right : (x y : ℕ) → 1 ≤ y → (1 ≤ lesser x y) × (lesser x y ≤ y)
lesser_right x y p = (grind (arith, nat_tests), grind (arith, nat_tests))

-- The lowest number of a list, or 0.
abbrev pub lowest : List ℕ → ℕ
lowest [] = 0
lowest (x ∷ xs) = lesser x (lowest xs)

pub lowest_least : (xs : List ℕ) (k : ℕ) → 1 ≤ k → In k xs → (1 ≤ lowest xs) × (lowest xs ≤ k)
lowest_least [] k p i = absurd i
lowest_least (x ∷ xs) k p (inl e) = (let r = lesser_left x (lowest xs) (omega arith) in (r.0, omega arith))
lowest_least (x ∷ xs) k p (inr i) =
    let b = lowest_least xs k p i in
    let r = lesser_right x (lowest xs) b.0 in
    (r.0, omega arith)

pub lowest_member : (xs : List ℕ) → 1 ≤ lowest xs → In (lowest xs) xs
lowest_member [] p = absurd (omega arith)
lowest_member (x ∷ xs) p = ⊎_elim inl (λ e. inr (subst (λ j. In j xs) (sym e) (lowest_member xs (omega arith)))) (lesser_one x (lowest xs))

module _ {M : Type 0} (r : Semiring M) (best : ℕ → ℕ → M) (limit : ℕ) (laws : Choices r best limit) (price : ℕ → ℕ) where
  abbrev worth : ℕ → M
  worth k = best (price k) k

  product_is : (xs : List ℕ) → list_sum price xs < limit → product_by r worth xs ≡ best (list_sum price xs) (lowest xs)
  product_is [] l = laws.unit_is
  product_is (x ∷ xs) l =
      ap (r.mul (best (price x) x)) (product_is xs (omega arith)) ∙ laws.mul_is (price x) x (list_sum price xs) (lowest xs) l

  -- Amount m is the greatest of the lists, and f the lowest number in any of those that fetch it.
  pub record Outcome (ls : List (List ℕ)) (m f : ℕ) : Type 0 where
    pub attained : (xs : List ℕ) × In xs ls × (list_sum price xs ≡ m)
    pub most : (xs : List ℕ) → In xs ls → list_sum price xs ≤ m
    pub least : (xs : List ℕ) → In xs ls → list_sum price xs ≡ m → (k : ℕ) → 1 ≤ k → In k xs → (1 ≤ f) × (f ≤ k)
    pub reached : 1 ≤ f → (xs : List ℕ) × In xs ls × (list_sum price xs ≡ m) × In f xs

  abbrev SumIs : List (List ℕ) → M → Type 0
  SumIs ls v = (m : ℕ) × (f : ℕ) × (v ≡ best m f) × (m < limit) × Outcome ls m f

  -- One list alone.
  alone : (x : List ℕ) → list_sum price x < limit → SumIs (x ∷ []) (r.add (product_by r worth x) r.nought)
  alone x l = (
    list_sum price x,
    lowest x,
    laws.add_nought _ ∙ product_is x l,
    l,
    record {
      attained = (x, inl refl, refl);
      most = λ xs i. ⊎_elim (λ d. (let q = ap (list_sum price) d in omega arith)) (λ j. absurd j) i;
      least = λ xs i w k p j. ⊎_elim (λ d. lowest_least x k p (subst (In k) d j)) (λ e. absurd e) i;
      reached = λ q. (x, inl refl, refl, lowest_member x q);
    },
  )

  -- One list more.
  one_more : (x : List ℕ) (ls : List (List ℕ)) (v : M) → list_sum price x < limit → SumIs ls v → SumIs (x ∷ ls) (r.add (product_by r worth x) v)
  one_more x ls v l h =
      elim (cases_order (list_sum price x) h.0) [
        | inl d ↦ (h.0, lesser (lowest x) h.1, ap₂ r.add (product_is x l ∙ ap (λ a. best a (lowest x)) d) h.2 ∙ laws.add_equal h.0 (lowest x) h.1 h.3, h.3, equal d)
        | inr (inl d) ↦ (h.0, h.1, ap₂ r.add (product_is x l) h.2 ∙ laws.add_less (list_sum price x) (lowest x) h.0 h.1 h.3 d, h.3, fewer d)
        | inr (inr d) ↦ (list_sum price x, lowest x, ap₂ r.add (product_is x l) h.2 ∙ laws.add_more (list_sum price x) (lowest x) h.0 h.1 l d, l, more d)
      ]
    where
      o : Outcome ls h.0 h.1
      o = h.4

      fewer : list_sum price x < h.0 → Outcome (x ∷ ls) h.0 h.1
      fewer d =
          record {
            attained = (o.attained.0, inr o.attained.1, o.attained.2);
            most = λ xs i. ⊎_elim (λ g. (let q = ap (list_sum price) g in omega arith)) (o.most xs) i;
            least = λ xs i w. ⊎_elim (λ g. (let q = ap (list_sum price) g in absurd (omega arith))) (λ j. o.least xs j w) i;
            reached = λ q. (let w = o.reached q in (w.0, inr w.1, w.2, w.3));
          }

      more : h.0 < list_sum price x → Outcome (x ∷ ls) (list_sum price x) (lowest x)
      more d =
          record {
            attained = (x, inl refl, refl);
            most = λ xs i. ⊎_elim (λ g. (let q = ap (list_sum price) g in omega arith)) (λ j. (let q = o.most xs j in omega arith)) i;
            least = λ xs i w k p t. ⊎_elim (λ g. lowest_least x k p (subst (In k) g t)) (λ j. (let q = o.most xs j in absurd (omega arith))) i;
            reached = λ q. (x, inl refl, refl, lowest_member x q);
          }

      equal : list_sum price x ≡ h.0 → Outcome (x ∷ ls) h.0 (lesser (lowest x) h.1)
      equal d =
          record {
            attained = (x, inl refl, d);
            most = λ xs i. ⊎_elim (λ g. (let q = ap (list_sum price) g in omega arith)) (o.most xs) i;
            least =
                λ xs i w k p t.
                ⊎_elim
                (λ g. (let q = lowest_least x k p (subst (In k) g t) in let b = lesser_left (lowest x) h.1 q.0 in (b.0, omega arith)))
                (λ j. (let q = o.least xs j w k p t in let b = lesser_right (lowest x) h.1 q.0 in (b.0, omega arith)))
                i;
            reached =
                λ q.
                ⊎_elim
                (λ g. (x, inl refl, d, subst (λ j. In j x) (sym g) (lowest_member x (omega arith))))
                (λ g. (let w = o.reached (omega arith) in (w.0, inr w.1, w.2, subst (λ j. In j w.0) (sym g) w.3)))
                (lesser_one (lowest x) h.1);
          }

  pub sum_is : (x : List ℕ) (ls : List (List ℕ)) → ((xs : List ℕ) → In xs (x ∷ ls) → list_sum price xs < limit) → SumIs (x ∷ ls) (sum_by r (product_by r worth) (x ∷ ls))
  sum_is x [] h = alone x (h x (inl refl))
  sum_is x (y ∷ ls) h = one_more x (y ∷ ls) _ (h x (inl refl)) (sum_is y ls (λ xs i. h xs (inr i)))

-- The lists that a total keeps are those of the clash-free sets.
pub kept_set : (c : Contest) (xs : List ℕ) → In xs (keep (clash_free c.stands c.clash) (subsets (from 1 c.count))) → (s : Bids) × ClashFree c s × (xs ≡ listed 1 c.count s)
kept_set c xs i =
    let b = kept_in (clash_free c.stands c.clash) xs (subsets (from 1 c.count)) i in
    let w = in_listed 1 c.count xs b.0 in
    (w.0, passes_free c w.0 w.1 (ap (clash_free c.stands c.clash) (sym w.2) ∙ b.1), w.2)

pub set_kept : (c : Contest) (s : Bids) → ClashFree c s → In (listed 1 c.count s) (keep (clash_free c.stands c.clash) (subsets (from 1 c.count)))
set_kept c s f = in_keep (clash_free c.stands c.clash) (listed 1 c.count s) (subsets (from 1 c.count)) (listed_in 1 c.count s) (free_passes c s f)

module _ {M : Type 0} (r : Semiring M) (best : ℕ → ℕ → M) (limit : ℕ) (laws : Choices r best limit) (c : Contest) (bound : best_revenue c < limit) where
  abbrev kept : List (List ℕ)
  kept = keep (clash_free c.stands c.clash) (subsets (from 1 c.count))

  below : (xs : List ℕ) → In xs kept → list_sum c.price xs < limit
  below xs i =
      let w = kept_set c xs i in
      let l = (award_is c).greatest w.0 w.1 in
      let e = listed_sum c.count w.0 c.price in
      let d = ap (list_sum c.price) w.2 in
      omega arith

  whole : (ls : List (List ℕ)) → In (listed 1 c.count (award c)) ls → ((xs : List ℕ) → In xs ls → list_sum c.price xs < limit) → (m : ℕ) × (f : ℕ) × (sum_by r (product_by r (λ k. best (c.price k) k)) ls ≡ best m f) × (m < limit) × Outcome r best limit laws c.price ls m f
  whole [] i h = absurd i
  whole (x ∷ ls) i h = sum_is r best limit laws c.price x ls h

  pub total_chooses : (f : ℕ) × (total_by r c (λ k. best (c.price k) k) ≡ best (best_revenue c) f) × IsLowest c f
  total_chooses =
      let h = whole kept (set_kept c (award c) (award_is c).clash_free) below in
      let o = h.4 in
      let at = o.attained in
      let w = kept_set c at.0 at.1 in
      let l = (award_is c).greatest w.0 w.1 in
      let e = listed_sum c.count w.0 c.price in
      let d = ap (list_sum c.price) w.2 in
      let m = o.most (listed 1 c.count (award c)) (set_kept c (award c) (award_is c).clash_free) in
      let g = listed_sum c.count (award c) c.price in
      let eq : h.0 ≡ best_revenue c = (let z = at.2 in omega arith) in (
        h.1,
        h.2 ∙ ap (λ n. best n h.1) eq,
        record {
          reached =
              λ n.
              (let x = o.reached n.0 in
              let u = kept_set c x.0 x.1 in
              let v = listed_sum c.count u.0 c.price in
              (u.0, record { clash_free = u.1; revenue_is = v ∙ sym (ap (list_sum c.price) u.2) ∙ x.2 ∙ eq }, (has_listed 1 c.count u.0 h.1 (subst (In h.1) u.2 x.3)).2));
          least =
              λ s b k j.
              (let n = b.clash_free.numbered k j in
              let x = o.least (listed 1 c.count s) (set_kept c s b.clash_free) (sym (listed_sum c.count s c.price) ∙ b.revenue_is ∙ sym eq) k n.0 (listed_has 1 c.count s k n.0 (omega arith) j) in
              ((x.0, omega arith), x.1));
        },
      )
