-- The top-down pass finds the award.
use Rattle.std.proofs.Common.{◌≡◌, ℕ, zero, suc, ◌<◌, ◌≤◌, Bool, true, false, eqb, leb, ◌⊎◌, sym, refl, ap, ◌∙◌, subst, inl, inr, ⊎_elim, arith}
use Rattle.std.proofs.lemmas.Bool.{cases_eq, cases_Bool, cases_order, both_ways, and_parts, and_from, or_cases, or_left, or_right, not-true, not_from_false, eqb-true, eq-eqb, le-leb, leb-true, cond-true, cond-false}
use Rattle.contest.specs.Contest.{Contest, Bids, Numbered, ClashFree, award}
use Rattle.contest.specs.Nest.{inside as within, Nested, contest_inside}
use Rattle.contest.specs.Descent.{IsLowest, taken, Descends, wins}
use Rattle.contest.proofs.Sets.{false_since, same_since}
use Rattle.contest.proofs.Awarding.{award_is, award_only}
use Rattle.contest.proofs.Local.{keep, exchange, only_free, part_is_award, best_award, lowest_wins}
use Rattle.contest.proofs.Nesting.{inside_self, inside_up, inside_cases, inside_le, inside_trans, inside_linear}

module _ (c : Contest) (top : ℕ) (on parent : ℕ → ℕ) (nest : Nested c parent on top) where
  -- Two bids of a clash-free set are one if a package of theirs is inside the other.
  pub one_bid : (s : Bids) → ClashFree c s → (j k : ℕ) → s j ≡ true → s k ≡ true → within parent (on j) (on k) ≡ true → j ≡ k
  one_bid s f j k p q e =
      elim (cases_order j k) [
        | inl d ↦ d
        | inr (inl l) ↦ absurd (both_ways (c.clash j k) (f.apart j k l p q) (nest.clashes j k (f.numbered j p) (f.numbered k q) l ∙ or_left _ _ e))
        | inr (inr l) ↦ absurd (both_ways (c.clash k j) (f.apart k j l q p) (nest.clashes k j (f.numbered k q) (f.numbered j p) l ∙ or_right _ _ e))
      ]

  -- No bid of s lies on a package around g, other than g.
  abbrev pub Clear : Bids → ℕ → Type 0
  Clear s g = (k : ℕ) → s k ≡ true → within parent (on k) g ≡ true → on k ≡ g

  -- If nothing is awarded around g, the choice inside g can be exchanged for any other.
  pub exchange_free : (g : ℕ) (s t : Bids) → ClashFree c s → Clear s g → ClashFree (contest_inside c on parent g) t → ClashFree c (exchange (λ k. within parent g (on k)) t s)
  exchange_free g s t f clear ft =
      record {
        numbered = λ k h. ⊎_elim (λ x. f'.numbered k x.1) (λ x. f.numbered k x.1) (side k h);
        standing = λ k h. ⊎_elim (λ x. f'.standing k x.1) (λ x. f.standing k x.1) (side k h);
        apart = λ j k l p q. go j k l (side j p) (side k q);
      }
    where
      f' : ClashFree c t
      f' = only_free c (λ k. within parent g (on k)) t ft

      side : (k : ℕ) → exchange (λ i. within parent g (on i)) t s k ≡ true → ((within parent g (on k) ≡ true) × (t k ≡ true)) ⊎ ((within parent g (on k) ≡ false) × (s k ≡ true))
      side k h = ⊎_elim (λ e. inl (e, sym (cond-true (within parent g (on k)) (t k) (s k) e) ∙ h)) (λ e. inr (e, sym (cond-false (within parent g (on k)) (t k) (s k) e) ∙ h)) (cases_Bool (within parent g (on k)))

      -- A bid of t inside g and a bid of s outside g lie on packages of which none is inside the other.
      cross : (j k : ℕ) → (within parent g (on j) ≡ true) → (within parent g (on k) ≡ false) → s k ≡ true → ((within parent (on j) (on k) ≡ true) ⊎ (within parent (on k) (on j) ≡ true)) → ⊥
      cross j k x y h (inl e) = both_ways _ y (inside_trans parent nest.falls g (on j) (on k) x e)
      cross j k x y h (inr e) =
          ⊎_elim
          (λ d. both_ways _ y d)
          (λ d. both_ways _ y (subst (λ i. within parent g i ≡ true) (sym (clear k h d)) (inside_self parent nest.falls g)))
          (inside_linear parent nest.falls g (on k) (on j) x e)

      go : (j k : ℕ) → j < k → ((within parent g (on j) ≡ true) × (t j ≡ true)) ⊎ ((within parent g (on j) ≡ false) × (s j ≡ true)) → ((within parent g (on k) ≡ true) × (t k ≡ true)) ⊎ ((within parent g (on k) ≡ false) × (s k ≡ true)) → c.clash j k ≡ false
      go j k l (inl x) (inl y) = f'.apart j k l x.1 y.1
      go j k l (inr x) (inr y) = f.apart j k l x.1 y.1
      go j k l (inl x) (inr y) = false_since _ (λ e. cross j k x.0 y.0 y.1 (or_cases _ _ (sym (nest.clashes j k (f'.numbered j x.1) (f.numbered k y.1) l) ∙ e)))
      go j k l (inr x) (inl y) = false_since _ (λ e. cross k j y.0 x.0 x.1 (⊎_elim inr inl (or_cases _ _ (sym (nest.clashes j k (f.numbered j x.1) (f'.numbered k y.1) l) ∙ e))))

  -- Then the award inside g is the award of the bids inside g.
  pub award_inside : (g : ℕ) → Clear (award c) g → keep (λ k. within parent g (on k)) (award c) ≡ award (contest_inside c on parent g)
  award_inside g clear =
      award_only (contest_inside c on parent g) _ _ (part_is_award c (λ k. within parent g (on k)) (award c) (award_is c) (λ t f. exchange_free g (award c) t (award_is c).clash_free clear f)) (award_is (contest_inside c on parent g))

  module _ (low : ℕ → ℕ) (lowest : (g : ℕ) → 1 ≤ g → g ≤ top → IsLowest (contest_inside c on parent g) (low g)) where
    -- The lowest number inside a clear package wins.
    pub low_wins : (g : ℕ) → 1 ≤ g → g ≤ top → Clear (award c) g → Numbered c (low g) → (award c (low g) ≡ true) × (within parent g (on (low g)) ≡ true)
    low_wins g p q clear n =
        let e = ap (λ (s : Bids). s (low g)) (award_inside g clear) in
        let b = and_parts (award c (low g)) (within parent g (on (low g))) (e ∙ lowest_wins (contest_inside c on parent g) (low g) (lowest g p q) n) in
        (b.0, b.1)

    -- If anything inside a clear package wins, there is a lowest number.
    pub low_numbered : (g : ℕ) → 1 ≤ g → g ≤ top → Clear (award c) g → (k : ℕ) → award c k ≡ true → within parent g (on k) ≡ true → Numbered c (low g)
    low_numbered g p q clear k h e =
        let w : award (contest_inside c on parent g) k ≡ true = sym (ap (λ (s : Bids). s k) (award_inside g clear)) ∙ and_from _ _ h e in
        ((lowest g p q).least (award (contest_inside c on parent g)) (best_award (contest_inside c on parent g)) k w).0

    -- A winning bid on a clear package is the lowest number there.
    pub low_on : (g : ℕ) → 1 ≤ g → g ≤ top → Clear (award c) g → (k : ℕ) → award c k ≡ true → on k ≡ g → low g ≡ k
    low_on g p q clear k h e =
        let self : within parent g (on k) ≡ true = subst (λ i. within parent g i ≡ true) (sym e) (inside_self parent nest.falls g) in
        let n = low_numbered g p q clear k h self in
        let w = low_wins g p q clear n in
        sym (one_bid (award c) (award_is c).clash_free k (low g) h w.0 (subst (λ i. within parent i (on (low g)) ≡ true) (sym e) w.1))

    taken_from : (g : ℕ) → Numbered c (low g) → on (low g) ≡ g → taken c.count on low g ≡ true
    taken_from g n e = and_from _ _ (and_from _ _ (le-leb 1 (low g) n.0) (le-leb (low g) c.count n.1)) (eq-eqb (on (low g)) g e)

    taken_says : (g : ℕ) → taken c.count on low g ≡ true → Numbered c (low g) × (on (low g) ≡ g)
    taken_says g e =
        let b = and_parts _ (eqb (on (low g)) g) e in
        let d = and_parts (leb 1 (low g)) (leb (low g) c.count) b.0 in
        ((leb-true 1 (low g) d.0, leb-true (low g) c.count d.1), eqb-true (on (low g)) g b.1)

    -- The packages inside g are clear exactly if g is clear and not taken whole.
    clear_down : (g : ℕ) → 1 ≤ g → (1 ≤ parent g) → parent g ≤ top → Clear (award c) (parent g) → taken c.count on low (parent g) ≡ false → Clear (award c) g
    clear_down g p r q clear t k h e =
        ⊎_elim
        (λ d. sym d)
        (λ d. (let o = clear k h d in
        let l = low_on (parent g) r q clear k h o in
        absurd (both_ways _ t (taken_from (parent g) (subst (Numbered c) (sym l) ((award_is c).clash_free.numbered k h)) (ap on l ∙ o)))))
        (inside_cases parent nest.falls (on k) g e)

    none_around : (g : ℕ) → 1 ≤ g → Clear (award c) g → (k : ℕ) → award c k ≡ true → within parent (on k) (parent g) ≡ true → ⊥
    none_around g p clear k h e =
        let o = clear k h (inside_up parent nest.falls (on k) g e) in
        let l = inside_le parent nest.falls (on k) (parent g) e in
        let m = nest.falls g in
        omega arith

    module _ (opened : ℕ → Bool) (down : Descends c.count top on parent low opened) where
      open_clear : (m g : ℕ) → g ≤ m → 1 ≤ g → g ≤ top → (opened g ≡ true → Clear (award c) g) × (Clear (award c) g → opened g ≡ true)
      open_clear zero g b p q = absurd (omega arith)
      open_clear (suc m) g b p q =
          let l = nest.falls g in
          elim (cases_eq (parent g) 0) [
            | inl z ↦ (λ _ k h e. ⊎_elim (λ d. sym d) (λ d. absurd (none_at_zero k h z d)) (inside_cases parent nest.falls (on k) g e), λ _. down g p q ∙ or_left _ _ (eq-eqb (parent g) 0 z))
            | inr z ↦ (let ih = open_clear m (parent g) (omega arith) (omega arith) (omega arith) in (λ o. opened_down ih z (omega arith) o, λ clear. opened_up ih z (omega arith) clear))
          ]
        where
          none_at_zero : (k : ℕ) → award c k ≡ true → parent g ≡ 0 → within parent (on k) (parent g) ≡ true → ⊥
          none_at_zero k h z d = (let s = inside_le parent nest.falls (on k) (parent g) d in let b = nest.placed k ((award_is c).clash_free.numbered k h) in omega arith)

          opened_down : ((opened (parent g) ≡ true → Clear (award c) (parent g)) × (Clear (award c) (parent g) → opened (parent g) ≡ true)) → (parent g ≡ 0 → ⊥) → parent g < g → opened g ≡ true → Clear (award c) g
          opened_down ih z l o =
              ⊎_elim
              (λ e. absurd (z (eqb-true (parent g) 0 e)))
              (λ e. (let b = and_parts (opened (parent g)) _ e in clear_down g p (omega arith) (omega arith) (ih.0 b.0) (not-true _ b.1)))
              (or_cases _ _ (sym (down g p q) ∙ o))

          opened_up : ((opened (parent g) ≡ true → Clear (award c) (parent g)) × (Clear (award c) (parent g) → opened (parent g) ≡ true)) → (parent g ≡ 0 → ⊥) → parent g < g → Clear (award c) g → opened g ≡ true
          opened_up ih z l clear =
              let around : Clear (award c) (parent g) = λ k h e. absurd (none_around g p clear k h e) in
              down g p q ∙ or_right _ _ (and_from _ _ (ih.1 around) (not_from_false _ (false_since _ (λ t. free_of around (taken_says (parent g) t)))))
            where
              free_of : Clear (award c) (parent g) → Numbered c (low (parent g)) × (on (low (parent g)) ≡ parent g) → ⊥
              free_of around s =
                  let w = low_wins (parent g) (omega arith) (omega arith) around s.0 in
                  none_around g p clear (low (parent g)) w.0 (subst (λ i. within parent i (parent g) ≡ true) (sym s.1) (inside_self parent nest.falls (parent g)))

      pub descent : (k : ℕ) → Numbered c k → award c k ≡ wins on low opened k
      descent k n =
          let g = nest.placed k n in
          let oc = open_clear (on k) (on k) (omega arith) g.0 g.1 in
          same_since (award c k) (wins on low opened k) (λ h. chosen h oc) (λ h. right h oc)
        where
          chosen : award c k ≡ true → ((opened (on k) ≡ true → Clear (award c) (on k)) × (Clear (award c) (on k) → opened (on k) ≡ true)) → wins on low opened k ≡ true
          chosen h oc =
              let clear : Clear (award c) (on k) = λ j i e. ap on (one_bid (award c) (award_is c).clash_free j k i h e) in
              let g = nest.placed k n in
              and_from _ _ (oc.1 clear) (eq-eqb (low (on k)) k (low_on (on k) g.0 g.1 clear k h refl))

          right : wins on low opened k ≡ true → ((opened (on k) ≡ true → Clear (award c) (on k)) × (Clear (award c) (on k) → opened (on k) ≡ true)) → award c k ≡ true
          right h oc =
              let b = and_parts (opened (on k)) _ h in
              let e = eqb-true (low (on k)) k b.1 in
              let g = nest.placed k n in
              ap (award c) (sym e) ∙ (low_wins (on k) g.0 g.1 (oc.0 b.0) (subst (Numbered c) (sym e) n)).0
