-- Packages that were permitted one after another form a nest, and their parents are the innermost packages around them.
use Rattle.std.proofs.Common.{◌≡◌, ℕ, zero, suc, ◌-◌, ◌<◌, ◌≤◌, ◌⊎◌, List, [], ◌∷◌, ◌++◌, length, get_or, take, Some, None, Option, sym, refl, ap, ◌∙◌, subst, inl, inr, arith}
use Rattle.std.proofs.lemmas.List.{append-nil, append_assoc, get_or-take, length-take-le}
use Rattle.std.proofs.lemmas.Bool.{cases_lt, cases_order}
use Rattle.packages.specs.declared.relation.Relation.TheVariants.{Inside, Apart}
use Rattle.packages.specs.Lots.{Lots}
use Rattle.packages.specs.Nest.{innermost_from, relation_of}
use Rattle.packages.specs.Sets.{Within, Disjoint, Fits, Stands}
use Rattle.packages.specs.Places.{no_lots, package_at, Numbered}
use Rattle.packages.specs.SetsLemmas.{fits_says, stands_so}
use Rattle.packages.proofs.Nests.{no_conflict, no_container, innermost_is}
use Rattle.books.specs.Nested.{Contains, parents_after, parents_of, Parent, parent_of, Nest}
use Rattle.books.proofs.Kept.{Placed}

parents_push_after : (earlier ts : List Lots) (t : Lots) → parents_after earlier (ts ++ (t ∷ [])) ≡ parents_after earlier ts ++ (innermost_from 1 t (earlier ++ ts) ∷ [])
parents_push_after earlier [] t = ap (λ l. innermost_from 1 t l ∷ []) (sym (append-nil earlier))
parents_push_after earlier (x ∷ ts) t =
    ap (λ l. innermost_from 1 x earlier ∷ l) (parents_push_after (earlier ++ (x ∷ [])) ts t
    ∙ ap (λ l. parents_after (earlier ++ (x ∷ [])) ts ++ (innermost_from 1 t l ∷ [])) (append_assoc earlier (x ∷ []) ts))

-- one package more has one parent more
pub parents_push : (ts : List Lots) (t : Lots) → parents_of (ts ++ (t ∷ [])) ≡ parents_of ts ++ (innermost_from 1 t ts ∷ [])
parents_push ts t = parents_push_after [] ts t

-- the parent of a package, read off the list of parents
parents_at : (earlier ts : List Lots) (i : ℕ) → i < length ts → get_or (parents_after earlier ts) i None ≡ innermost_from 1 (get_or ts i no_lots) (earlier ++ take i ts)
parents_at earlier [] i h = absurd (omega arith)
parents_at earlier (x ∷ ts) zero h = ap (innermost_from 1 x) (sym (append-nil earlier))
parents_at earlier (x ∷ ts) (suc i) h =
    parents_at (earlier ++ (x ∷ [])) ts i (omega arith) ∙ ap (innermost_from 1 (get_or ts i no_lots)) (append_assoc earlier (x ∷ []) (take i ts))

module _ (n : ℕ) (ts : List Lots) (placed : Placed n ts) where
  fitted : (i : ℕ) → i < length ts → Fits n (get_or ts i no_lots)
  fitted i h = fits_says n (get_or ts i no_lots) (placed i h).0

  taken : (i j : ℕ) → j < i → relation_of (get_or ts i no_lots) (get_or (take i ts) j no_lots) ≡ relation_of (get_or ts i no_lots) (get_or ts j no_lots)
  taken i j h = ap (relation_of (get_or ts i no_lots)) (get_or-take i ts j no_lots h)

  related : (i j : ℕ) → j < i → i < length ts
      → (relation_of (get_or ts i no_lots) (get_or ts j no_lots) ≡ Inside) ⊎ (relation_of (get_or ts i no_lots) (get_or ts j no_lots) ≡ Apart)
  related i j l h =
      let long : j < length (take i ts) = omega (arith, length-take-le i ts (omega arith)) in
      elim (no_conflict 1 (get_or ts i no_lots) (take i ts) no_lots (placed i h).1 j long) [
        | inl e ↦ inl (sym (taken i j l) ∙ e)
        | inr e ↦ inr (sym (taken i j l) ∙ e)
      ]

  -- a later package stands inside an earlier one or apart from it
  placed_so : (i j : ℕ) → j < i → i < length ts
      → (Within (get_or ts i no_lots) (get_or ts j no_lots) × (Within (get_or ts j no_lots) (get_or ts i no_lots) → ⊥)) ⊎ Disjoint (get_or ts i no_lots) (get_or ts j no_lots)
  placed_so i j l h =
      let s = get_or ts i no_lots in
      let t = get_or ts j no_lots in
      elim (related i j l h) [
        | inl e ↦ inl (subst (λ r. Stands s t r) e (stands_so s t))
        | inr e ↦ inr (subst (λ r. Stands s t r) e (stands_so s t)).2
      ]

  -- a package that shares a lot with another is not apart from it
  met : (i j k : ℕ) → Within (get_or ts i no_lots) (get_or ts j no_lots) → Within (get_or ts i no_lots) (get_or ts k no_lots) → i < length ts
      → Disjoint (get_or ts j no_lots) (get_or ts k no_lots) → ⊥
  met i j k a b h never = let lot = (fitted i h).0 in never lot.0 (a lot.0 lot.1) (b lot.0 lot.1)

  above : (i j : ℕ) → i < length ts → j < length ts → (j ≡ i → ⊥) → Within (get_or ts i no_lots) (get_or ts j no_lots) → j < i
  above i j h k other w =
      elim (cases_lt j i) [
        | inl lt ↦ lt
        | inr ge ↦
            let after : i < j = omega arith in
            elim (placed_so j i after k) [
              | inl e ↦ absurd (e.1 w)
              | inr e ↦ absurd (met i j i w (λ x y. y) h e)
            ]
      ]

  parent_is : (i : ℕ) → i < length ts → (o : Option ℕ) → innermost_from 1 (get_or ts i no_lots) (take i ts) ≡ o → (g : ℕ) → 1 ≤ g → g - 1 ≡ i → Parent ts g o
  parent_is i h None none g l at =
      λ e num other w.
      let inner : Within (get_or ts i no_lots) (get_or ts (e - 1) no_lots) = subst (λ x. Within (get_or ts x no_lots) (get_or ts (e - 1) no_lots)) at w in
      let low = above i (e - 1) h (omega arith) (omega arith) inner in
      let long : e - 1 < length (take i ts) = omega (arith, length-take-le i ts (omega arith)) in
      elim (related i (e - 1) low h) [
        | inl is ↦ no_container 1 (get_or ts i no_lots) (take i ts) no_lots none (e - 1) long (taken i (e - 1) low ∙ is)
        | inr is ↦
            let never = (subst (λ r. Stands (get_or ts i no_lots) (get_or ts (e - 1) no_lots) r) is (stands_so (get_or ts i no_lots) (get_or ts (e - 1) no_lots))).2 in
            met i i (e - 1) (λ x y. y) inner h never
      ]
  parent_is i h (Some f) some g l at =
      let s = get_or ts i no_lots in
      let r = innermost_is 1 s (take i ts) no_lots f some in
      let j = r.index in
      let early : j < i = omega (arith, r.short, length-take-le i ts (omega arith)) in
      let is_j : f - 1 ≡ j = omega (arith, r.number) in
      let inside = (subst (λ x. Stands s (get_or ts j no_lots) x) (sym (taken i j early) ∙ r.inside) (stands_so s (get_or ts j no_lots))).0 in
      let contains : Contains ts f g = subst (λ x. Within (get_or ts x no_lots) (get_or ts (f - 1) no_lots)) (sym at) (subst (λ x. Within s (get_or ts x no_lots)) (sym is_j) inside) in (
        (omega (arith, r.number), omega (arith, r.number)),
        omega (arith, r.number),
        contains,
        λ e num other w.
            let k = e - 1 in
            let inner : Within s (get_or ts k no_lots) = subst (λ x. Within (get_or ts x no_lots) (get_or ts k no_lots)) at w in
            let low = above i k h (omega arith) (omega arith) inner in
            let goal : Within (get_or ts j no_lots) (get_or ts k no_lots) → Contains ts e f = λ v. subst (λ x. Within (get_or ts x no_lots) (get_or ts k no_lots)) (sym is_j) v in
            elim (cases_order k j) [
              | inl same ↦ goal (subst (λ x. Within (get_or ts j no_lots) (get_or ts x no_lots)) (sym same) (λ x y. y))
              | inr (inl before) ↦
                  goal (elim (placed_so j k before (omega arith)) [
                    | inl v ↦ v.0
                    | inr v ↦ absurd (met i j k inside inner h v)
                  ])
              | inr (inr later) ↦
                  elim (related i k low h) [
                    | inl is ↦ absurd (r.last k later (omega (arith, length-take-le i ts (omega arith))) (taken i k low ∙ is))
                    | inr is ↦
                        let never = (subst (λ x. Stands s (get_or ts k no_lots) x) is (stands_so s (get_or ts k no_lots))).2 in
                        absurd (met i i k (λ x y. y) inner h never)
                  ]
            ],
      )

  lower_is : (f g : ℕ) → Numbered ts f → Numbered ts g → (f ≡ g → ⊥) → Contains ts f g → f < g
  lower_is f g a b other w = let low = above (g - 1) (f - 1) (omega arith) (omega arith) (omega arith) w in omega arith

  nested_is : (f g : ℕ) → Numbered ts f → Numbered ts g → Contains ts f g ⊎ (Contains ts g f ⊎ Disjoint (package_at ts f) (package_at ts g))
  nested_is f g a b =
      elim (cases_order (f - 1) (g - 1)) [
        | inl same ↦ inl (subst (λ x. Within (get_or ts (g - 1) no_lots) (get_or ts x no_lots)) (sym same) (λ x y. y))
        | inr (inl before) ↦
            elim (placed_so (g - 1) (f - 1) before (omega arith)) [
              | inl v ↦ inl v.0
              | inr v ↦ inr (inr (λ k x y. v k y x))
            ]
        | inr (inr later) ↦
            elim (placed_so (f - 1) (g - 1) later (omega arith)) [
              | inl v ↦ inr (inl v.0)
              | inr v ↦ inr (inr v)
            ]
      ]

  parent_so : (g : ℕ) → Numbered ts g → Parent ts g (parent_of ts g)
  parent_so g num =
      subst (λ o. Parent ts g o) (sym (parents_at [] ts (g - 1) (omega arith)))
      (parent_is (g - 1) (omega arith) (innermost_from 1 (get_or ts (g - 1) no_lots) (take (g - 1) ts)) refl g num.0 refl)

  -- a package that contains another does not have the same parent
  not_siblings : (o : Option ℕ) (f g : ℕ) → Numbered ts f → Numbered ts g → (f ≡ g → ⊥) → Parent ts f o → Parent ts g o → Contains ts f g → ⊥
  not_siblings None f g a b other p q w = q f a other w
  not_siblings (Some e) f g a b other p q w =
      let up = lower_is e f p.0 a p.1 p.2 in
      let down = lower_is f e a p.0 (λ x. p.1 (sym x)) (q.3 f a other w) in
      omega arith

  siblings_are : (f g : ℕ) → Numbered ts f → Numbered ts g → (f ≡ g → ⊥) → parent_of ts f ≡ parent_of ts g → Disjoint (package_at ts f) (package_at ts g)
  siblings_are f g a b other same =
      let p : Parent ts f (parent_of ts g) = subst (λ o. Parent ts f o) same (parent_so f a) in
      let q = parent_so g b in
      elim (nested_is f g a b) [
        | inl w ↦ absurd (not_siblings (parent_of ts g) f g a b other p q w)
        | inr (inl w) ↦ absurd (not_siblings (parent_of ts g) g f b a (λ x. other (sym x)) q p w)
        | inr (inr w) ↦ w
      ]

  different_are : (f g : ℕ) → Numbered ts f → Numbered ts g → (f ≡ g → ⊥) → Contains ts g f → Contains ts f g → ⊥
  different_are f g a b other v w =
      let up = lower_is f g a b other w in
      let down = lower_is g f b a (λ x. other (sym x)) v in
      omega arith

  uncrossed_are : (f g : ℕ) → Numbered ts f → Numbered ts g → (Contains ts g f → ⊥) → (Contains ts f g → ⊥) → (Disjoint (package_at ts f) (package_at ts g) → ⊥) → ⊥
  uncrossed_are f g a b not_inside not_around not_apart =
      elim (nested_is f g a b) [
        | inl w ↦ not_around w
        | inr (inl w) ↦ not_inside w
        | inr (inr w) ↦ not_apart w
      ]

  pub nest : Nest n ts
  nest = record {
    fits = λ g num. fitted (g - 1) (omega arith);
    different = λ f g a b other same. different_are f g a b other same.0 same.1;
    uncrossed = λ f g a b cross. uncrossed_are f g a b cross.0 cross.1 cross.2;
    nested = nested_is;
    lower = lower_is;
    parent = parent_so;
    siblings = siblings_are;
  }
