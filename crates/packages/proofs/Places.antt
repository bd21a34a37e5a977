-- The place of a set after others is the one that its words say.
use Rattle.std.proofs.Common.{◌≡◌, ℕ, zero, suc, ◌+◌, ◌-◌, ◌<◌, ◌⊎◌, List, [], ◌∷◌, length, get_or, Some, None, Ok, Err, Option, Result, sym, refl, ap, ◌∙◌, subst, inl, inr, arith}
use Rattle.std.specs.Option.{option_or}
use Rattle.std.proofs.lemmas.Option.{same_Some}
use Rattle.packages.specs.declared.relation.Relation.{Relation}
use Rattle.packages.specs.declared.relation.Relation.TheVariants.{Equal, Inside, Around, Apart, Crossing}
use Rattle.packages.specs.declared.place.Conflict.{Conflict}
use Rattle.packages.specs.declared.place.Conflict.TheVariants as conflict
use Rattle.packages.specs.Lots.{Lots}
use Rattle.packages.specs.Nest.{relation_of, objection, conflict_from, innermost_from, settle, place_of}
use Rattle.packages.specs.Sets.{Stands}
use Rattle.packages.specs.Places.{no_lots, package_at, Beside, Lowest, Placed, PlaceRight}
use Rattle.packages.specs.SetsLemmas.{stands_as}
use Rattle.packages.proofs.Nests.{objection_none, no_conflict, no_container, innermost_is}

-- the lowest conflict: the package at an index objects, and none before it
record First (n : ℕ) (s : Lots) (ts : List Lots) (c : Conflict) : Type 0 where
  index : ℕ
  short : index < length ts
  objects : objection (relation_of s (get_or ts index no_lots)) (n + index) ≡ Some c
  before : (k : ℕ) → k < index → (relation_of s (get_or ts k no_lots) ≡ Inside) ⊎ (relation_of s (get_or ts k no_lots) ≡ Apart)

first_is : (n : ℕ) (s : Lots) (ts : List Lots) (c : Conflict) → conflict_from n s ts ≡ Some c → First n s ts c
first_is n s [] c e = cc
first_is n s (t ∷ ts) c e = go (objection (relation_of s t) n) refl (first_is (suc n) s ts c)
  where
    earlier : objection (relation_of s t) n ≡ None → (r : First (suc n) s ts c) (k : ℕ) → k < suc r.index
        → (relation_of s (get_or (t ∷ ts) k no_lots) ≡ Inside) ⊎ (relation_of s (get_or (t ∷ ts) k no_lots) ≡ Apart)
    earlier none r zero h = objection_none (relation_of s t) n none
    earlier none r (suc k) h = r.before k (omega arith)

    go : (o : Option Conflict) → objection (relation_of s t) n ≡ o → (conflict_from (suc n) s ts ≡ Some c → First (suc n) s ts c) → First n s (t ∷ ts) c
    go None none rest =
        let r = rest (sym (ap (λ o. option_or o (conflict_from (suc n) s ts)) none) ∙ e) in
        let number : suc n + r.index ≡ n + suc r.index = omega arith in
        record {
          index = suc r.index;
          short = omega (arith, r.short);
          objects = ap (objection (relation_of s (get_or ts r.index no_lots))) (sym number) ∙ r.objects;
          before = earlier none r;
        }
    go (Some d) some rest =
        let same : n + 0 ≡ n = omega arith in
        record {
          index = 0;
          short = omega arith;
          objects = ap (objection (relation_of s t)) same ∙ (some ∙ (sym (ap (λ o. option_or o (conflict_from (suc n) s ts)) some) ∙ e));
          before = λ k h. absurd (omega arith);
        }

-- what an objection says of the relation
abbrev Says : Relation → ℕ → Conflict → Type 0
Says r n (conflict.Equal g) = (r ≡ Equal) × (g ≡ n)
Says r n (conflict.Crossing g) = (r ≡ Crossing) × (g ≡ n)
Says r n (conflict.Around g) = (r ≡ Around) × (g ≡ n)

says : (r : Relation) (n : ℕ) (c : Conflict) → objection r n ≡ Some c → Says r n c
says Equal n c e = subst (λ d. Says Equal n d) (same_Some (conflict.Equal n) c e) (refl, refl)
says Inside n c e = cc
says Around n c e = subst (λ d. Says Around n d) (same_Some (conflict.Around n) c e) (refl, refl)
says Apart n c e = cc
says Crossing n c e = subst (λ d. Says Crossing n d) (same_Some (conflict.Crossing n) c e) (refl, refl)

module _ (s : Lots) (ts : List Lots) where
  beside : (k : ℕ) → (relation_of s (get_or ts k no_lots) ≡ Inside) ⊎ (relation_of s (get_or ts k no_lots) ≡ Apart) → (g : ℕ) → g - 1 ≡ k → Beside s ts g
  beside k (inl e) g at = inl (subst (λ i. Stands s (get_or ts i no_lots) Inside) (sym at) (stands_as s (get_or ts k no_lots) Inside e))
  beside k (inr e) g at = inr (subst (λ i. Stands s (get_or ts i no_lots) Apart) (sym at) (stands_as s (get_or ts k no_lots) Apart e))

  lowest : (c : Conflict) (f : First 1 s ts c) (r : Relation) (g : ℕ) → relation_of s (get_or ts f.index no_lots) ≡ r → g ≡ 1 + f.index → Lowest s ts r g
  lowest c f r g e at =
      let is : g - 1 ≡ f.index = omega arith in (
        (omega arith, omega (arith, f.short)),
        subst (λ i. Stands s (get_or ts i no_lots) r) (sym is) (stands_as s (get_or ts f.index no_lots) r e),
        λ k l h. beside (k - 1) (f.before (k - 1) (omega arith)) k refl,
      )

  refused : (c : Conflict) → conflict_from 1 s ts ≡ Some c → Placed s ts (Err c)
  refused (conflict.Equal g) e =
      let f = first_is 1 s ts (conflict.Equal g) e in let v = says _ _ (conflict.Equal g) f.objects in lowest (conflict.Equal g) f Equal g v.0 v.1
  refused (conflict.Crossing g) e =
      let f = first_is 1 s ts (conflict.Crossing g) e in let v = says _ _ (conflict.Crossing g) f.objects in lowest (conflict.Crossing g) f Crossing g v.0 v.1
  refused (conflict.Around g) e =
      let f = first_is 1 s ts (conflict.Around g) e in let v = says _ _ (conflict.Around g) f.objects in lowest (conflict.Around g) f Around g v.0 v.1

  taken : (o : Option ℕ) → conflict_from 1 s ts ≡ None → innermost_from 1 s ts ≡ o → Placed s ts (Ok o)
  taken None free none = λ g num.
      elim (no_conflict 1 s ts no_lots free (g - 1) (omega arith)) [
        | inl e ↦ absurd (no_container 1 s ts no_lots none (g - 1) (omega arith) e)
        | inr e ↦ stands_as s (package_at ts g) Apart e
      ]
  taken (Some f) free some =
      let r = innermost_is 1 s ts no_lots f some in
      let is : f - 1 ≡ r.index = omega (arith, r.number) in (
        (omega (arith, r.number), omega (arith, r.number, r.short)),
        subst (λ i. Stands s (get_or ts i no_lots) Inside) (sym is) (stands_as s (get_or ts r.index no_lots) Inside r.inside),
        λ g num. beside (g - 1) (no_conflict 1 s ts no_lots free (g - 1) (omega arith)) g refl,
        λ g num l.
            elim (no_conflict 1 s ts no_lots free (g - 1) (omega arith)) [
              | inl e ↦ absurd (r.last (g - 1) (omega (arith, r.number)) (omega arith) e)
              | inr e ↦ stands_as s (package_at ts g) Apart e
            ],
      )

pub place_right : PlaceRight
unfolding place_of
place_right s ts = go (conflict_from 1 s ts) refl
  where
    go : (o : Option Conflict) → conflict_from 1 s ts ≡ o → Placed s ts (settle (conflict_from 1 s ts) (innermost_from 1 s ts))
    go None e = subst (λ o. Placed s ts (settle o (innermost_from 1 s ts))) (sym e) (taken s ts (innermost_from 1 s ts) e refl)
    go (Some c) e = subst (λ o. Placed s ts (settle o (innermost_from 1 s ts))) (sym e) (refused s ts c e)

pub placed_so : (s : Lots) (ts : List Lots) (answer : Result (Option ℕ) Conflict) → answer ≡ place_of s ts → Placed s ts answer
placed_so s ts answer e = subst (λ r. Placed s ts r) (sym e) (place_right s ts)
