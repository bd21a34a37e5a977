-- Nests with containers first: the innermost container of a set, and the nest with one package more.
use Rattle.std.proofs.Common.{◌≡◌, ℕ, suc, ◌-◌, ◌<◌, ◌⊎◌, List, [], ◌∷◌, ◌++◌, length, Some, None, Ok, Err, Option, Result, sym, refl, subst, inl, inr, arith}
use Rattle.std.proofs.lemmas.List.{get_or_push, get_or_append_left, length_push}
use Rattle.std.proofs.lemmas.Bool.{cases_lt}
use Rattle.packages.specs.declared.relation.Relation.{Relation}
use Rattle.packages.specs.declared.relation.Relation.TheVariants.{Equal, Inside, Around, Apart, Crossing}
use Rattle.packages.specs.declared.place.Conflict.{Conflict}
use Rattle.packages.specs.Lots.{Lots}
use Rattle.packages.specs.Nest.{place_of}
use Rattle.packages.specs.Sets.{Within, Stands}
use Rattle.packages.specs.Places.{no_lots, package_at, Numbered, Beside, Placed, ContainersFirst, NamesContainer, ContainerRight, NestGrows}
use Rattle.packages.specs.SetsLemmas.{stands_so}
use Rattle.packages.proofs.Places.{placed_so}

-- In a nest the last package around s is inside every other one: the two share the lots of s, so one contains the other, and that one comes first.
pub container_so : (s : Lots) (ts : List Lots) (answer : Result (Option ℕ) Conflict) → answer ≡ place_of s ts → ContainerRight s ts answer
container_so s ts answer e some nest = go answer (placed_so s ts answer e)
  where
    within_found : (f : ℕ) → Placed s ts (Ok (Some f)) → (g : ℕ) → Numbered ts g → Stands s (package_at ts g) Inside → (g ≡ f → ⊥)
        → (r : Relation) → Stands (package_at ts f) (package_at ts g) r → Stands (package_at ts f) (package_at ts g) Inside
    within_found f w g num inside other Equal h = absurd (other (sym (nest.different f g w.0 num h)))
    within_found f w g num inside other Inside h = h
    within_found f w g num inside other Around h = absurd ((w.3 g num (nest.lower f g w.0 num h)).0 inside.0)
    within_found f w g num inside other Apart h = absurd (h.2 some.0 (w.1.0 some.0 some.1) (inside.0 some.0 some.1))
    within_found f w g num inside other Crossing h = absurd (nest.uncrossed f g w.0 num h)

    go : (answer : Result (Option ℕ) Conflict) → Placed s ts answer → NamesContainer s ts answer
    go (Ok None) w = λ g num inside. (w g num).0 inside.0
    go (Ok (Some f)) w = (w.0, w.1, λ g num inside other. within_found f w g num inside other _ (stands_so (package_at ts f) (package_at ts g)))
    go (Err c) w = tt

module _ (s : Lots) (ts : List Lots) where
  abbrev more : List Lots
  more = ts ++ (s ∷ [])

  -- package g is F: one of ts, or s with the next number
  abbrev Row : ℕ → Lots → Type 0
  Row g F = (Numbered ts g × (F ≡ package_at ts g)) ⊎ ((g ≡ suc (length ts)) × (F ≡ s))

  row : (g : ℕ) → Numbered more g → Row g (package_at more g)
  row g num =
      elim (cases_lt (g - 1) (length ts)) [
        | inl lt ↦ inl ((omega arith, omega arith), get_or_append_left ts (s ∷ []) no_lots (g - 1) lt)
        | inr le ↦ let last : length ts ≡ g - 1 = omega (arith, length_push ts s) in inr (omega arith, get_or_push ts s no_lots (g - 1) last)
      ]

  -- what holds of two of ts, of one with s, and of s with itself, holds of any two
  pairs : (Q : ℕ → ℕ → Lots → Lots → Type 0)
      → ((f g : ℕ) → Numbered ts f → Numbered ts g → Q f g (package_at ts f) (package_at ts g))
      → ((f : ℕ) → Numbered ts f → Q f (suc (length ts)) (package_at ts f) s)
      → ((g : ℕ) → Numbered ts g → Q (suc (length ts)) g s (package_at ts g))
      → Q (suc (length ts)) (suc (length ts)) s s
      → (f g : ℕ) → Numbered more f → Numbered more g → Q f g (package_at more f) (package_at more g)
  pairs Q old to_new from_new new f g a b = go (row f a) (row g b)
    where
      move : (f' g' : ℕ) (F G : Lots) → f ≡ f' → package_at more f ≡ F → g ≡ g' → package_at more g ≡ G → Q f' g' F G → Q f g (package_at more f) (package_at more g)
      move f' g' F G p q r e h =
          subst (λ k. Q k g (package_at more f) (package_at more g)) (sym p) (subst (λ X. Q f' g X (package_at more g)) (sym q)
          (subst (λ k. Q f' k F (package_at more g)) (sym r) (subst (λ X. Q f' g' F X) (sym e) h)))

      go : Row f (package_at more f) → Row g (package_at more g) → Q f g (package_at more f) (package_at more g)
      go (inl x) (inl y) = move _ _ _ _ refl x.1 refl y.1 (old f g x.0 y.0)
      go (inl x) (inr y) = move _ _ _ _ refl x.1 y.0 y.1 (to_new f x.0)
      go (inr x) (inl y) = move _ _ _ _ x.0 x.1 refl y.1 (from_new g y.0)
      go (inr x) (inr y) = move _ _ _ _ x.0 x.1 y.0 y.1 new

  module _ (beside : (g : ℕ) → Numbered ts g → Beside s ts g) (nest : ContainersFirst ts) where
    not_around : (g : ℕ) → Numbered ts g → Within (package_at ts g) s → ⊥
    not_around g num w = elim (beside g num) [ inl h ↦ h.1 w | inr h ↦ h.1 w ]

    grown : ContainersFirst more
    grown = record {
      different =
          pairs (λ f g F G. Stands F G Equal → f ≡ g) nest.different (λ f num h. absurd (not_around f num h.0)) (λ g num h. absurd (not_around g num h.1))
          (λ h. refl);
      uncrossed =
          pairs (λ f g F G. Stands F G Crossing → ⊥) nest.uncrossed
          (λ f num h. elim (beside f num) [ inl i ↦ h.1 i.0 | inr a ↦ h.2 (λ k x y. a.2 k y x) ])
          (λ g num h. elim (beside g num) [ inl i ↦ h.0 i.0 | inr a ↦ h.2 a.2 ]) (λ h. h.0 (λ k x. x));
      lower =
          pairs (λ f g F G. Stands F G Around → f < g) nest.lower (λ f num h. omega (arith, num.1)) (λ g num h. absurd (not_around g num h.1))
          (λ h. absurd (h.0 (λ k x. x)));
    }

-- an accepted package joins the nest
pub grows_so : (s : Lots) (ts : List Lots) (answer : Result (Option ℕ) Conflict) → answer ≡ place_of s ts → NestGrows s ts answer
grows_so s ts answer e = go answer (placed_so s ts answer e)
  where
    go : (answer : Result (Option ℕ) Conflict) → Placed s ts answer → NestGrows s ts answer
    go (Ok None) w = grown s ts (λ g num. inr (w g num))
    go (Ok (Some f)) w = grown s ts w.2
    go (Err c) w = tt
