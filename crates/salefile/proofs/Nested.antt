-- The packages of an accepted file are a nest of sets of lots.
use Rattle.std.proofs.Common.{◌≡◌, ℕ, ◌-◌, ◌<◌, ◌≤◌, true, ◌⊎◌, List, length, get_or, sym, subst, inl, inr, ⊎_elim, arith}
use Rattle.std.proofs.lemmas.List.{length-map, get_or-map}
use Rattle.std.proofs.lemmas.Bool.{cases_order}
use Rattle.bids.specs.Bids.{no_bid}
use Rattle.packages.specs.declared.run.Run.{Run}
use Rattle.packages.specs.declared.relation.Relation.TheVariants.{Inside, Apart}
use Rattle.packages.specs.Lots.{Lots, has, fits_in}
use Rattle.packages.specs.Nest.{relation_of}
use Rattle.packages.specs.Sets.{Fits, Stands}
use Rattle.packages.specs.Places.{no_lots, package_at, Numbered, Beside, ContainersFirst}
use Rattle.packages.specs.Runs.{run_fits, run_after, run_inside}
use Rattle.packages.specs.SetsLemmas.{fits_says, stands_as}
use Rattle.salefile.specs.FileContents.{FileContents, run_set, package_sets}
use Rattle.salefile.specs.Orderly.{Orderly, InNest, AllNested}
use Rattle.salefile.proofs.Order.{all_orderly}

abbrev pub no_run : Run
no_run = record { first = 0; last = 0 }

module _ (space : ℕ) (c : FileContents) (ord : Orderly space c) where
  pub fits_at : (i : ℕ) → i < length c.packages → fits_in c.lots (run_set (get_or c.packages i no_run)) ≡ true
  fits_at i lt =
      let r : Run = get_or c.packages i no_run in
      let f = ord.fits i no_run lt in
      run_fits r.first r.last c.lots (omega (arith, f.2, ord.few_lots)) f.0 f.1 f.2

  pub stands_at : (i j : ℕ) → j < i → i < length c.packages
      → (relation_of (run_set (get_or c.packages i no_run)) (run_set (get_or c.packages j no_run)) ≡ Inside)
      ⊎ (relation_of (run_set (get_or c.packages i no_run)) (run_set (get_or c.packages j no_run)) ≡ Apart)
  stands_at i j before lt =
      let r : Run = get_or c.packages i no_run in
      let e : Run = get_or c.packages j no_run in
      let f = ord.fits i no_run lt in
      let g = ord.fits j no_run (omega arith) in
      let short : r.last ≤ 65535 = omega (arith, f.2, ord.few_lots) in
      let short' : e.last ≤ 65535 = omega (arith, g.2, ord.few_lots) in
      elim (ord.nests j i no_run before lt) [
        | inl after ↦ inr (run_after r.first r.last e.first e.last short f.1 short' g.1 after)
        | inr inner ↦ inl (run_inside r.first r.last e.first e.last short f.1 short' g.1 inner.0 inner.1 (λ q. inner.2 (λ k. record { first = sym q.0 k; last = sym q.1 k })))
      ]

  abbrev ts : List Lots
  ts = package_sets c

  at_number : (g : ℕ) → Numbered ts g → (g - 1 < length c.packages) × (package_at ts g ≡ run_set (get_or c.packages (g - 1) no_run))
  at_number g n =
      let low : g - 1 < length c.packages = omega (arith, n.0, n.1, length-map c.packages run_set) in
      (low, get_or-map run_set c.packages (g - 1) no_run no_lots low)

  beside : (f g : ℕ) → Numbered ts f → Numbered ts g → f < g → Beside (package_at ts g) ts f
  beside f g nf ng lt =
      let a = at_number f nf in
      let b = at_number g ng in
      let h = stands_at (g - 1) (f - 1) (omega (arith, nf.0, lt)) b.0 in
      subst (λ s. Stands s (package_at ts f) Inside ⊎ Stands s (package_at ts f) Apart) (sym b.1)
      (subst (λ t. Stands (run_set (get_or c.packages (g - 1) no_run)) t Inside ⊎ Stands (run_set (get_or c.packages (g - 1) no_run)) t Apart) (sym a.1)
      (⊎_elim (λ e. inl (stands_as _ _ Inside e)) (λ e. inr (stands_as _ _ Apart e)) h))

  abbrev HasAt : ℕ → ℕ → Type 0
  HasAt i k = has (package_at ts i) k ≡ true

  containers_first : ContainersFirst ts
  containers_first = record {
    different = λ f g nf ng same. ⊎_elim (λ e. e)
        (⊎_elim
        (λ lt. absurd (⊎_elim (λ v. v.1 same.0) (λ v. v.0 same.1) (beside f g nf ng lt)))
        (λ gt. absurd (⊎_elim (λ v. v.1 same.1) (λ v. v.0 same.0) (beside g f ng nf gt))))
        (cases_order f g);
    uncrossed = λ f g nf ng cross. ⊎_elim
        (λ e. cross.0 (λ k h. subst (λ i. HasAt i k) e h))
        (⊎_elim
        (λ lt. ⊎_elim (λ v. cross.1 v.0) (λ v. cross.2 (λ k x y. v.2 k y x)) (beside f g nf ng lt))
        (λ gt. ⊎_elim (λ v. cross.0 v.0) (λ v. cross.2 v.2) (beside g f ng nf gt)))
        (cases_order f g);
    lower = λ f g nf ng around. ⊎_elim
        (λ e. absurd (around.0 (λ k h. subst (λ i. HasAt i k) e h)))
        (⊎_elim (λ lt. lt) (λ gt. absurd (⊎_elim (λ v. around.0 v.0) (λ v. v.1 around.1) (beside g f ng nf gt))))
        (cases_order f g);
  }

  in_nest : InNest c
  in_nest = record {
    nest = containers_first;
    apart_or_inside = beside;
    fits = λ g n. let a = at_number g n in subst (Fits c.lots) (sym a.1) (fits_says c.lots _ (fits_at (g - 1) a.0));
    bids = λ n low high. let p = ord.on_package (n - 1) no_bid (omega arith) in (p.0, omega (arith, p.1, length-map c.packages run_set));
  }

pub all_nested : AllNested
all_nested file space c h = in_nest space c (all_orderly file space c h)
