-- In every book that a history reaches, the contest by shared lots is that of the nest.
use Rattle.std.proofs.Common.{◌≡◌, ℕ, zero, suc, ◌-◌, ◌<◌, ◌≤◌, Bool, true, not, ◌&&◌, ◌↔◌, List, length, get_or, Some, None, Option, sym, refl, ap, subst, inl, inr, ⊎_elim, arith}
use Rattle.std.proofs.lemmas.Bool.{cases_eq, cases_Bool, both_ways, not-true, not_from_false, and_parts}
use Rattle.packages.specs.Lots.{Lots, has, within, apart}
use Rattle.packages.specs.Places.{package_at, Numbered}
use Rattle.packages.specs.SetsLemmas.{apart_says, apart_from, within_says, within_from}
use Rattle.scales.specs.Semiring.{Semiring}
use Rattle.contest.specs.Total.{total_by}
use Rattle.contest.specs.Nest.{inside, related, part, contest_inside}
use Rattle.contest.specs.Lots.{NestOfSets}
use Rattle.contest.specs.Telling.{Same}
use Rattle.contest.specs.Theorems.{Alike}
use Rattle.contest.proofs.Algebra.{bool_same}
use Rattle.contest.proofs.Sharing.{nest_is_sets}
use Rattle.contest.proofs.Kept.{same_total}
use Rattle.books.specs.Book.{Book}
use Rattle.books.specs.Nested.{Sound, Parent, parents_of, parent_of, Contains}
use Rattle.books.specs.Contests.{contest_of, contest_within}
use Rattle.nest.specs.Contests.{above, parent_in, on_in, stands_in, nest_contest}
use Rattle.nest.specs.Placed.{Lower}
use Rattle.nest.proofs.Upward.{falls_in}

module _ (b : Book) (sound : Sound b) where
  abbrev ts : List Lots
  ts = b.packages

  abbrev ps : List (Option ℕ)
  ps = parents_of b.packages

  abbrev on_lot : ℕ → ℕ → Bool
  on_lot g k = has (package_at ts g) k

  abbrev Has : ℕ → ℕ → Type 0
  Has g k = on_lot g k ≡ true

  module _ (low : Lower ps) where
    parent_around : (o : Option ℕ) (h : ℕ) → Parent ts h o → 1 ≤ above o → (k : ℕ) → Has h k → Has (above o) k
    parent_around None h p pos = absurd (omega arith)
    parent_around (Some f) h p pos = p.2

    parent_last : (o : Option ℕ) (g h : ℕ) → Numbered ts g → Numbered ts h → g < h → Parent ts h o → Contains ts g h → g ≤ above o
    parent_last None g h ng nh lt p sub = absurd (p g ng (omega arith) sub)
    parent_last (Some f) g h ng nh lt p sub =
        ⊎_elim (λ e. omega (arith, e)) (λ ne. let l = sound.nest.lower g f ng p.0 ne (p.3 g ng (omega arith) sub) in omega arith) (cases_eq g f)

    parent_is : (h : ℕ) → 1 ≤ h → parent_in ps h ≡ above (parent_of ts h)
    parent_is zero pos = absurd (omega arith)
    parent_is (suc h) pos = let e : h ≡ suc h - 1 = omega arith in ap (λ i. above (get_or ps i None)) e

    nest_of : NestOfSets on_lot (length ts) (parent_in ps)
    nest_of = record {
      falls = falls_in ps low;
      filled = λ g a c. (sound.nest.fits g (a, c)).0;
      nested = λ g h a lt c share. elim (sound.nest.nested g h (a, omega arith) (omega arith, c)) [
        | inl v ↦ v
        | inr (inl v) ↦ absurd (let l = sound.nest.lower h g (omega arith, c) (a, omega arith) (omega arith) v in omega arith)
        | inr (inr v) ↦ absurd (v share.0 share.1 share.2)
      ];
      proper = λ g h a lt c sub. let l = sound.nest.lower h g (omega arith, c) (a, omega arith) (omega arith) sub in omega arith;
      around = λ h c pos.
          let one : 1 ≤ h = omega (arith, falls_in ps low h, pos) in
          subst (λ x. (k : ℕ) → Has h k → Has x k) (sym (parent_is h one))
          (parent_around (parent_of ts h) h (sound.nest.parent h (one, c)) (omega (arith, parent_is h one, pos)));
      last = λ g h a lt c sub.
          let l = parent_last (parent_of ts h) g h (a, omega arith) (omega arith, c) lt (sound.nest.parent h (omega arith, c)) sub in
          omega (arith, parent_is h (omega arith), l);
    }

    module _ (g h : ℕ) (ng : Numbered ts g) (nh : Numbered ts h) where
      both : ((inside (parent_in ps) g h ≡ true) ↔ ((k : ℕ) → Has h k → Has g k)) × ((related (parent_in ps) g h ≡ true) ↔ ((k : ℕ) × Has g k × Has h k))
      both = nest_is_sets on_lot (length ts) (parent_in ps) nest_of g h ng.0 ng.1 nh.0 nh.1

      pub within_inside : within (package_at ts h) (package_at ts g) ≡ inside (parent_in ps) g h
      within_inside = bool_same _ _ (λ e. both.0.1 (within_says _ _ e)) (λ e. within_from _ _ (both.0.0 e))

      pub shares_related : not (apart (package_at ts g) (package_at ts h)) ≡ related (parent_in ps) g h
      shares_related = bool_same _ _
          (λ e. elim (cases_Bool (related (parent_in ps) g h)) [
            | inl r ↦ r
            | inr r ↦ absurd (both_ways (apart (package_at ts g) (package_at ts h)) (not-true _ e) (apart_from _ _ (λ k x y. both_ways _ r (both.1.1 (k, x, y)))))
          ])
          (λ e. elim (cases_Bool (apart (package_at ts g) (package_at ts h))) [
            | inl a ↦ let t = both.1.0 e in absurd (apart_says _ _ a t.0 t.1 t.2)
            | inr a ↦ not_from_false _ a
          ])

    on_numbered : (n : ℕ) → 1 ≤ n → n ≤ length b.bids → Numbered ts (on_in b.bids n)
    on_numbered n l h = (sound.bids n l h).on_package

    pub same_contest : Same (contest_of b) (nest_contest ps b.bids)
    same_contest = record {
      count = refl;
      stands = λ n l h. refl;
      clash = λ m n lm hm ln hn ne sm sn. shares_related (on_in b.bids m) (on_in b.bids n) (on_numbered m lm hm) (on_numbered n ln hn);
    }

    pub same_within : (g : ℕ) → Numbered ts g → Same (contest_within b g) (contest_inside (nest_contest ps b.bids) (on_in b.bids) (parent_in ps) g)
    same_within g ng = record {
      count = refl;
      stands = λ n l h. ap (λ v. stands_in b.bids n && v) (within_inside g (on_in b.bids n) ng (on_numbered n l h));
      clash = λ m n lm hm ln hn ne sm sn. same_contest.clash m n lm hm ln hn ne (and_parts _ _ sm).0 (and_parts _ _ sn).0;
    }

    module _ {M : Type 0} (r : Semiring M) (w : ℕ → M) where
      pub total_is : total_by r (nest_contest ps b.bids) w ≡ total_by r (contest_of b) w
      total_is = sym (same_total r (contest_of b) (nest_contest ps b.bids) same_contest w)

      pub part_is : (g : ℕ) → Numbered ts g → part r (nest_contest ps b.bids) (on_in b.bids) w (parent_in ps) g ≡ total_by r (contest_within b g) w
      part_is g ng = sym (same_total r (contest_within b g) _ (same_within g ng) w)

    -- The two contests have the same award and charges.
    pub alike : Alike (contest_of b) (nest_contest ps b.bids)
    alike = record {
      count = refl;
      buyers = λ k n. refl;
      prices = λ k n. refl;
      standing = λ k n. refl;
      clashes = λ j k nj nk l sj sk. sym (shares_related (on_in b.bids j) (on_in b.bids k) (on_numbered j nj.0 nj.1) (on_numbered k nk.0 nk.1));
    }
