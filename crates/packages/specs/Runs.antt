-- What a run's answers are, from its two numbers.
use Rattle.std.specs.Prelude.{◌≡◌, ℕ, zero, suc, ◌+◌, ◌-◌, ◌<◌, ◌≤◌, min, max, Bool, true, cond, ◌&&◌, ◌⊎◌, nat_le, nat_lt}
use Rattle.std.proofs.Common.{sym, ap₂, ◌∙◌, inl, inr, arith}
use Rattle.std.proofs.lemmas.Bool.{leb-true, le-leb, ltb-true, lt-ltb, cases_lt, lt-leb}
use Rattle.packages.specs.Lots.{highest_run_lot, run_lots, has, count, within, apart, fits_in, size_of}
use Rattle.packages.specs.Sets.{Has, Within}
use Rattle.packages.specs.declared.relation.Relation.TheVariants.{Inside, Apart}
use Rattle.packages.specs.Nest.{relation_of}
use Rattle.packages.specs.SetsLemmas.{stands_only, same_tests, has_parts, has_from, within_says, within_from, apart_says, apart_from, fits_says, fits_from}

pub run_has : (a b k : ℕ) → Has (run_lots a b) k → (a ≤ k) × (k ≤ b) × (k ≤ highest_run_lot)
run_has a b k h =
    let p = has_parts (run_lots a b) k h in
    (leb-true a k p.1, omega (arith, p.0), omega (arith, p.0))

pub run_in : (a b k : ℕ) → k ≤ highest_run_lot → a ≤ k → k ≤ b → Has (run_lots a b) k
run_in a b k w l h = has_from (run_lots a b) k (omega arith) (le-leb a k l)

module _ (a b c d : ℕ) where
  pub run_within : (b < a) ⊎ ((c ≤ a) × (b ≤ d)) → within (run_lots a b) (run_lots c d) ≡ true
  run_within w = within_from (run_lots a b) (run_lots c d) (λ k h. let r = run_has a b k h in go w k r.2 r.0 r.1)
    where
      go : (b < a) ⊎ ((c ≤ a) × (b ≤ d)) → (k : ℕ) → k ≤ highest_run_lot → a ≤ k → k ≤ b → Has (run_lots c d) k
      go (inl e) k w l h = absurd (omega arith)
      go (inr e) k w l h = run_in c d k w (omega (arith, e.0)) (omega (arith, e.1))

  pub run_bounds : b ≤ highest_run_lot → a ≤ b → Within (run_lots a b) (run_lots c d) → (c ≤ a) × (b ≤ d)
  run_bounds short l all = ((run_has c d a (all a (run_in a b a (omega arith) (omega arith) l))).0, (run_has c d b (all b (run_in a b b short l (omega arith)))).1)

  pub run_apart : b ≤ highest_run_lot → nat_lt (min b d) (max a c) ≡ apart (run_lots a b) (run_lots c d)
  run_apart short = same_tests (nat_lt (min b d) (max a c)) (apart (run_lots a b) (run_lots c d)) there back
    where
      there : nat_lt (min b d) (max a c) ≡ true → apart (run_lots a b) (run_lots c d) ≡ true
      there e =
          let lt = ltb-true (min b d) (max a c) e in
          apart_from (run_lots a b) (run_lots c d) (λ k h h'. let r = run_has a b k h in let r' = run_has c d k h' in omega arith)

      back : apart (run_lots a b) (run_lots c d) ≡ true → nat_lt (min b d) (max a c) ≡ true
      back e =
          elim (cases_lt (min b d) (max a c)) [
            | inl lt ↦ lt-ltb (min b d) (max a c) lt
            | inr le ↦ absurd (apart_says (run_lots a b) (run_lots c d) e (max a c) (run_in a b (max a c) (omega arith) (omega arith) (omega arith)) (run_in c d (max a c) (omega arith) (omega arith) (omega arith)))
          ]

module _ (a b n : ℕ) where
  pub run_fits : b ≤ highest_run_lot → 1 ≤ a → a ≤ b → b ≤ n → fits_in n (run_lots a b) ≡ true
  run_fits short l h w =
      fits_from n (run_lots a b) ((a, run_in a b a (omega arith) (omega arith) h), λ k e. let r = run_has a b k e in (omega arith, omega arith))

  pub run_fitted : fits_in n (run_lots a b) ≡ true → (1 ≤ a) × (a ≤ b) × (b ≤ highest_run_lot → b ≤ n)
  run_fitted e =
      let f = fits_says n (run_lots a b) e in
      let some = run_has a b f.0.0 f.0.1 in
      let order : a ≤ b = omega (arith, some.0, some.1) in (
        (f.1 a (run_in a b a (omega (arith, some.0, some.2)) (omega arith) order)).0,
        order,
        λ short. (f.1 b (run_in a b b short order (omega arith))).1,
      )

-- how many of the numbers 0 to n are at least a and at most t
counted : (a t n : ℕ) → n ≤ t → count (λ k. nat_le k t && nat_le a k) n ≡ suc n - a
unfolding count
counted a t zero h =
    elim (cases_lt 0 a) [
      | inl lt ↦ ap₂ (λ x y. cond (x && y) 1 0) (le-leb 0 t (omega arith)) (lt-leb a 0 lt) ∙ omega arith
      | inr le ↦ ap₂ (λ x y. cond (x && y) 1 0) (le-leb 0 t (omega arith)) (le-leb a 0 le) ∙ omega arith
    ]
counted a t (suc n) h =
    let rest = counted a t n (omega arith) in
    let f : ℕ → Bool = λ k. nat_le k t && nat_le a k in
    elim (cases_lt (suc n) a) [
      | inl lt ↦ ap₂ (λ x y. cond (x && y) 1 0 + count f n) (le-leb (suc n) t h) (lt-leb a (suc n) lt) ∙ omega arith
      | inr le ↦ ap₂ (λ x y. cond (x && y) 1 0 + count f n) (le-leb (suc n) t h) (le-leb a (suc n) le) ∙ omega arith
    ]

pub run_size : (a b : ℕ) → b ≤ highest_run_lot → size_of (run_lots a b) ≡ b + 1 - a
unfolding size_of has
run_size a b short = counted a (min b highest_run_lot) (min b highest_run_lot) (omega arith) ∙ omega arith

-- how two runs that are not empty stand to one another
module _ (a b c d : ℕ) (short : b ≤ highest_run_lot) (some : a ≤ b) (short' : d ≤ highest_run_lot) (some' : c ≤ d) where
  pub run_after : d < a → relation_of (run_lots a b) (run_lots c d) ≡ Apart
  run_after lt =
      sym (stands_only (run_lots a b) (run_lots c d) Apart (
        λ w. omega (arith, (run_bounds a b c d short some w).1),
        λ w. omega (arith, (run_bounds c d a b short' some' w).0),
        λ k h h'. omega (arith, (run_has a b k h).0, (run_has c d k h').1),
      ))

  pub run_inside : c ≤ a → b ≤ d → ((a ≡ c) × (b ≡ d) → ⊥) → relation_of (run_lots a b) (run_lots c d) ≡ Inside
  run_inside l h other =
      sym (stands_only (run_lots a b) (run_lots c d) Inside (
        within_says (run_lots a b) (run_lots c d) (run_within a b c d (inr (l, h))),
        λ w. let e = run_bounds c d a b short' some' w in other (omega (arith, e.0), omega (arith, e.1)),
      ))
