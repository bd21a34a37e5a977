-- One package more on the way up a nest.
use Rattle.std.proofs.Common.{◌≡◌, ℕ, suc, ◌+◌, ◌-◌, ◌<◌, ◌≤◌, List, [], ◌∷◌, ◌++◌, length, drop, get_or, set, Some, None, Option, append_assoc, sym, ap, ◌∙◌, subst, arith, length-set, length-append, vec_len, vec_items}
use Rattle.std.specs.List.{push}
use Rattle.std.proofs.Math.Seq.{get_or-append_seam}
use Rattle.scales.specs.Semiring.{Semiring, Laws}
use Rattle.contest.specs.Nest.{part}
use Rattle.contest.proofs.Listing.{get_d_any}
use Rattle.contest.proofs.Places.{Passing, passing_outermost, passing_inner, passing_end, passing_parts}
use Rattle.nest.specs.declared.nest.Nest.{Nest}
use Rattle.nest.specs.Contests.{above, parent_in, on_in, contest_of_nest}
use Rattle.nest.specs.Chains.{own_in}
use Rattle.nest.specs.Totals.{NestTotal}
use Rattle.nest.specs.Placed.{up_to}
use Rattle.nest.proofs.Upward.{nested_of, parent_first}

-- The pass over the places of a nest's packages, of which the first `left` are still to do.
abbrev pub Passed : {S M : Type 0} → (S → M) → Semiring M → Nest → (ℕ → M) → List S → S → ℕ → Type 0
Passed meaning r n w work result left = Passing meaning r (contest_of_nest n) (parent_in (vec_items n.parents)) (on_in (vec_items n.bids)) (vec_len n.parents) w work result left

-- When no package is left, the answer and the workspace are those of the total.
pub passed_all : {S M : Type 0} (meaning : S → M) {r : Semiring M} (laws : Laws r) (n : Nest) (w : ℕ → M) (before work : List S) (result : S) (left : ℕ) → left ≡ 0 → Passed meaning r n w work result left
    → drop (vec_len n.parents) work ≡ drop (vec_len n.parents) before → NestTotal meaning r n w before work result
passed_all meaning {r} laws n w before work result left none pass rest =
    let all = subst (Passed meaning r n w work result) none pass in
    record {
      total = passing_end meaning laws (contest_of_nest n) (parent_in (vec_items n.parents)) (on_in (vec_items n.bids)) (vec_len n.parents) (nested_of n) w work result all;
      places = λ k d low high.
          let next : k - 1 + 1 ≡ k = omega arith in
          passing_parts meaning laws (contest_of_nest n) (parent_in (vec_items n.parents)) (on_in (vec_items n.bids)) (vec_len n.parents) (nested_of n) w work result all (k - 1) d (omega (arith, low, high))
          ∙ ap (part r (contest_of_nest n) (on_in (vec_items n.bids)) w (parent_in (vec_items n.parents))) next;
      further = rest;
    }

-- The next package is the last of those that are left.
module _ (n : Nest) (left next after : List (Option ℕ)) (parent : Option ℕ) (turn : left ≡ push next parent) (split : left ++ after ≡ vec_items n.parents) where
  pub next_left : next ++ (parent ∷ after) ≡ vec_items n.parents
  next_left = sym (append_assoc next (parent ∷ []) after) ∙ ap (λ l. l ++ after) (sym turn) ∙ split

  next_parent : get_or (vec_items n.parents) (length next) None ≡ parent
  next_parent = ap (λ l. get_or l (length next) None) (sym next_left) ∙ get_or-append_seam next parent after None

  next_counted : length left ≡ suc (length next)
  next_counted = omega (arith, ap length turn, length-append next (parent ∷ []))

  pub next_within : length next < vec_len n.parents
  next_within = omega (arith, next_counted, ap length split, length-append left after, n.parents.ok.0)

  -- Its parent is an earlier one.
  pub next_lower : (p : ℕ) → parent ≡ Some p → (1 ≤ p) × (p ≤ length next)
  next_lower p is = parent_first (length next) p (ap (up_to (length next)) (sym is ∙ sym next_parent) ∙ n.parents_lower (length next) (omega (arith, next_within, n.parents.ok.0)))

  module _ {S M : Type 0} (meaning : S → M) {r : Semiring M} (laws : Laws r) (w : ℕ → M) (work : List S) (result x t : S) (g : ℕ) (here : g ≡ length next) (room : vec_len n.parents ≤ length work)
      (pass : Passed meaning r n w work result (length left)) (read : x ≡ get_or work g x) (made : meaning t ≡ r.add (meaning x) (own_in r (vec_items n.bids) w (g + 1))) where
    pub turn_outermost : (result' : S) → parent ≡ None → meaning result' ≡ r.mul (meaning result) (meaning t) → Passed meaning r n w (set work g t) result' (length next)
    turn_outermost result' is done =
        subst (Passed meaning r n w (set work g t) result') here
        (passing_outermost meaning laws (contest_of_nest n) (parent_in (vec_items n.parents)) (on_in (vec_items n.bids)) (vec_len n.parents) (nested_of n) w
        work result x t (length left) g (next_counted ∙ ap suc (sym here)) (omega (arith, next_counted, next_within)) room pass read made
        result' (ap (λ k. above (get_or (vec_items n.parents) k None)) here ∙ ap above (next_parent ∙ is)) done)

    pub turn_inner : (p : ℕ) (y u : S) → parent ≡ Some p → meaning u ≡ r.mul (meaning (get_or (set work g t) (p - 1) y)) (meaning t) → Passed meaning r n w (set (set work g t) (p - 1) u) result (length next)
    turn_inner p y u is done =
        let low = next_lower p is in
        let up : p ≡ suc (p - 1) = omega (arith, low.0) in
        subst (Passed meaning r n w (set (set work g t) (p - 1) u) result) here
        (passing_inner meaning laws (contest_of_nest n) (parent_in (vec_items n.parents)) (on_in (vec_items n.bids)) (vec_len n.parents) (nested_of n) w
        work result x t (length left) g (next_counted ∙ ap suc (sym here)) (omega (arith, next_counted, next_within)) room pass read made
        (p - 1) _ u (ap (λ k. above (get_or (vec_items n.parents) k None)) here ∙ ap above (next_parent ∙ is) ∙ up) (get_d_any (set work g t) (p - 1) y _ (omega (arith, length-set work g t, low, here, next_within, room))) done)
