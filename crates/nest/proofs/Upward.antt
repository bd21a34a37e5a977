-- The contest of a nest is nested, since each parent is an earlier package.
use Rattle.std.proofs.Common.{◌≡◌, ℕ, zero, suc, ◌-◌, ◌≤◌, true, List, length, get_or, Some, None, Option, vec_len, vec_items, refl, ap, ⊎_elim, arith}
use Rattle.std.proofs.Math.ListN.{get_or-eq_default}
use Rattle.std.proofs.lemmas.Bool.{cases_lt, and_parts, leb-true}
use Rattle.contest.specs.Nest.{Falling, Nested}
use Rattle.nest.specs.Placed.{up_to, Lower}
use Rattle.nest.specs.declared.nest.Nest.{Nest}
use Rattle.nest.specs.Contests.{above, parent_in, on_in, contest_of_nest}

pub above_up_to : (top : ℕ) (o : Option ℕ) → up_to top o ≡ true → above o ≤ top
above_up_to top None e = omega arith
above_up_to top (Some f) e = leb-true f top (and_parts _ _ e).1

pub parent_first : (top f : ℕ) → up_to top (Some f) ≡ true → (1 ≤ f) × (f ≤ top)
parent_first top f e = let t = and_parts _ _ e in (leb-true 1 f t.0, leb-true f top t.1)

pub falls_in : (ps : List (Option ℕ)) → Lower ps → Falling (parent_in ps)
falls_in ps low zero = omega arith
falls_in ps low (suc g) =
    ⊎_elim
    (λ h. above_up_to g (get_or ps g None) (low g h))
    (λ h. let e : parent_in ps (suc g) ≡ 0 = ap above (get_or-eq_default ps None h) in omega (arith, e))
    (cases_lt g (length ps))

pub nested_of : (n : Nest) → Nested (contest_of_nest n) (parent_in (vec_items n.parents)) (on_in (vec_items n.bids)) (vec_len n.parents)
nested_of n = record { falls = falls_in (vec_items n.parents) n.parents_lower; placed = λ k m. let t = n.bids_placed (k - 1) (omega (arith, m.0, m.1)) in (t.0, t.1); clashes = λ j k m l h. refl }
