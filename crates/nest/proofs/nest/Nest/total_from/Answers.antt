use Rattle.std.proofs.Common.{◌≡◌, ℕ, ◌+◌, ◌-◌, ◌<◌, ◌≤◌, ◌∷◌, length, ap, ◌∙◌, subst, arith, length-set, drop-set-lt, vec_len, vec_items, rules}
use Rattle.bids.specs.declared.bid.Bid.{Bid}
use Rattle.nest.specs.declared.nest.Nest.{Nest}
use Rattle.nest.specs.Chains.{own_in}
use Rattle.nest.specs.Asking.{Answers}
use Rattle.nest.specs.Choosing.{worth_by}
use Rattle.nest.proofs.Turning.{next_left, passed_all, next_within, next_lower, turn_outermost, turn_inner}
use Rattle.nest.proofs.nest.Nest.total_from.Goals as goal
use Rattle.nest.proofs.nest.Nest.total_from.Goals.{In-Some, In-Some-parent, After-sum-whole}
use Rattle.nest.proofs.nest.Nest.total_from.Given.{Over}

-- the next package
here : (g : Over) (c : In-Some g) → c.in-Some.g ≡ length c.next.new.self.iter.iter.rest.now
here g c = omega (arith, c.in-Some.ensures.steps.1.1, c.loop-g.invariant.numbered)

within : (g : Over) (c : In-Some g) → c.in-Some.g < vec_len c.args.self.now.parents
within g c = omega (arith, here g c, next_within c.args.self.now _ _ c.loop-g.invariant.done.0 _ c.in-Some.ensures.steps.1.0 c.loop-g.invariant.done.1)

-- its own worths are added
made : (g : Over) (c : After-sum-whole g) → (at : ℕ → Bid → _) → Answers g.S.Scale.meaning (goal.F-post g c.args.worth) (vec_items c.args.self.now.bids) at
    → g.S.Scale.meaning c.sum-whole.result ≡ g.S.Scale.ring.add (g.S.Scale.meaning c.index-work-g.result) (own_in g.S.Scale.ring (vec_items c.args.self.now.bids) (worth_by g.S.Scale.meaning at (vec_items c.args.self.now.bids)) (c.in-Some.g + 1))
made g c at answers =
    c.sum-whole.ensures
    ∙ ap (g.S.Scale.ring.add (g.S.Scale.meaning c.index-work-g.result))
    (subst (λ (n : Nest). Answers g.S.Scale.meaning (goal.F-post g c.args.worth) (vec_items n.bids) at → g.S.Scale.meaning c.own_worth.result ≡ own_in g.S.Scale.ring (vec_items n.bids) (worth_by g.S.Scale.meaning at (vec_items n.bids)) (c.in-Some.g + 1))
    c.of-chains.ensures (c.own_worth.ensures at) answers)

-- its parent is an earlier one
lower : (g : Over) (c : In-Some-parent g) → (1 ≤ c.in-Some-parent.p) × (c.in-Some-parent.p - 1 < vec_len c.args.self.now.parents)
lower g c =
    let inv = c.loop-g.invariant in
    let turn = c.in-Some.ensures.steps.1.0 in
    let low = next_lower c.args.self.now _ _ inv.done.0 _ turn inv.done.1 c.in-Some-parent.p c.in-Some-parent.is in
    (low.0, omega (arith, low.1, next_within c.args.self.now _ _ inv.done.0 _ turn inv.done.1))

pub loop-g-preserved-in-None-parent : goal.loop-g-preserved-in-None-parent
loop-g-preserved-in-None-parent g c =
    let s = g.S.Scale in
    let n = c.args.self.now in
    let inv = c.loop-g.invariant in
    let steps = c.in-Some.ensures.steps in
    let some = (goal.at.loop-g-preserved-in-None-parent g c).In-Some in
    record {
      numbered = steps.0 ∙ inv.numbered;
      done = (c.in-Some.parent.now ∷ inv.done.0, next_left n _ _ inv.done.0 _ steps.1.0 inv.done.1);
      pass = λ at answers.
          turn_outermost n _ _ inv.done.0 _ steps.1.0 inv.done.1 s.meaning g.met.S.Scale.laws (worth_by s.meaning at (vec_items n.bids))
          c.loop-g.work c.loop-g.result _ _ c.in-Some.g (here g some) (omega arith) (inv.pass at answers) c.index-work-g.is
          (made g (goal.at.loop-g-preserved-in-None-parent g c).After-sum-whole at answers)
          c.product-result.result c.in-None-parent.is c.product-result.ensures;
      further = drop-set-lt _ c.loop-g.work _ _ (within g some) ∙ inv.further;
    }

pub loop-g-preserved : goal.loop-g-preserved
loop-g-preserved g c =
    let s = g.S.Scale in
    let n = c.args.self.now in
    let inv = c.loop-g.invariant in
    let steps = c.in-Some.ensures.steps in
    let some = (goal.at.loop-g-preserved g c).In-Some in
    record {
      numbered = steps.0 ∙ inv.numbered;
      done = (c.in-Some.parent.now ∷ inv.done.0, next_left n _ _ inv.done.0 _ steps.1.0 inv.done.1);
      pass = λ at answers.
          turn_inner n _ _ inv.done.0 _ steps.1.0 inv.done.1 s.meaning g.met.S.Scale.laws (worth_by s.meaning at (vec_items n.bids))
          c.loop-g.work c.loop-g.result _ _ c.in-Some.g (here g some) (omega arith) (inv.pass at answers) c.index-work-g.is
          (made g (goal.at.loop-g-preserved g c).After-sum-whole at answers)
          c.in-Some-parent.p c.index-work-p.result c.product.result c.in-Some-parent.is c.product.ensures;
      further = drop-set-lt _ _ _ _ (lower g (goal.at.loop-g-preserved g c).In-Some-parent).1 ∙ drop-set-lt _ c.loop-g.work _ _ (within g some) ∙ inv.further;
    }

pub overflow_sub-place : goal.overflow_sub-place
overflow_sub-place g c = (lower g c).0

pub bounds-work-p : goal.bounds-work-p
bounds-work-p g c = let low = lower g c in simp length-set (omega arith)

pub offset_bounds-work-p : goal.offset_bounds-work-p
offset_bounds-work-p g c = let low = lower g c in let in_work : c.in-Some-parent.p - 1 < length c.loop-g.work = omega arith in search rules

pub returns : goal.returns
returns g c at answers =
    passed_all g.S.Scale.meaning g.met.S.Scale.laws c.args.self.now (worth_by g.S.Scale.meaning at (vec_items c.args.self.now.bids)) _ _ _ _ c.in-None.ensures.steps.1.0
    (c.loop-g.invariant.pass at answers) c.loop-g.invariant.further
