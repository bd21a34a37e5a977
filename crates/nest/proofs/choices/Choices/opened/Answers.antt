use Rattle.std.proofs.Common.{ℕ, Bool, not, ◌&&◌, length, sym, ap, ap₂, ◌∙◌, arith, length-set, vec_items}
use Rattle.contest.specs.Descent.{flag, taken}
use Rattle.contest.proofs.Passes.{descends_more}
use Rattle.nest.specs.Contests.{parent_in, on_in}
use Rattle.nest.specs.Choosing.{low_in}
use Rattle.nest.proofs.Upward.{falls_in}
use Rattle.nest.proofs.Downward.{open_outermost, open_inner}
use Rattle.nest.proofs.choices.Choices.opened.Goals as goal
use Rattle.nest.proofs.choices.Choices.opened.Goals.{in-None, in-Some+then-opened-p, in-Some+else-opened-p}

pub loop-g-preserved : goal.loop-g-preserved
loop-g-preserved c =
    let n = c.args.self.now.nest.now in
    let ps = vec_items n.parents in
    let count = length (vec_items n.bids) in
    let on = on_in (vec_items n.bids) in
    let low = low_in c.args.self.now.best.now in
    let opened = c.loop-g.opened in
    let i = c.loop-g.g in
    let r = c.match-parent.opened in
    let e = c.deref-parent-items.ensures.value in
    let inv = c.loop-g.invariant in
    let test : ℕ → Bool = λ q. flag opened q && not (taken count on low q) in
    record {
      places = length-set opened _ _ ∙ inv.places;
      down = descends_more count on low (parent_in ps) (falls_in ps n.parents_lower) opened i r (omega arith) inv.down
          (elim c.match-parent.branch [
            | in-None w ↦ open_outermost ps i test r w.opened-is (rw e at w.in-None.is)
            | in-Some+then-opened-p w ↦
                open_inner ps i test r w.in-Some.p (rw e at w.in-Some.is) n.parents_lower (rw e at c.loop-g-test.true)
                (w.opened-is ∙ ap₂ (λ x y. x && not y) (sym w.if-opened-p.true) w.is_taken.ensures)
            | in-Some+else-opened-p w ↦
                open_inner ps i test r w.in-Some.p (rw e at w.in-Some.is) n.parents_lower (rw e at c.loop-g-test.true)
                (w.opened-is ∙ w.if-opened-p.false ∙ ap (λ x. x && not (taken count on low w.in-Some.p)) (sym w.if-opened-p.false))
          ]);
    }
