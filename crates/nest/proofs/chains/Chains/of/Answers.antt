use Rattle.std.proofs.Common.{length, vec_items, get_or, refl, ap, ◌∙◌, subst, arith, length-set}
use Rattle.bids.specs.Bids.{no_bid}
use Rattle.bids.specs.Limits.{max_packages, max_bids}
use Rattle.nest.specs.Chains.{Chained}
use Rattle.nest.proofs.Chaining.{chained_none, chained_adds, chained_skips, chained_moved}
use Rattle.nest.proofs.chains.Chains.of.Goals as goal
use Rattle.nest.proofs.chains.Chains.of.Goals.{then-not-bid, else-not-bid}

pub loop-i-init : goal.loop-i-init
loop-i-init c = record { packages = refl; bids = refl; so_far = chained_none max_packages max_bids (vec_items c.args.nest.now.bids) }

pub loop-i-preserved : goal.loop-i-preserved
loop-i-preserved c =
    let n = c.args.nest.now in
    let bids = vec_items n.bids in
    let e = c.deref-bid-items.ensures.value in
    let i = c.loop-i.i in
    let p = (get_or bids i no_bid).package in
    let last = c.loop-i.last in
    let before = c.loop-i.before in
    let inv = c.loop-i.invariant in
    elim c.if-not-bid.branch [
      | then-not-bid w ↦
          let low = rw e at c.loop-i-test.true in
          let t = n.bids_placed i low in
          record {
            packages = ap length w.last-is ∙ length-set last _ _ ∙ inv.packages;
            bids = ap length w.before-is ∙ length-set before _ _ ∙ inv.bids;
            so_far = chained_moved w.last-is w.before-is
                (chained_adds max_packages bids last before i inv.so_far _ _ (rw e at w.if-not-bid.true) (rw e refl) (rw e t.0) (rw e (omega arith)) (omega arith) (omega arith) refl);
          }
      | else-not-bid w ↦ record {
        packages = ap length w.last-is ∙ inv.packages;
        bids = ap length w.before-is ∙ inv.bids;
        so_far = chained_moved w.last-is w.before-is (chained_skips max_packages bids last before i inv.so_far (rw e at w.if-not-bid.false));
      }
    ]

pub invariant_of-result : goal.invariant_of-result
invariant_of-result c =
    record {
      chained = subst (Chained max_packages (vec_items c.args.nest.now.bids) c.loop-i.last c.loop-i.before) (omega arith) c.loop-i.invariant.so_far;
    }
