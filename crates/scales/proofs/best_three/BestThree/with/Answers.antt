use Rattle.std.proofs.Common.{subst, arith}
use Rattle.scales.specs.Cut.{top_amount}
use Rattle.scales.specs.Places.{Falls}
use Rattle.scales.specs.BestLaws.{same_best}
use Rattle.scales.proofs.Passing.{passed_down, passed_all, order_passed}
use Rattle.scales.proofs.best_three.BestThree.with.Goals as goal

pub returns : goal.returns
returns c =
    let l = c.loop-place in
    let ps = c.args.self.places in
    record {
      means = same_best (passed_down top_amount 3 c.args.amount l.rest ps l.place-items l.place-index (omega arith) (omega arith) l.invariant.1);
      order = λ h. subst Falls (passed_all c.args.amount l.rest ps l.place-items l.place-index (omega arith) l.invariant.1) (order_passed c.args.amount ps h);
    }
