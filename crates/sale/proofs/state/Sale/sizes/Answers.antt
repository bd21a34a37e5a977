use Rattle.std.proofs.Common.{length, map, length-append, arith, rules}
use Rattle.std.proofs.lemmas.Slice.Zip.{zip_turn}
use Rattle.bids.specs.Bids.{no_bid}
use Rattle.sale.proofs.Selling.{sizes_more}
use Rattle.sale.proofs.state.Sale.sizes.Goals as goal

pub loop-bid-preserved : goal.loop-bid-preserved
loop-bid-preserved g c =
    let turn = zip_turn c.args.self.now.nest.bids.items c.args.marks.now c.loop-bid.yielded c.into_iter-bid-iterator.result c.loop-bid.bid-iterator c.next.new.self c.next.result (search rules) (search rules) c.loop-bid.yielded_by (c.in-Some.bid, c.in-Some.mark) c.in-Some.is c.next.ensures.steps in
    rw length-append (
      sizes_more (length c.loop-bid.yielded) c.args.marks.now (map g.P.Package.meaning c.packages-packages.result.now) c.args.self.now.nest.bids.items c.loop-bid.lots c.lots_of-lots.result c.in-Some.mark.now c.in-Some.bid.now c.loop-bid.invariant.0 (turn.3 0) (turn.2 no_bid) c.lots_of-lots.ensures.value,
      omega arith,
    )
