use Rattle.std.proofs.Common.{◌≡◌, ◌*◌, ◌≤◌, length, map}
use Rattle.contest.specs.Contest.{sum_over}
use Rattle.contest.specs.Descent.{marked}
use Rattle.sale.specs.Awards.{size_in}
use Rattle.sale.proofs.state.Sale.sizes.Given as goal

abbrev pub invariant-loop-bid : goal.invariant-loop-bid
invariant-loop-bid g l =
    (l.lots ≡ sum_over (length l.yielded) (marked l.marks) (size_in (map g.P.Package.meaning l.packages) l.self.nest.bids.items)) × (l.lots ≤ length l.yielded * 4294967295)
