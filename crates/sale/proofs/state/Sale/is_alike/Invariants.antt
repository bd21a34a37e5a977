use Rattle.std.proofs.Common.{◌≡◌, ℕ, ◌<◌, false, map, get_or}
use Rattle.bids.specs.Bids.{no_bid}
use Rattle.sale.specs.Compared.{clash_in}
use Rattle.sale.specs.Holds.{permitted}
use Rattle.sale.proofs.state.Sale.is_alike.Given as goal

abbrev pub invariant-loop-j : goal.invariant-loop-j
invariant-loop-j g l =
    (i : ℕ) → i < l.j → (get_or l.self.nest.bids.items i no_bid).withdrawn ≡ false → clash_in (map g.P.Package.meaning (permitted l.self)) l.self.nest.bids.items i l.k ≡ clash_in (map g.Q.Package.meaning (permitted l.other)) l.other.nest.bids.items i l.k
