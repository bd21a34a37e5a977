use Rattle.std.proofs.Common.{length, refl, ap₂}
use Rattle.nest.specs.Totals.{total_check}
use Rattle.books.specs.History.{book_of}
use Rattle.books.proofs.Reached.{always_sound}
use Rattle.books.proofs.Carrying.{packages_counted, bids_counted, carry_totalled}
use Rattle.sale.proofs.state.Sale.total.Goals as goal

pub returns : goal.returns
returns g c h held =
    let n = c.args.self.now.nest in
    let check = ap₂ (λ x y. total_check x y (length c.args.worths.now) (length c.args.work.now)) (bids_counted (book_of h) (always_sound h) n held.parents held.bids) (packages_counted (book_of h) (always_sound h) n held.parents held.bids) in
    carry_totalled (book_of h) (always_sound h) n held.parents held.bids g.S.Scale.meaning g.S.Scale.ring _ _ _ _ c.args.work.now _ c.total.result check refl c.total.ensures
