use Rattle.std.proofs.Common.{length, ap}
use Rattle.nest.specs.Totals.{appraise_check, price_worths}
use Rattle.books.specs.History.{book_of}
use Rattle.books.proofs.Reached.{always_sound}
use Rattle.books.proofs.Carrying.{kept_is, packages_counted, carry_totalled}
use Rattle.sale.proofs.state.Sale.appraise.Goals as goal

pub returns : goal.returns
returns g c h held =
    let n = c.args.self.now.nest in
    let check = ap (λ x. appraise_check x (length c.args.work.now)) (packages_counted (book_of h) (always_sound h) n held.parents held.bids) in
    let worths = ap (price_worths g.S.Scale.meaning g.S.PricedScale.worth) (kept_is (book_of h) (always_sound h) n held.parents held.bids) in
    carry_totalled (book_of h) (always_sound h) n held.parents held.bids g.S.Scale.meaning g.S.Scale.ring _ _ _ _ c.args.work.now _ c.appraise.result check worths c.appraise.ensures
