use Rattle.books.specs.History.{book_of}
use Rattle.books.proofs.Reached.{always_sound}
use Rattle.books.proofs.Carrying.{carry_charged}
use Rattle.sale.proofs.state.Sale.charge.Goals as goal

pub returns : goal.returns
returns g c h held =
    carry_charged (book_of h) (always_sound h) c.args.self.now.nest held.parents held.bids c.args.buyer c.charge.result c.charge.ensures
