use Rattle.std.proofs.Common.{◌≡◌, map, length, Ok, vec_items, ap, ◌∙◌}
use Rattle.contest.specs.Contest.{sum_over}
use Rattle.contest.specs.Descent.{marked}
use Rattle.books.specs.History.{book_of}
use Rattle.books.proofs.Reached.{always_sound}
use Rattle.books.proofs.Carrying.{carry_awarded}
use Rattle.sale.specs.Awards.{size_in}
use Rattle.sale.specs.Holds.{permitted}
use Rattle.sale.proofs.Selling.{award_sells}
use Rattle.sale.proofs.state.Sale.award.Goals as goal

pub returns : goal.returns
returns g c h held =
    let s = c.args.self.now in
    let bids = vec_items s.nest.bids in
    let packages = map g.P.Package.meaning (permitted s) in
    let a =
    carry_awarded (book_of h) (always_sound h) s.nest held.parents held.bids c.args.out.now c.award.new.out (Ok (c.in_ok-revenue.revenue, c.in_ok-revenue.winners)) c.in_ok-revenue.ensures in
    let sizes : c.sizes.result ≡ sum_over (length bids) (marked c.award.new.out) (size_in packages bids) =
    c.sizes.ensures ∙ ap (λ n. sum_over n (marked c.award.new.out) (size_in packages bids)) s.nest.bids.ok.0 in (
      a.0,
      record {
        bytes = a.1.bytes;
        revenue = a.1.revenue;
        winning = a.1.winning;
        lots = award_sells h c.args.out.now c.award.new.out packages bids c.sizes.result held.packages held.bids a.1.bytes sizes;
      },
    )
