use Rattle.std.proofs.Common.{◌-◌, get_or, None, ap, sym, ◌∙◌, subst, arith}
use Rattle.std.specs.Option.{option_flatten}
use Rattle.books.specs.History.{book_of}
use Rattle.books.specs.Nested.{Parent}
use Rattle.books.proofs.Reached.{always_sound}
use Rattle.sale.specs.Questions.{numbered}
use Rattle.sale.proofs.Numbering.{flat_at, flat_past}
use Rattle.sale.proofs.Steps.{packages_counted}
use Rattle.sale.proofs.state.Sale.parent.Goals as goal

pub returns : goal.returns
returns g c =
    let n = c.args.number in
    let found = c.flatten.ensures ∙ ap option_flatten (c.numbered.ensures ∙ ap (λ ps. numbered ps n) c.as_slice.ensures.value) in
    record {
      innermost = λ h held num.
          let read = found ∙ flat_at _ n num.0 ∙ ap (λ ps. get_or ps (n - 1) None) held.parents in
          subst (Parent (book_of h).packages n) (sym read) ((always_sound h).nest.parent n num);
      beyond = λ h held none.
          let count = packages_counted g.P.Package.meaning c.args.self.now (book_of h) held in
          found ∙ flat_past _ n (λ num. none (num.0, omega (arith, num.1, c.args.self.now.nest.parents.ok.0)));
    }
