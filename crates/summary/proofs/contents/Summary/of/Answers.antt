use Rattle.std.proofs.Common.{◌≡◌, ap, ◌∙◌, rules}
use Rattle.scales.specs.BestThree.{BestThrees}
use Rattle.scales.specs.Count.{count_of}
use Rattle.scales.specs.Tied.{settled, settled_of}
use Rattle.summary.specs.Reports.{counted}
use Rattle.summary.proofs.contents.Summary.of.Goals as goal

pub returns-clause-report : goal.returns-clause-report
returns-clause-report g c h held =
    let shown : c.map_or.result ≡ counted (settled_of count_of c.best.result) = search rules in
    let won = c.in_ok-revenue.ensures h held in
    let paid = c.in_ok-payments.ensures h held (c.as_slice.ensures.value ∙ won.1) in
    let ways = shown ∙ ap counted (c.best.ensures ∙ ap settled (c.in_ok-tied.ensures h held)) in
    let amounts = c.amounts.ensures.amounts ∙ ap (λ (x : BestThrees). x.amounts) (c.in_ok-best.ensures h held) in
    λ i. record { revenue = won.0 i; winners = won.1 i; payments = paid i; ways = ways i; amounts = amounts i }
