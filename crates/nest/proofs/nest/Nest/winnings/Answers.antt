use Rattle.std.proofs.Common.{cond, eqb, length, vec_items, ap, ◌∙◌, rules, tests}
use Rattle.contest.specs.Contest.{award, bids_of, sum_over}
use Rattle.nest.specs.declared.nest.Nest.{Nest}
use Rattle.nest.specs.Contests.{buyer_in, price_in, contest_of_nest}
use Rattle.nest.proofs.Summing.{sum_within}
use Rattle.nest.proofs.nest.Nest.winnings.Goals as goal

pub returns : goal.returns
returns c =
    let prices = c.args.prices.now in
    let b = c.args.buyer in
    let m = c.of.result.nest.now in
    c.sum.ensures (λ k bid. cond (eqb bid.buyer b) (price_in prices k) 0) (λ i answer low answers. search (rules, tests))
    ∙ sum_within (length (vec_items m.bids)) (award (contest_of_nest m)) (λ k. eqb (buyer_in (vec_items m.bids) k) b) (price_in prices)
    ∙ ap (λ (x : Nest). sum_over (contest_of_nest x).count (bids_of (contest_of_nest x) b (award (contest_of_nest x))) (price_in prices)) c.of.ensures
