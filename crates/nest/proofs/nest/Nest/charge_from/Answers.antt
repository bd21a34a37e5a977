use Rattle.std.proofs.Common.{◌≡◌, ◌-◌, ◌≤◌, cond, not, eqb, length, vec_items, unwrap_or, ap, ◌∙◌, rules, tests}
use Rattle.scales.specs.Revenue.{crowns}
use Rattle.contest.specs.Contest.{award, charge}
use Rattle.contest.proofs.Charging.{others_sum}
use Rattle.nest.specs.declared.nest.Nest.{Nest}
use Rattle.nest.specs.Contests.{buyer_in, price_in, contest_of_nest}
use Rattle.nest.specs.Choosing.{price_without}
use Rattle.nest.proofs.Summing.{sum_within, without_is, charge_from}
use Rattle.nest.proofs.nest.Nest.charge_from.Goals as goal

both : (c : goal.After-unwrap_or) → (c.sum-others.result ≤ c.unwrap_or.result) × (c.unwrap_or.result - c.sum-others.result ≡ charge (contest_of_nest c.args.self.now) c.args.buyer)
both c =
    let n = c.args.self.now in
    let b = c.args.buyer in
    let m = c.of.result.nest.now in
    charge_from n b c.sum-others.result c.unwrap_or.result
    (c.sum-others.ensures (λ _ bid. cond (not (eqb bid.buyer b)) bid.price 0) (λ i answer low answers. search (rules, tests))
    ∙ sum_within (length (vec_items m.bids)) (award (contest_of_nest m)) (λ k. not (eqb (buyer_in (vec_items m.bids) k) b)) (price_in (vec_items m.bids))
    ∙ ap (λ (x : Nest). others_sum (contest_of_nest x) b) c.of.ensures)
    (c.unwrap_or.ensures ∙ ap (λ o. unwrap_or o 0) (c.amount.ensures ∙ ap crowns (c.total_from-best.ensures (price_without b) (λ i answer low answers. search (rules, tests))).total ∙ without_is n b))

pub overflow_sub-result : goal.overflow_sub-result
overflow_sub-result c = (both c).0

pub returns : goal.returns
returns c = (both c).1
