use Rattle.std.proofs.Common.{length, vec_items, ap, ◌∙◌, subst, arith, rules}
use Rattle.std.proofs.lemmas.Bool.{cond-true, le-leb}
use Rattle.contest.specs.Contest.{award, best_revenue, winners}
use Rattle.contest.specs.Descent.{Marks}
use Rattle.nest.specs.declared.nest.Nest.{Nest}
use Rattle.nest.specs.Contests.{contest_of_nest}
use Rattle.nest.proofs.nest.Nest.award.Goals as goal

pub returns : goal.returns
returns c =
    let n = c.args.self.now in
    let before = c.args.out.now in
    let same = c.of-winners.ensures in (
      cond-true _ _ _ (le-leb (length (vec_items n.bids)) (length before) (omega (arith, n.bids.ok.0))),
      record {
        bytes = subst (λ (m : Nest). Marks (contest_of_nest m).count (award (contest_of_nest m)) before c.write.new.out) same c.write.ensures;
        revenue = c.sum.ensures (λ _ bid. bid.price) (λ i answer low answers. search rules) ∙ ap (λ m. best_revenue (contest_of_nest m)) same;
        winning = c.sum-2.ensures (λ _ _. 1) (λ i answer low answers. search rules) ∙ ap (λ m. winners (contest_of_nest m)) same;
      },
    )
