use Rattle.std.proofs.Common.{sym, ◌∙◌}
use Rattle.books.specs.Contests.{contest_at}
use Rattle.summary.proofs.Paying.{wins_is, due_loser, due_refused, due_winner}
use Rattle.summary.proofs.gather.payment.Goals as goal

pub returns-then-not-wins : goal.returns-then-not-wins
returns-then-not-wins g c h held is =
    due_loser (contest_at h) c.args.buyer (wins_is (contest_at h) _ _ _ is c.wins.ensures ∙ c.if-not-wins.true)

pub returns-in_err-amount : goal.returns-in_err-amount
returns-in_err-amount g c h held is =
    c.from_residual.ensures ∙ due_refused (contest_at h) c.args.buyer c.charge.result (c.charge.ensures h held) (sym c.ok.ensures.value ∙ c.in_err-amount.was)

pub returns : goal.returns
returns g c h held is =
    due_winner (contest_at h) c.args.buyer _ _ (wins_is (contest_at h) _ _ _ is c.wins.ensures ∙ c.if-not-wins.false) (c.charge.ensures h held)
    (sym c.ok.ensures.value ∙ c.in_ok-amount.was)
