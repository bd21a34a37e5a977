use Rattle.std.proofs.Common.{length, pos, ◌-ℤ◌, ap, ◌∙◌, ap₂, SFits, rules}
use borrow.Author.Rules.{to_z-of_z_to}
use mir.Syntax.{w128}
use Rattle.contest.specs.Contest.{award, bids_of, sum_over}
use Rattle.nest.specs.Contests.{price_in}
use Rattle.books.specs.Contests.{contest_at}
use Rattle.books.specs.History.{book_of}
use Rattle.books.proofs.Carrying.{carry_winnings}
use Rattle.books.proofs.Promised.{promises}
use Rattle.books.proofs.Reached.{always_sound}
use Rattle.sale.specs.Compared.{earlier}
use Rattle.sale.proofs.pair.compare_sales.Goals as goal

pub returns-in_err-paid-clause-promises : goal.returns-in_err-paid-clause-promises
returns-in_err-paid-clause-promises g c = promises g.S.Scale.meaning g.S.Scale.ring

pub returns-in_err-owed-clause-promises : goal.returns-in_err-owed-clause-promises
returns-in_err-owed-clause-promises g c = promises g.S.Scale.meaning g.S.Scale.ring

pub returns-clause-promises : goal.returns-clause-promises
returns-clause-promises g c = promises g.S.Scale.meaning g.S.Scale.ring

pub returns-clause-answer : goal.returns-clause-answer
returns-clause-answer g c h k held kept =
    let paid = c.in_ok-paid.ensures h held in
    let owed = c.in_ok-owed.ensures k kept in
    let fits : SFits w128 c.gain.result = search rules in
    let fits_2 : SFits w128 c.gain-2.result = search rules in
    let prices = ap price_in (c.bids-prices.ensures h held) in (
      ap₂ earlier paid.0 owed.0,
      record {
        same = c.is_same_contest.ensures h k held kept;
        first_gain = to_z-of_z_to w128 c.gain.result _ fits (
            c.gain.ensures
            ∙ ap₂ (λ x y. pos x -ℤ pos y)
            (c.winnings.ensures ∙ carry_winnings (book_of h) (always_sound h) c.args.first.now.nest held.parents held.bids c.args.buyer _ ∙ ap (sum_over (length (book_of h).bids) (bids_of (contest_at h) c.args.buyer (award (contest_at h)))) prices)
            paid.1);
        second_gain = to_z-of_z_to w128 c.gain-2.result _ fits_2 (
            c.gain-2.ensures
            ∙ ap₂ (λ x y. pos x -ℤ pos y)
            (c.winnings-2.ensures ∙ carry_winnings (book_of k) (always_sound k) c.args.second.now.nest kept.parents kept.bids c.args.buyer _ ∙ ap (sum_over (length (book_of k).bids) (bids_of (contest_at k) c.args.buyer (award (contest_at k)))) prices)
            owed.1);
      },
    )
