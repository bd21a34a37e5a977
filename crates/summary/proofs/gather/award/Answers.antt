use Rattle.std.proofs.Common.{◌≡◌, ◌≤◌, length, vec_len, ◌∙◌, subst, sym, arith, MatchResult, rules}
use Rattle.std.proofs.lemmas.List.{with_items_is}
use Rattle.books.specs.Contests.{contest_at}
use Rattle.books.specs.History.{book_of}
use Rattle.summary.specs.Marked.{AwardMarked}
use Rattle.summary.proofs.Awarding.{award_accepted}
use Rattle.summary.proofs.gather.award.Goals as goal

pub returns : goal.returns
returns g c h held =
    let bids = c.bids-bids.result.now in
    let before = c.as_mut_slice.result.now in
    let after = c.award.new.out in
    let room : length bids ≤ length before = omega (arith, c.in_ok-marks.ensures.len) in
    let answered : MatchResult c.award.result (λ v. c.map_or-revenue.result ≡ v.0) (λ _. c.map_or-revenue.result ≡ 0) = search rules in
    let right = award_accepted (book_of h) bids before after (c.bids-bids.ensures h held) room c.award.result _ (c.award.ensures h held) answered in
    let long : length after ≡ vec_len c.in_ok-marks.marks = c.award.auto.out ∙ c.as_mut_slice.ensures.len in
    let same : c.as_slice.result.now ≡ after = c.as_slice.ensures.value ∙ with_items_is c.in_ok-marks.marks after long in
    (right.0, c.in_ok-winners.ensures (contest_at h) (subst (AwardMarked (contest_at h) bids) (sym same) right.1))
