use Rattle.std.proofs.Common.{◌≡◌, ◌+◌, ◌≤◌, false, ◌&&◌, eqb, length, vec_items, get_or, sym, ap, ◌∙◌, subst, arith, rules, length-set}
use Rattle.contest.specs.Contest.{award}
use Rattle.contest.specs.Descent.{flag, wins}
use Rattle.bids.specs.Bids.{no_bid}
use Rattle.nest.specs.declared.nest.Nest.{Nest}
use Rattle.nest.specs.Contests.{on_in, contest_of_nest}
use Rattle.nest.specs.Choosing.{low_in}
use Rattle.nest.proofs.Downward.{number_is, wins_next, entries_more, wins_award}
use Rattle.nest.proofs.winners.Winners.of.Goals as goal
use Rattle.nest.proofs.winners.Winners.of.Goals.{then-opened-bid, else-opened-bid}

pub loop-i-preserved : goal.loop-i-preserved
loop-i-preserved c =
    let bids = vec_items c.args.nest.now.bids in
    let i = c.loop-i.i in
    let low = low_in c.of-choices.result.best.now in
    let opened = flag c.opened-opened.result in
    let r = c.if-opened-bid.wins in
    let e = c.deref-bid-items.ensures.value in
    let p = (get_or c.deref-bid-items.result.now i no_bid).package in
    let next = ap (λ b. (get_or b i no_bid).package) e in
    record {
      places = length-set c.loop-i.wins _ _ ∙ c.loop-i.invariant.places;
      so_far = entries_more false (wins (on_in bids) low opened) c.loop-i.wins i r (omega arith) c.loop-i.invariant.so_far
          (elim c.if-opened-bid.branch [
            | then-opened-bid w ↦
                let is = number_is w.lowest_in.result (low p) (i + 1) w.lowest_in.ensures (omega arith) in
                let right : r ≡ eqb (low p) (i + 1) = search (rules, is) in
                wins_next bids i p low opened r next (right ∙ ap (λ x. x && eqb (low p) (i + 1)) (sym w.if-opened-bid.true))
            | else-opened-bid w ↦
                wins_next bids i p low opened r next (w.wins-is ∙ w.if-opened-bid.false ∙ ap (λ x. x && eqb (low p) (i + 1)) (sym w.if-opened-bid.false))
          ]);
    }

pub invariant_of-result : goal.invariant_of-result
invariant_of-result c =
    let best = c.of-choices.result.best.now in
    let opened = flag c.opened-opened.result in
    record {
      are_award = λ k low high.
          c.loop-i.invariant.so_far k low (omega arith)
          ∙ subst (λ (n : Nest). k ≤ length (vec_items n.bids) → wins (on_in (vec_items n.bids)) (low_in best) opened k ≡ award (contest_of_nest n) k) c.of-choices.ensures
          (wins_award c.of-choices.result.nest.now best c.of-choices.result.lowest opened c.opened-opened.ensures k low) (omega arith);
    }
