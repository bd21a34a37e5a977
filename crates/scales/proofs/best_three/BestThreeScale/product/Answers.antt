use Rattle.std.proofs.Common.{[], ◌++◌, get_or, take, None, sym, ap, ◌∙◌, subst, arith}
use Rattle.std.proofs.lemmas.List.{take_all}
use Rattle.scales.specs.Best.{pair_sums}
use Rattle.scales.specs.BestThree.{best_three, held}
use Rattle.scales.specs.BestLaws.{Same, same_best, best_is_same, best_same, pairs_first, pairs_second, same_trans, same_sym}
use Rattle.scales.specs.Cut.{top_amount}
use Rattle.scales.specs.Places.{in_front, somes}
use Rattle.scales.proofs.Parts.{somes_more}
use Rattle.scales.proofs.Pairs.{one_paired, all_paired}
use Rattle.scales.proofs.best_three.BestThreeScale.product.Goals as goal

pub loop-a-init : goal.loop-a-init
loop-a-init c = best_is_same _ _ c.nought-all.ensures

pub loop-b-preserved : goal.loop-b-preserved
loop-b-preserved c =
    let a = get_or c.args.self.places c.loop-a.a-index None in
    let bs = c.args.other.places in
    let before = pair_sums (somes (take c.loop-a.a-index c.args.self.places)) (held c.args.other) in
    let with_pair = best_is_same _ _ (c.with-all.ensures.means ∙ ap (λ o. best_three (in_front o (held c.loop-b.all))) c.together.ensures) in
    subst (λ ys. Same 3 top_amount (held c.with-all.result) (before ++ pair_sums (in_front a []) ys)) (sym (somes_more bs c.loop-b.b-index (omega arith)))
    (one_paired a (get_or bs c.loop-b.b-index None) before (somes (take c.loop-b.b-index bs)) with_pair c.loop-b.invariant)

pub loop-a-preserved : goal.loop-a-preserved
loop-a-preserved c =
    let places = c.args.self.places in
    let i = c.loop-a.a-index in
    let before = somes (take i places) in
    let others = pair_sums before (held c.args.other) in
    let last = subst (λ os. Same 3 top_amount (held c.loop-b.all) (others ++ pair_sums (in_front (get_or places i None) []) (somes os))) (take_all c.loop-b.b-index c.args.other.places (omega arith)) c.loop-b.invariant in
    subst (λ xs. Same 3 top_amount (held c.loop-b.all) (pair_sums xs (held c.args.other))) (sym (somes_more places i (omega arith)))
    (all_paired (get_or places i None) before (held c.args.other) last)

pub returns : goal.returns
returns c =
    let a = held c.args.self in
    let b = held c.args.other in
    let all = subst (λ os. Same 3 top_amount (held c.loop-a.all) (pair_sums (somes os) b)) (take_all c.loop-a.a-index c.args.self.places (omega arith)) c.loop-a.invariant in
    same_best (same_trans all (same_trans (pairs_first b (same_sym (best_same a))) (pairs_second _ (same_sym (best_same b)))))
