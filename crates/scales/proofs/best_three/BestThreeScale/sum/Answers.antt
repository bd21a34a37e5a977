use Rattle.std.proofs.Common.{◌++◌, get_or, take, None, sym, subst, arith}
use Rattle.std.proofs.lemmas.List.{take_all}
use Rattle.scales.specs.BestThree.{held}
use Rattle.scales.specs.BestLaws.{Same, same_best, best_is_same, best_same, append_same, same_sym, same_trans}
use Rattle.scales.specs.Cut.{top_amount}
use Rattle.scales.specs.Places.{somes}
use Rattle.scales.proofs.Parts.{somes_more, one_more}
use Rattle.scales.proofs.best_three.BestThreeScale.sum.Goals as goal

pub loop-amount-preserved : goal.loop-amount-preserved
loop-amount-preserved c =
    let l = c.loop-amount in
    let places = c.args.other.places in
    subst (λ xs. Same 3 top_amount (held c.with-all.result) (held c.args.self ++ xs)) (sym (somes_more places l.amount-index (omega arith)))
    (one_more (get_or places l.amount-index None) (held c.args.self) (somes (take l.amount-index places)) (best_is_same _ _ c.with-all.ensures.means) l.invariant)

pub returns : goal.returns
returns c =
    let l = c.loop-amount in
    let all = subst (λ os. Same 3 top_amount (held l.all) (held c.args.self ++ somes os)) (take_all l.amount-index c.args.other.places (omega arith)) l.invariant in
    same_best (same_trans all (append_same (same_sym (best_same (held c.args.self))) (same_sym (best_same (held c.args.other)))))
