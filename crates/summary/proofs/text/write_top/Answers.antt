use Rattle.std.proofs.Common.{ℕ, refl, Bor, ap, ◌∙◌}
use Rattle.std.proofs.Output.{has_written_of_eq}
use Rattle.std.specs.Option.{option_to_list}
use Rattle.std.proofs.lemmas.Iterator.{YieldsList-from_slice}
use Rattle.std.proofs.lemmas.Iterator.Consumers.{YieldsList-end, YieldsList-at}
use Rattle.std.proofs.lemmas.Iterator.Adapters.{YieldsList-from_flatten}
use Rattle.summary.specs.Text.{spaced}
use Rattle.summary.proofs.Texts.{then_put, number_more}
use Rattle.summary.proofs.Yielding.{option_yielded, somes_flat}
use Rattle.summary.proofs.text.write_top.Goals as goal

pub loop-amount-preserved : goal.loop-amount-preserved
loop-amount-preserved g c plain =
    let before = c.loop-amount.invariant plain in
    number_more g.W.Write.write_str_gives c.loop-amount.yielded c.in-Some.amount _ _ _ before (c.in_ok-write.ensures.writes before.plain refl)

pub returns : goal.returns
returns g c plain ok =
    let word = c.in_ok-write_str.ensures.writes plain refl in
    let road =
    YieldsList-at c.into_iter-amount-iterator.ensures.into_iter_gives
    (YieldsList-from_flatten _ _ (λ (y : Bor ℕ). y.now) option_to_list (λ x j b. option_yielded x.now b.0 b.1)
    (YieldsList-at c.flatten-amount-items.ensures.source (YieldsList-from_slice c.args.top.now (cc)))
    c.flatten-amount-items.ensures.front
    c.flatten-amount-items.ensures.back
    c.flatten-amount-items.ensures.done)
    in
    let all = YieldsList-end road c.loop-amount.yielded _ c.loop-amount.yielded_by _ _ c.in-None.is c.next.ensures.steps in
    then_put word (has_written_of_eq g.W.Write.write_str_gives _ _ _ _ (ap spaced (all.0 ∙ somes_flat c.args.top.now)) (c.loop-amount.invariant word.plain))
