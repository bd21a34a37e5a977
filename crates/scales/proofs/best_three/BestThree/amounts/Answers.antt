use Rattle.std.proofs.Common.{min, sym, ap, ◌∙◌, subst, rules, arith}
use Rattle.std.specs.Option.{option_map}
use Rattle.scales.specs.Cut.{top_amount}
use Rattle.scales.specs.Places.{somes, Packed}
use Rattle.scales.proofs.Reading.{sorted_down, mapped, amounts_read}
use Rattle.scales.proofs.best_three.BestThree.amounts.Goals as goal

pub returns : goal.returns
returns c =
    let down = c.sort_unstable_by.new.self in
    let s = c.sort_unstable_by.ensures in
    let cuts = mapped (option_map (min top_amount)) down c.map.result 3 (omega arith) c.map.ensures.items (λ a r p q k. search rules) in
    let read = amounts_read top_amount c.args.self.places down s.permutation (omega arith) (sorted_down down s.sorted (λ a r f' k. search rules)) in
    record { amounts = ap somes cuts ∙ read.0; packed = subst Packed (sym cuts) read.1 }
