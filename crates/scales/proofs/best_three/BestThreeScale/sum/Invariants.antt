use Rattle.std.proofs.Common.{◌++◌, take}
use Rattle.scales.specs.BestThree.{held}
use Rattle.scales.specs.BestLaws.{Same}
use Rattle.scales.specs.Cut.{top_amount}
use Rattle.scales.specs.Places.{somes}
use Rattle.scales.proofs.best_three.BestThreeScale.sum.Given as goal

abbrev pub invariant-loop-amount : goal.invariant-loop-amount
invariant-loop-amount l = Same 3 top_amount (held l.all) (held l.fn.self ++ somes (take l.amount-index l.amount-items))
