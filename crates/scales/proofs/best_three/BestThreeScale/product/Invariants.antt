use Rattle.std.proofs.Common.{[], ◌++◌, take}
use Rattle.scales.specs.Best.{pair_sums}
use Rattle.scales.specs.BestThree.{held}
use Rattle.scales.specs.BestLaws.{Same}
use Rattle.scales.specs.Cut.{top_amount}
use Rattle.scales.specs.Places.{in_front, somes}
use Rattle.scales.proofs.best_three.BestThreeScale.product.Given as goal

-- all pairs of the amounts so far
abbrev pub invariant-loop-a : goal.invariant-loop-a
invariant-loop-a l = Same 3 top_amount (held l.all) (pair_sums (somes (take l.a-index l.a-items)) (held l.fn.other))

-- and those of one amount more
abbrev pub invariant-loop-b : goal.invariant-loop-b
invariant-loop-b l = Same 3 top_amount (held l.all) (pair_sums (somes (take l.a-index l.a-items)) (held l.fn.other) ++ pair_sums (in_front l.a []) (somes (take l.b-index l.b-items)))
