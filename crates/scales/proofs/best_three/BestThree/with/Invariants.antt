use Rattle.std.proofs.Common.{◌≡◌, ◌++◌, length, take, drop}
use Rattle.scales.proofs.Passing.{passed}
use Rattle.scales.proofs.best_three.BestThree.with.Given as goal

-- the places so far, and then what passing the rest down the others makes of them
abbrev pub invariant-loop-place : goal.invariant-loop-place
invariant-loop-place l =
    (length l.place-items ≡ 3)
    × (passed l.fn.amount l.fn.self.places ≡ take l.place-index l.place-items ++ passed l.rest (drop l.place-index l.place-items))
