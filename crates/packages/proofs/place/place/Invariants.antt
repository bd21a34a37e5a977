use Rattle.std.proofs.Common.{◌≡◌, ◌≤◌, map, length, take, None}
use Rattle.packages.specs.Nest.{conflict_from, innermost_from}
use Rattle.packages.proofs.place.place.Given as goal

-- no earlier package is in conflict with the new one, and `innermost` is the innermost around it
abbrev pub invariant-loop-i : goal.invariant-loop-i
invariant-loop-i g l =
    let m = g.P.Package.meaning in
    let before = map m (take l.i l.packages) in
    (l.i ≤ length l.packages)
    × (conflict_from 1 (m l.new) before ≡ None)
    × (innermost_from 1 (m l.new) before ≡ l.innermost)
