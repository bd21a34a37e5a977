use Rattle.std.proofs.Common.{◌≡◌, ℕ, ◌≤◌, cond}
use Rattle.contest.specs.Contest.{award}
use Rattle.contest.specs.Descent.{item}
use Rattle.nest.specs.Contests.{contest_of_nest}
use Rattle.nest.proofs.winners.Winners.write.Given as goal

abbrev pub invariant-loop-i : goal.invariant-loop-i
invariant-loop-i l = (k : ℕ) → 1 ≤ k → k ≤ l.i → item l.byte-items k ≡ cond (award (contest_of_nest l.self.nest.now) k) 1 0
