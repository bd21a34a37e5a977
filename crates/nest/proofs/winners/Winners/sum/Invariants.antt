use Rattle.std.proofs.Common.{◌≡◌, ℕ, ◌*◌, ◌^◌, ◌≤◌, vec_items}
use Rattle.contest.specs.Contest.{sum_over, award}
use Rattle.bids.specs.declared.bid.Bid.{Bid}
use Rattle.nest.specs.Contests.{contest_of_nest}
use Rattle.nest.specs.Choosing.{worth_by}
use Rattle.nest.specs.Asking.{Answers}
use Rattle.nest.proofs.winners.Winners.sum.Given as goal

abbrev pub invariant-loop-i : goal.invariant-loop-i
invariant-loop-i g l =
    let bids = vec_items l.self.nest.now.bids in record {
      so_far : (at : ℕ → Bid → ℕ) → Answers (λ v. v) (goal.F-post g l.value) bids at → l.sum ≡ sum_over l.i (award (contest_of_nest l.self.nest.now)) (worth_by (λ v. v) at bids);
      most : l.sum ≤ l.i * 2 ^ 32;
    }
