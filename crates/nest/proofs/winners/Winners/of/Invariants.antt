use Rattle.std.proofs.Common.{◌≡◌, ℕ, ◌≤◌, length, vec_items}
use Rattle.contest.specs.Descent.{flag, wins}
use Rattle.bids.specs.Limits.{max_bids}
use Rattle.nest.specs.Contests.{on_in}
use Rattle.nest.specs.Choosing.{low_in}
use Rattle.nest.proofs.winners.Winners.of.Given as goal

abbrev pub invariant-loop-i : goal.invariant-loop-i
invariant-loop-i l = record {
  places : length l.wins ≡ max_bids;
  so_far : (k : ℕ) → 1 ≤ k → k ≤ l.i → flag l.wins k ≡ wins (on_in (vec_items l.nest.bids)) (low_in l.choices.best.now) (flag l.opened) k;
}
