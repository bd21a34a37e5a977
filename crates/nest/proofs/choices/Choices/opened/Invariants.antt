use Rattle.std.proofs.Common.{◌≡◌, length, vec_items}
use Rattle.contest.specs.Descent.{flag, Descends}
use Rattle.bids.specs.Limits.{max_packages}
use Rattle.nest.specs.Contests.{parent_in, on_in}
use Rattle.nest.specs.Choosing.{low_in}
use Rattle.nest.proofs.choices.Choices.opened.Given as goal

abbrev pub invariant-loop-g : goal.invariant-loop-g
invariant-loop-g l =
    let n = l.self.nest.now in record {
      places : length l.opened ≡ max_packages;
      down : Descends (length (vec_items n.bids)) l.g (on_in (vec_items n.bids)) (parent_in (vec_items n.parents)) (low_in l.self.best.now) (flag l.opened);
    }
