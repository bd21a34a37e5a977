use Rattle.std.proofs.Common.{◌≡◌, length, vec_items}
use Rattle.bids.specs.Limits.{max_packages, max_bids}
use Rattle.nest.specs.Chains.{Chained}
use Rattle.nest.proofs.chains.Chains.of.Given as goal

abbrev pub invariant-loop-i : goal.invariant-loop-i
invariant-loop-i l = record {
  packages : length l.last ≡ max_packages;
  bids : length l.before ≡ max_bids;
  so_far : Chained max_packages (vec_items l.nest.bids) l.last l.before l.i;
}
