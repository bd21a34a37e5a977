use Rattle.contest.proofs.Subsets.{total_keeps}
use Rattle.contest.proofs.totals_go_over_clash_free_sets.Goals as goal

pub returns : goal.returns
returns c = total_keeps
