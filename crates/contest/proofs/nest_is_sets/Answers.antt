use Rattle.contest.proofs.Sharing as Sharing
use Rattle.contest.proofs.nest_is_sets.Goals as goal

pub returns : goal.returns
returns c = Sharing.nest_is_sets
