use Rattle.contest.proofs.Opening as Opening
use Rattle.contest.proofs.descent_awards.Goals as goal

pub returns : goal.returns
returns c = λ t top on parent low opened nest lowest down. Opening.descent t top on parent nest low lowest opened down
