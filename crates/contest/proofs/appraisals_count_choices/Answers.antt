use Rattle.contest.proofs.Appraising.{ways_counted, top_fetched}
use Rattle.contest.proofs.appraisals_count_choices.Goals as goal

pub returns : goal.returns
returns c = record { ways = ways_counted; top = top_fetched }
