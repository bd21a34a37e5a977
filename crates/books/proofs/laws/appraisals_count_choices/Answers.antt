use Rattle.books.proofs.Appraising.{always_sums}
use Rattle.books.proofs.laws.appraisals_count_choices.Goals as goal

pub returns : goal.returns
returns c = always_sums
