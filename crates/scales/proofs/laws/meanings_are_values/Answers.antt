use Rattle.scales.proofs.MeaningsBack.{revenue_back, count_back, best_back}
use Rattle.scales.proofs.laws.meanings_are_values.Goals as goal

pub returns-clause-revenue : goal.returns-clause-revenue
returns-clause-revenue c = revenue_back

pub returns-clause-count : goal.returns-clause-count
returns-clause-count c = count_back

pub returns-clause-best : goal.returns-clause-best
returns-clause-best c = best_back
