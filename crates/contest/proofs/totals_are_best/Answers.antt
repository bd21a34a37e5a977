use Rattle.contest.proofs.Choosing.{total_chooses}
use Rattle.contest.proofs.Scaling.{choices_total}
use Rattle.contest.proofs.Revenues as Revenues
use Rattle.contest.proofs.totals_are_best.Goals as goal

pub returns : goal.returns
returns g c = record {
  scale = λ r best limit laws t below. total_chooses r best limit laws t below;
  choices = choices_total;
  revenue = Revenues.revenue_total;
  without = Revenues.without_total;
}
