use Rattle.contest.proofs.Awarding.{one_award}
use Rattle.contest.proofs.Charging.{charge_whole}
use Rattle.contest.proofs.Truth.{truthful}
use Rattle.contest.proofs.Likeness.{alike_same}
use Rattle.contest.proofs.awards_and_charges.Goals as goal

pub returns : goal.returns
returns c = record {
  award = one_award;
  charge = charge_whole;
  truth = truthful;
  alike = alike_same;
}
