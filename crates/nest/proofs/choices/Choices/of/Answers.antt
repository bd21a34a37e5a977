use Rattle.std.proofs.Common.{ap, rules}
use Rattle.scales.specs.Tied.{no_tied}
use Rattle.contest.specs.Choices.{number_of}
use Rattle.nest.specs.Choosing.{choice_of}
use Rattle.nest.proofs.choices.Choices.of.Goals as goal

pub invariant_of-result : goal.invariant_of-result
invariant_of-result c = record {
  lowest = λ g low high. ap number_of ((c.total_from.ensures choice_of (λ i worth within answer. search rules)).places g no_tied low high);
}
