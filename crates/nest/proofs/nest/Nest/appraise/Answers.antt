use Rattle.std.proofs.Common.{length, vec_len, arith, rules}
use Rattle.std.proofs.lemmas.Bool.{cond-true, le-leb}
use Rattle.nest.proofs.nest.Nest.appraise.Goals as goal

pub returns : goal.returns
returns g c = (
  cond-true _ _ _ (le-leb (vec_len c.args.self.now.parents) (length c.args.work.now) (omega arith)),
  c.total_from.ensures (λ _ bid. g.S.PricedScale.worth bid.price) (λ i worth low answer. search rules),
)
