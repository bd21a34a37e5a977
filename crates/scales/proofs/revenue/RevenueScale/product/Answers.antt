use Rattle.std.proofs.Common.{ap, ◌∙◌}
use Rattle.std.specs.Option.{option_map}
use Rattle.scales.specs.Cut.{cut, top_amount}
use Rattle.scales.proofs.Amounts.{cut_together}
use Rattle.scales.proofs.revenue.RevenueScale.product.Goals as goal

pub returns : goal.returns
returns c = ap (option_map (cut top_amount)) c.together.ensures ∙ cut_together top_amount c.args.self.held c.args.other.held
