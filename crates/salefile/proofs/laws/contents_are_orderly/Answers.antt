use Rattle.salefile.proofs.Order.{all_orderly}
use Rattle.salefile.proofs.Nested.{all_nested}
use Rattle.salefile.proofs.laws.contents_are_orderly.Goals as goal

pub returns : goal.returns
returns c = record { runs = all_orderly; nest = all_nested }
