use Rattle.books.proofs.Selling.{sold_sizes}
use Rattle.books.proofs.laws.lots_are_sold_once.Goals as goal

pub returns : goal.returns
returns c = sold_sizes
