use Rattle.std.proofs.Common.{◌∙◌}
use Rattle.packages.specs.Lots.{run_lots}
use Rattle.packages.specs.SetsLemmas.{relation_from}
use Rattle.packages.proofs.run.RunPackage.compare.Goals as goal

pub returns : goal.returns
returns c =
    let a = c.args.self.now in
    let b = c.args.other.now in
    c.first_true.ensures
    ∙ relation_from (run_lots a.first a.last) (run_lots b.first b.last) c.within.result c.within-2.result c.apart.result
    c.within.ensures c.within-2.ensures c.apart.ensures
