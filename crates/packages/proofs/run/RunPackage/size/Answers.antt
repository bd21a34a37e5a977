use Rattle.std.proofs.Common.{◌+◌, ◌-◌, sym, ◌∙◌, ap₂, arith}
use Rattle.packages.specs.Runs.{run_size}
use Rattle.packages.proofs.run.RunPackage.size.Goals as goal

pub returns : goal.returns
returns c =
    let a = c.args.self.now in
    c.saturating_sub.ensures ∙ ap₂ (λ x y. x + 1 - y) c.from.ensures c.from-2.ensures ∙ sym (run_size a.first a.last (omega arith))
