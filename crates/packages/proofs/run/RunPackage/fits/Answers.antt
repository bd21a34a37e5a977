use Rattle.std.proofs.Common.{◌≤◌, leb, sym, ap, ◌∙◌, arith}
use Rattle.std.proofs.lemmas.Bool.{both_ways, false_from_ne_true, leb-true, le-leb}
use Rattle.packages.specs.SetsLemmas.{same_tests}
use Rattle.packages.specs.Runs.{run_fits, run_fitted}
use Rattle.packages.proofs.run.RunPackage.fits.Goals as goal
use Rattle.packages.proofs.run.RunPackage.fits.Goals.{then-self-ge1, else-self-ge1}

pub returns-then-self : goal.returns-then-self
returns-then-self c =
    let a = c.args.self.now in
    elim c.if-self-ge1.branch [
      | then-self-ge1 w ↦
          let order : a.first ≤ a.last = leb-true a.first a.last (sym w.value-is ∙ c.if-self.true) in
          ap (λ n. leb n c.args.lots) c.from.ensures
          ∙ same_tests (leb a.last c.args.lots) _
          (λ e. run_fits a.first a.last c.args.lots (omega arith) (omega arith) order (leb-true a.last c.args.lots e))
          (λ e. le-leb a.last c.args.lots ((run_fitted a.first a.last c.args.lots e).2 (omega arith)))
      | else-self-ge1 w ↦ let h : 1 ≤ a.first = leb-true 1 a.first (sym w.value-is ∙ c.if-self.true) in absurd (omega arith)
    ]

pub returns-else-self : goal.returns-else-self
returns-else-self c =
    let a = c.args.self.now in
    c.if-self.false ∙ sym (false_from_ne_true _ (λ e.
    let f = run_fitted a.first a.last c.args.lots e in
    elim c.if-self-ge1.branch [
      | then-self-ge1 w ↦ both_ways _ c.if-self.false (w.value-is ∙ le-leb a.first a.last f.1)
      | else-self-ge1 w ↦ omega (arith, f.0)
    ]))
