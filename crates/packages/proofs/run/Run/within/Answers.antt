use Rattle.std.proofs.Common.{◌≤◌, leb, sym, ◌∙◌, inl, inr, arith}
use Rattle.std.proofs.lemmas.Bool.{lt-ltb, le-leb, leb-true}
use Rattle.packages.specs.Lots.{run_lots, within}
use Rattle.packages.specs.SetsLemmas.{same_tests, within_says}
use Rattle.packages.specs.Runs.{run_within, run_bounds}
use Rattle.packages.proofs.run.Run.within.Goals as goal

pub returns-then-self : goal.returns-then-self
returns-then-self c =
    let a = c.args.self.now in
    let b = c.args.other.now in
    lt-ltb a.last a.first c.if-self.true
    ∙ sym (run_within a.first a.last b.first b.last (inl c.if-self.true))

pub returns-then-other-self : goal.returns-then-other-self
returns-then-other-self c =
    let a = c.args.self.now in
    let b = c.args.other.now in
    same_tests (leb a.last b.last) (within (run_lots a.first a.last) (run_lots b.first b.last))
    (λ e. run_within a.first a.last b.first b.last (inr (c.if-other-self.true, leb-true a.last b.last e)))
    (λ e. le-leb a.last b.last (run_bounds a.first a.last b.first b.last (omega arith) c.if-self.false (within_says _ _ e)).1)

pub returns-else-other-self : goal.returns-else-other-self
returns-else-other-self c =
    let a = c.args.self.now in
    let b = c.args.other.now in
    same_tests (leb b.first a.first) (within (run_lots a.first a.last) (run_lots b.first b.last))
    (λ e. let h : b.first ≤ a.first = leb-true b.first a.first e in absurd (omega arith))
    (λ e. le-leb b.first a.first (run_bounds a.first a.last b.first b.last (omega arith) c.if-self.false (within_says _ _ e)).0)
