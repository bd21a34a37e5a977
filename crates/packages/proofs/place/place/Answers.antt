use Rattle.std.proofs.Common.{◌+◌, map, Some, sym, ap, ◌∙◌, arith, take_all}
use Rattle.packages.specs.declared.place.Conflict.TheVariants as conflict
use Rattle.packages.specs.declared.relation.Relation.TheVariants.{Inside, Apart}
use Rattle.packages.specs.Nest.{objection, conflict_from, innermost_from}
use Rattle.packages.proofs.Nests.{next, refused_here, settled}
use Rattle.packages.proofs.Places.{placed_so}
use Rattle.packages.proofs.Containers.{container_so, grows_so}
use Rattle.packages.proofs.place.place.Goals as goal
use Rattle.packages.proofs.place.place.Goals.{in-Inside, in-Apart}

pub returns-in-Equal : goal.returns-in-Equal
returns-in-Equal g c =
    let is =
    refused_here g.P.Package.meaning (g.P.Package.meaning c.args.new.now) c.args.packages.now c.loop-i.i
    c.index-packages-i.result (omega arith) c.index-packages-i.is (conflict.Equal (c.loop-i.i + 1)) c.loop-i.invariant.1
    (ap (λ r. objection r (c.loop-i.i + 1)) (sym c.in-Equal.ensures)) in
    record { defined = is; words = placed_so _ _ _ is; nest = λ some first. tt; grows = tt }

pub returns-in-Crossing : goal.returns-in-Crossing
returns-in-Crossing g c =
    let is =
    refused_here g.P.Package.meaning (g.P.Package.meaning c.args.new.now) c.args.packages.now c.loop-i.i
    c.index-packages-i.result (omega arith) c.index-packages-i.is (conflict.Crossing (c.loop-i.i + 1)) c.loop-i.invariant.1
    (ap (λ r. objection r (c.loop-i.i + 1)) (sym c.in-Crossing.ensures)) in
    record { defined = is; words = placed_so _ _ _ is; nest = λ some first. tt; grows = tt }

pub returns-in-Around : goal.returns-in-Around
returns-in-Around g c =
    let is =
    refused_here g.P.Package.meaning (g.P.Package.meaning c.args.new.now) c.args.packages.now c.loop-i.i
    c.index-packages-i.result (omega arith) c.index-packages-i.is (conflict.Around (c.loop-i.i + 1)) c.loop-i.invariant.1
    (ap (λ r. objection r (c.loop-i.i + 1)) (sym c.in-Around.ensures)) in
    record { defined = is; words = placed_so _ _ _ is; nest = λ some first. tt; grows = tt }

pub loop-i-preserved : goal.loop-i-preserved
loop-i-preserved g c =
    let m = g.P.Package.meaning in
    let more = next m (m c.args.new.now) c.args.packages.now c.loop-i.i c.index-packages-i.result (omega arith) c.index-packages-i.is in
    elim c.match-compare.branch [
      | in-Inside w ↦
          let n = more Inside c.loop-i.innermost w.in-Inside.ensures c.loop-i.invariant.1 c.loop-i.invariant.2 in
          (omega arith, n.0, n.1 ∙ sym {b = Some (c.loop-i.i + 1)} w.innermost-is)
      | in-Apart w ↦
          let n = more Apart c.loop-i.innermost w.in-Apart.ensures c.loop-i.invariant.1 c.loop-i.invariant.2 in
          (omega arith, n.0, n.1 ∙ sym {b = c.loop-i.innermost} w.innermost-is)
    ]

pub returns : goal.returns
returns g c =
    let m = g.P.Package.meaning in
    let s = m c.args.new.now in
    let whole = ap (map m) (take_all _ c.args.packages.now c.loop-i-test.false) in
    let is = settled s _ _ (ap (conflict_from 1 s) (sym whole) ∙ c.loop-i.invariant.1) (ap (innermost_from 1 s) (sym whole) ∙ c.loop-i.invariant.2) in
    record { defined = is; words = placed_so _ _ _ is; nest = container_so _ _ _ is; grows = grows_so _ _ _ is }
