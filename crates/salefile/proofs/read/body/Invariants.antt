use Rattle.std.proofs.Common.{◌-◌, length}
use Rattle.salefile.specs.Draft.{Loading}
use Rattle.salefile.proofs.read.body.Given as goal

abbrev pub invariant-loop-next : goal.invariant-loop-next
invariant-loop-next l = Loading l.initial.lines.file.now l.initial.draft.space l.lines l.draft

abbrev pub decreases-loop-next : goal.decreases-loop-next
decreases-loop-next l = length l.lines.file.now - l.lines.at
