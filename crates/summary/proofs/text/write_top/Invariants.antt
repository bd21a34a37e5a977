use Rattle.std.proofs.Common.{map}
use Rattle.std.specs.Fmt.{IsPlainFormatter, HasWritten}
use Rattle.summary.specs.Text.{spaced}
use Rattle.summary.proofs.text.write_top.Given as goal

abbrev pub invariant-loop-amount : goal.invariant-loop-amount
invariant-loop-amount g l = IsPlainFormatter l.initial.f → HasWritten g.W.Write.write_str_gives l.initial.f (spaced (map (λ y. y.now) l.yielded)) l.f
