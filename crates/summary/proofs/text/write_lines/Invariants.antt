use Rattle.std.proofs.Common.{◌≡◌, ℕ, List, map, take, Some}
use Rattle.std.specs.Fmt.{IsPlainFormatter, HasWritten}
use Rattle.books.specs.Worked.{ended}
use Rattle.summary.proofs.text.write_lines.Given as goal

abbrev pub invariant-loop-value : goal.invariant-loop-value
invariant-loop-value g l =
    (line : g.row.D.Denot → List ℕ) → ((d : g.row.D.Denot) → g.D.Display.output d ≡ Some (line d)) → IsPlainFormatter l.initial.f → HasWritten g.W.Write.write_str_gives l.initial.f (ended (map line (take l.value-index l.values))) l.f
