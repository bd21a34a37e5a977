use Rattle.std.proofs.Common.{◌-◌, length}
use Rattle.file_tests.proofs.line_reader.kinds.Given as goal

abbrev pub decreases-loop-next : goal.decreases-loop-next
decreases-loop-next g l = length l.lines.file.now - l.lines.at
