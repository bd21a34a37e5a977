use Rattle.lines.proofs.Reading.{reads_whole}
use Rattle.lines.proofs.laws.files_are_read_whole.Goals as goal

pub returns : goal.returns
returns c = reads_whole
