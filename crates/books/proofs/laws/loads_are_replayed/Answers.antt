use Rattle.books.proofs.Loads.{always_loads}
use Rattle.books.proofs.Replay.{replays}
use Rattle.books.proofs.laws.loads_are_replayed.Goals as goal

pub returns : goal.returns
returns c = record { loads = always_loads; replays = replays }
