use Rattle.std.proofs.Common.{◌≡◌, min, ◌++◌, length, take, drop, vec_items, vec_len}
use Rattle.bids.specs.Limits.{max_packages}
use Rattle.salefile.specs.FileContents.{contents_of, run_set}
use Rattle.sale.specs.Holds.{Holds}
use Rattle.books.proofs.Replay.{part}
use Rattle.sale.proofs.load.Sale+Run.take_up.Given as goal

-- the sale holds the first packages, and they stand in the table
abbrev pub invariant-loop-run : goal.invariant-loop-run
invariant-loop-run l =
    Holds run_set l.self (part (contents_of l.contents) (min max_packages (vec_len l.initial.self.table)) l.run-index 0)
    × (vec_items l.self.table ≡ take l.run-index (vec_items l.contents.packages) ++ drop l.run-index (vec_items l.initial.self.table))

-- the sale holds all packages and the first bids
abbrev pub invariant-loop-bid : goal.invariant-loop-bid
invariant-loop-bid l =
    Holds run_set l.self (part (contents_of l.contents) (min max_packages (vec_len l.initial.self.table)) (length (vec_items l.contents.packages)) l.bid-index)
    × (vec_items l.self.table ≡ vec_items l.initial.self.table)
