-- What load leaves in the table of a sale of runs.
--   Stored   an accepted file's packages stand first, and the places after them are as they were; a refusal changes nothing
use Rattle.std.specs.Prelude.{◌≡◌, ℕ, min, List, ◌++◌, length, drop, Result, MatchResult}
use Rattle.bids.specs.Limits.{max_packages}
use Rattle.packages.specs.declared.run.Run.{Run}
use Rattle.salefile.specs.FileContents.{FileContents}
use Rattle.salefile.specs.Files.{Accepted}
use Rattle.sale.specs.declared.fault.LoadFault.{LoadFault}

abbrev pub Stored : List ℕ → List Run → Result ℕ LoadFault → List Run → Type 0
Stored file table r table' =
    MatchResult r
    (λ _. (c : FileContents) × Accepted file (min max_packages (length table)) c × (table' ≡ c.packages ++ drop (length c.packages) table))
    (λ _. table' ≡ table)
