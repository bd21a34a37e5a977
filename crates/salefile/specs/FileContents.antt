-- What a file says, as numbers and lists.
--   FileContents   the number of lots, and the packages and the bids in the order of their numbers
--   contents_of    the same of the contents that the code holds
--   run_set        the lots of a run, as a set
--   package_sets   the packages of a file, as sets of lots
use Rattle.std.specs.Prelude.{ℕ, List, map, vec_items}
use Rattle.packages.specs.declared.run.Run.{Run}
use Rattle.packages.specs.Lots.{Lots, run_lots}
use Rattle.bids.specs.declared.bid.Bid.{Bid}
use Rattle.salefile.specs.declared.contents.Contents.{Contents}

-- the number of lots, and the packages and the bids in the order of their numbers
pub record FileContents : Type 0 where
  pub lots : ℕ
  pub packages : List Run
  pub bids : List Bid

abbrev pub contents_of : Contents → FileContents
contents_of c = record { lots = c.lots; packages = vec_items c.packages; bids = vec_items c.bids }

abbrev pub run_set : Run → Lots
run_set r = run_lots r.first r.last

abbrev pub package_sets : FileContents → List Lots
package_sets c = map run_set c.packages
