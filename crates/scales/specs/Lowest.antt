-- Lowest: none, no bid yet, or a bid number. Sum and product both keep the lowest.
--   First      the number of a bid, or that there is no bid yet
--   lesser     the lesser of two, no bid being above every number
--   firsts     sum and product are both the lesser
--   lowests    nought, unit, sum and product of the meanings of Lowest: the same with none
--   lowest_of  what a value means
--   no_lowest  the value none
use Rattle.std.specs.Prelude.{ℕ, min, Some, None, Option}
use Rattle.scales.specs.Adjoined.{Core, adjoined}
use Rattle.scales.specs.Semiring.{Semiring}
use Rattle.scales.specs.declared.lowest.Lowest.TheVariants.{Nothing, NoBid, Bid}
use Rattle.scales.specs.declared.lowest.Lowest.{Lowest}

pub data First : Type 0 where
  no_bid : First
  bid : ℕ → First

abbrev pub lesser : First → First → First
lesser no_bid b = b
lesser (bid m) no_bid = bid m
lesser (bid m) (bid n) = bid (min m n)

abbrev pub firsts : Core First
firsts = record { unit = no_bid; add = lesser; mul = lesser }

abbrev pub lowests : Semiring (Option First)
lowests = adjoined firsts

abbrev pub lowest_of : Lowest → Option First
lowest_of Nothing = None
lowest_of NoBid = Some no_bid
lowest_of (Bid n) = Some (bid n)

abbrev pub no_lowest : Lowest
no_lowest = Nothing
