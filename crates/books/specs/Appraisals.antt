-- What appraisals say at the end of any history, in words of clash-free sets.
--   appraised     the total of a contest at its own prices, as appraise defines it
--   BestSums      in Revenue it is the award's revenue; in Tied over Count that revenue with the number of clash-free sets that fetch as
--                 much, cut at the greatest count; in Best three the three greatest revenues of clash-free sets
--   AlwaysSums    it is so at the end of every history
use Rattle.std.specs.Prelude.{◌≡◌, ℕ, map, Some}
use Rattle.scales.specs.Semiring.{Semiring}
use Rattle.scales.specs.Cut.{cut, top_count}
use Rattle.scales.specs.Count.{counts, count_of, count_worth}
use Rattle.scales.specs.Revenue.{revenues, revenue_of, revenue_worth, crowns}
use Rattle.scales.specs.BestThree.{best_threes, best_three, best_of, best_worth}
use Rattle.scales.specs.Tied.{tied_over, tied_of, tied_worth, settled}
use Rattle.contest.specs.Contest.{Contest, best_revenue}
use Rattle.contest.specs.Total.{total_by}
use Rattle.contest.specs.Appraised.{sets, fetched, ways}
use Rattle.nest.specs.Totals.{price_worths}
use Rattle.books.specs.History.{History}
use Rattle.books.specs.Contests.{contest_at}

abbrev pub appraised : {S M : Type 0} → (S → M) → Semiring M → (ℕ → S) → Contest → M
appraised meaning ring worth_of c = total_by ring c (price_worths meaning worth_of c)

pub record BestSums (c : Contest) : Type 0 where
  pub revenue : crowns (appraised revenue_of revenues revenue_worth c) ≡ Some (best_revenue c)
  pub equally_good : settled (appraised (tied_of count_of) (tied_over counts) (tied_worth count_worth) c) ≡ Some (best_revenue c, cut top_count (ways c (best_revenue c) (sets c)))
  pub greatest : appraised best_of best_threes best_worth c ≡ best_three (map (fetched c) (sets c))

abbrev pub AlwaysSums : Type 0
AlwaysSums = (h : History) → BestSums (contest_at h)
