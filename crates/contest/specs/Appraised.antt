-- What the totals of a contest's own prices say of its clash-free sets.
--   sets           the clash-free sets of a contest, each as the list of its bids' numbers
--   fetched        the revenue of such a set
--   ways           how many of the sets fetch an amount
--   tied_prices    each bid's price with the count 1
--   WaysCounted    in Tied over Count, the greatest revenue with the number of sets that fetch it
--   TopFetched     in Best three, the three greatest revenues of the sets, repeats counted
use Rattle.std.specs.Prelude.{◌≡◌, ℕ, ◌+◌, ◌<◌, cond, List, [], ◌∷◌, map, Some, ◌==◌}
use Rattle.scales.specs.Cut.{cut, top_amount, top_count}
use Rattle.scales.specs.Count.{Counts, counts, count_of, count_worth}
use Rattle.scales.specs.Tied.{TiedOver, tied_over, tied_of, tied_worth, settled}
use Rattle.scales.specs.BestThree.{best_threes, best_three, best_of, best_worth}
use Rattle.contest.specs.Contest.{Contest, best_revenue}
use Rattle.contest.specs.Total.{from, subsets, keep, clash_free, total_by}

abbrev pub sets : Contest → List (List ℕ)
sets c = keep (clash_free c.stands c.clash) (subsets (from 1 c.count))

abbrev pub fetched : Contest → List ℕ → ℕ
fetched c [] = 0
fetched c (k ∷ ks) = c.price k + fetched c ks

abbrev pub ways : Contest → ℕ → List (List ℕ) → ℕ
ways c crowns [] = 0
ways c crowns (s ∷ ss) = cond (fetched c s == crowns) 1 0 + ways c crowns ss

abbrev pub tied_prices : Contest → ℕ → TiedOver Counts
tied_prices c k = tied_of count_of (tied_worth count_worth (c.price k))

-- the count is cut at the greatest count
abbrev pub WaysCounted : Type 0
WaysCounted =
    (c : Contest) → best_revenue c < top_amount
    → settled (total_by (tied_over counts) c (tied_prices c)) ≡ Some (best_revenue c, cut top_count (ways c (best_revenue c) (sets c)))

-- each amount is cut at the greatest amount
abbrev pub TopFetched : Type 0
TopFetched = (c : Contest) → total_by best_threes c (λ k. best_of (best_worth (c.price k))) ≡ best_three (map (fetched c) (sets c))
