-- Worked values of the scales, by computation.
--   revenue, count  an amount of Revenue, a number of Count
--   tied, ways      an amount of Tied with an inner value, one of Tied over Count
--   RevenueWorked, CountWorked, BestWorked, TiedWorked, LowestWorked
--                   the worked values of each scale
use Rattle.std.specs.Prelude.{◌≡◌, ℕ, ◌-◌, [], ◌∷◌, Some, None}
use Rattle.scales.specs.BestThree.{best_three, best_threes}
use Rattle.scales.specs.Count.{Counts, counts}
use Rattle.scales.specs.Cut.{cut, top_amount, top_count}
use Rattle.scales.specs.Lowest.{no_bid, bid, lowests}
use Rattle.scales.specs.Revenue.{Revenues, revenues, crowns}
use Rattle.scales.specs.Tied.{over, tie, TiedOver, tied_over, settled}

abbrev pub revenue : ℕ → Revenues
revenue n = Some (cut top_amount n)

abbrev pub count : ℕ → Counts
count n = cut top_count n

abbrev pub tied : {M : Type 0} → ℕ → M → TiedOver M
tied n x = Some (tie top_amount n x)

abbrev pub ways : ℕ → ℕ → TiedOver Counts
ways n k = tied n (count k)

abbrev pub RevenueWorked : Type 0
RevenueWorked =
    (crowns (revenues.add (revenue 6) (revenue 5)) ≡ Some 6)
    × (crowns (revenues.mul (revenue 6) (revenue 5)) ≡ Some 11)
    × (crowns (revenues.mul (revenue top_amount) (revenue 1)) ≡ Some top_amount)
    × (crowns (revenues.mul (revenue 6) None) ≡ None)

abbrev pub CountWorked : Type 0
CountWorked =
    ((counts.mul (count 40000) (count 40000)).number ≡ 999999999)
    × ((counts.mul (count 40000) (count 20000)).number ≡ 800000000)
    × ((counts.add (count 999999999) (count 1)).number ≡ 999999999)

abbrev pub BestWorked : Type 0
BestWorked =
    ((best_threes.add (best_three (6 ∷ 11 ∷ [])) (best_three (5 ∷ 11 ∷ []))).amounts ≡ 11 ∷ 11 ∷ 6 ∷ [])
    × ((best_threes.mul (best_three (0 ∷ 5 ∷ [])) (best_three (0 ∷ 5 ∷ []))).amounts ≡ 10 ∷ 5 ∷ 5 ∷ [])

abbrev pub TiedWorked : Type 0
TiedWorked =
    (settled ((tied_over counts).add (ways 11 1) (ways 10 1)) ≡ Some (11, count 1))
    × (settled ((tied_over counts).add (ways 11 1) (ways 11 1)) ≡ Some (11, count 2))
    × (settled ((tied_over counts).mul (ways 6 2) (ways 5 3)) ≡ Some (11, count 6))
    × ((tied_over counts).mul (ways (top_amount - 1) 1) (ways 1 1) ≡ Some over)
    × (settled ((tied_over (tied_over counts)).add (tied 11 (ways 4 1)) (tied 11 (ways 4 1))) ≡ Some (11, ways 4 2))

abbrev pub LowestWorked : Type 0
LowestWorked =
    (lowests.add (Some (bid 3)) (Some (bid 2)) ≡ Some (bid 2))
    × (lowests.mul (Some (bid 3)) (Some no_bid) ≡ Some (bid 3))
    × (lowests.add (Some (bid 3)) None ≡ Some (bid 3))
    × (lowests.mul (Some (bid 3)) None ≡ None)
