-- The meanings of a scale are exactly its values: each value has a meaning, and each meaning is that of a value.
--   revenue_from, count_from, best_from, lowest_from  a value with a given meaning; its numbers are within the limits
--   tied_from                                         a value of Tied, by inner values with given meanings
--   MeansBack                                         the value made from a meaning has that meaning
--   TiedMeansBack                                     Tied has this over any scale that has it
use Rattle.std.specs.Prelude.{◌≡◌, [], ◌∷◌, Some, None, Option, slice_get}
use Rattle.scales.specs.BestThree.{BestThrees}
use Rattle.scales.specs.Count.{Counts}
use Rattle.scales.specs.Lowest.{First, no_bid, bid}
use Rattle.scales.specs.Revenue.{Revenues, crowns}
use Rattle.scales.specs.Tied.{over, amount, TiedOver, tied_of}
use Rattle.scales.specs.declared.best_three.BestThree.{BestThree}
use Rattle.scales.specs.declared.count.Count.{Count}
use Rattle.scales.specs.declared.lowest.Lowest.TheVariants as lowest
use Rattle.scales.specs.declared.lowest.Lowest.{Lowest}
use Rattle.scales.specs.declared.revenue.Revenue.{Revenue}
use Rattle.scales.specs.declared.tied.Tied.TheVariants.{Nothing, Over, Amount}
use Rattle.scales.specs.declared.tied.Tied.{Tied}

abbrev pub revenue_from : Revenues → Revenue
revenue_from m = record { held = crowns m }

abbrev pub count_from : Counts → Count
count_from m = record { number = m.number }

abbrev pub best_from : BestThrees → BestThree
best_from m = record { places = slice_get m.amounts 0 ∷ slice_get m.amounts 1 ∷ slice_get m.amounts 2 ∷ [] }

abbrev pub lowest_from : Option First → Lowest
lowest_from None = lowest.Nothing
lowest_from (Some no_bid) = lowest.NoBid
lowest_from (Some (bid n)) = lowest.Bid n

abbrev pub tied_from : {S M : Type 0} → (M → S) → TiedOver M → Tied S
tied_from inner None = Nothing
tied_from inner (Some over) = Over
tied_from inner (Some (amount n h x)) = Amount n (inner x)

abbrev pub MeansBack : {V M : Type 0} → (M → V) → (V → M) → Type 0
MeansBack {V} {M} from meaning = (m : M) → meaning (from m) ≡ m

abbrev pub TiedMeansBack : {S M : Type 0} → (S → M) → Type 0
TiedMeansBack {S} {M} meaning = (inner : M → S) → MeansBack inner meaning → MeansBack (tied_from inner) (tied_of meaning)
