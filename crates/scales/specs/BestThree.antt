-- BestThree: up to three amounts of at most 10^15, never rising.
--   BestThrees   the meanings
--   best_threes  their nought, unit, sum and product
--   best_three   the three greatest of a list of amounts, each cut at 10^15
--   held         the amounts that a value holds
--   best_of      what a value means: they are read cut and in falling order
--   best_worth   a price is worth itself alone
--   no_amounts   the value without amounts
--   InOrder      a value holds its amounts in falling order, and then nothing
use Rattle.std.specs.Prelude.{ℕ, List, [], ◌∷◌, Some, None}
use Rattle.scales.specs.Best.{Best, best, bests}
use Rattle.scales.specs.Cut.{top_amount}
use Rattle.scales.specs.Places.{somes, Falls}
use Rattle.scales.specs.Semiring.{Semiring}
use Rattle.scales.specs.declared.best_three.BestThree.{BestThree}

abbrev pub BestThrees : Type 0
BestThrees = Best 3 top_amount

abbrev pub best_threes : Semiring BestThrees
best_threes = bests 3 top_amount

abbrev pub best_three : List ℕ → BestThrees
best_three = best 3 top_amount

abbrev pub held : BestThree → List ℕ
held b = somes b.places

abbrev pub best_of : BestThree → BestThrees
best_of b = best_three (held b)

abbrev pub best_worth : ℕ → BestThree
best_worth price = record { places = Some price ∷ None ∷ None ∷ [] }

abbrev pub no_amounts : BestThree
no_amounts = record { places = None ∷ None ∷ None ∷ [] }

abbrev pub InOrder : BestThree → Type 0
InOrder b = Falls b.places
