-- Two sales compared: when the same bids stand and the same pairs clash, read from their lists, and what a comparison answers.
--   shares        whether packages that stand to each other so have a lot in common
--   clash_in      whether two bids are on packages that share a lot
--   AlikeAt       one bid stands in both lists or in none, and clashes with the same standing bids before it
--   compare_check the first charge that is refused
--   ComparisonIs  what an accepted comparison says
--   Compared      the outcome of a comparison
use Rattle.std.specs.Prelude.{◌≡◌, ℕ, ◌<◌, Bool, true, false, ◌↔◌, List, Some, None, Option, Result, slice_index_or}
use Rattle.packages.specs.declared.relation.Relation.{Relation}
use Rattle.packages.specs.declared.relation.Relation.TheVariants.{Equal, Inside, Around, Apart, Crossing}
use Rattle.packages.specs.Lots.{Lots}
use Rattle.packages.specs.Nest.{relation_of}
use Rattle.packages.specs.Places.{package_at}
use Rattle.bids.specs.declared.bid.Bid.{Bid}
use Rattle.bids.specs.Bids.{no_bid}
use Rattle.contest.specs.Contest.{Contest, gain}
use Rattle.contest.specs.Telling.{Same}
use Rattle.nest.specs.declared.fault.ChargeFault.{ChargeFault}
use Rattle.nest.specs.Charges.{charge_check, charge_refusal}
use Rattle.nest.specs.Checked.{Checked}
use Rattle.sale.specs.declared.pair.Comparison.{Comparison}

abbrev pub shares : Relation → Bool
shares Equal = true
shares Inside = true
shares Around = true
shares Apart = false
shares Crossing = true

-- the bids with places j and k, from 0, are on packages that share a lot
abbrev pub clash_in : List Lots → List Bid → ℕ → ℕ → Bool
clash_in packages bids j k = shares (relation_of (package_at packages (slice_index_or bids j no_bid).«package») (package_at packages (slice_index_or bids k no_bid).«package»))

-- The bid with place k stands in both lists or in none, and where it stands it clashes in both with the same standing bids before it.
pub record AlikeAt (ts us : List Lots) (xs ys : List Bid) (k : ℕ) : Type 0 where
  pub stands : (slice_index_or xs k no_bid).withdrawn ≡ (slice_index_or ys k no_bid).withdrawn
  pub clash : (j : ℕ) → j < k → (slice_index_or xs j no_bid).withdrawn ≡ false → (slice_index_or xs k no_bid).withdrawn ≡ false → clash_in ts xs j k ≡ clash_in us ys j k

-- the charge of the buyer at the first contest comes before that at the second
abbrev pub earlier : Option (ℕ × ℕ) → Option (ℕ × ℕ) → Option (ℕ × ℕ)
earlier None other = other
earlier (Some refusal) other = Some refusal

abbrev pub compare_check : Contest → Contest → ℕ → Option (ℕ × ℕ)
compare_check c d buyer = earlier (charge_check c buyer) (charge_check d buyer)

-- The contests are the same or not, and the gains are those at the prices of the first.
pub record ComparisonIs (c d : Contest) (buyer : ℕ) (answer : Comparison) : Type 0 where
  pub same : (answer.same ≡ true) ↔ Same c d
  pub first_gain : answer.first_gain ≡ gain c c buyer
  pub second_gain : answer.second_gain ≡ gain c d buyer

abbrev pub Compared : Contest → Contest → ℕ → Result Comparison ChargeFault → Type 0
Compared c d buyer = Checked charge_refusal (compare_check c d buyer) (ComparisonIs c d buyer) (Unit {0})
