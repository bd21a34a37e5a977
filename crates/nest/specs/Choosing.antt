-- The worths of bids in the scales of the award and the charges.
--   worth_by        what the worth of a bid means, where it comes from its number and the bid
--   choice_of       a bid's price with its number
--   price_without   a bid's price, nought for the bids of one buyer
--   low_in          the lowest bid number that a place of a workspace holds
--   lowest_inside   the lowest bid number in the best choices inside a package
use Rattle.std.specs.Prelude.{ℕ, ◌-◌, cond, List, ◌==◌, vec_items, slice_index_or}
use Rattle.bids.specs.declared.bid.Bid.{Bid}
use Rattle.bids.specs.Bids.{bid_at}
use Rattle.scales.specs.Tied.{tied_of, no_tied}
use Rattle.scales.specs.Lowest.{lowest_of}
use Rattle.scales.specs.Revenue.{no_revenue, revenue_worth}
use Rattle.scales.specs.declared.tied.Tied.{Tied}
use Rattle.scales.specs.declared.tied.Tied.TheVariants.{Amount}
use Rattle.scales.specs.declared.lowest.Lowest.{Lowest}
use Rattle.scales.specs.declared.lowest.Lowest.TheVariants.{Bid as Number}
use Rattle.scales.specs.declared.revenue.Revenue.{Revenue}
use Rattle.scales.specs.Cut.{top_amount}
use Rattle.contest.specs.Total.{total_by}
use Rattle.contest.specs.Choices.{choices, number_of}
use Rattle.nest.specs.declared.nest.Nest.{Nest}
use Rattle.nest.specs.Contests.{contest_inside_nest}

abbrev pub worth_by : {S M : Type 0} → (S → M) → (ℕ → Bid → S) → List Bid → ℕ → M
worth_by meaning at bids n = meaning (at n (bid_at bids n))

abbrev pub choice_of : ℕ → Bid → Tied Lowest
choice_of n bid = Amount bid.price (Number n)

abbrev pub price_without : ℕ → ℕ → Bid → Revenue
price_without buyer n bid = cond (bid.buyer == buyer) no_revenue (revenue_worth bid.price)

-- 0 where the place holds none
abbrev pub low_in : List (Tied Lowest) → ℕ → ℕ
low_in work g = number_of (tied_of lowest_of (slice_index_or work (g - 1) no_tied))

-- 0 where these choices are empty
abbrev pub lowest_inside : Nest → ℕ → ℕ
lowest_inside n g = number_of (total_by (choices top_amount) (contest_inside_nest n g) (worth_by (tied_of lowest_of) choice_of (vec_items n.bids)))
