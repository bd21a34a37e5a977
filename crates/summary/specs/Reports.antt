-- What a report says of a sale.
--   Report                   revenue, winning bids, payments, ways and the greatest amounts
--   winner_of, winners_of    what is said of a bid, and the winning bids by number
--   wins_some                whether a buyer has a winning bid
--   payment_of, payments_of  what is said of a buyer, and the charges of the buyers with a winning bid, in rising order of buyer
--   counted, ways_of         the count in a total of Tied over Count, if there is one, and that of the bids' own prices
--   amounts_of               the amounts in the total of the bids' own prices in Best three
--   report_of                the report of a contest
--   said                     the report that a summary holds
use Rattle.std.specs.Prelude.{ℕ, Bool, List, map, Some, None, vec_items, Option}
use Rattle.bids.specs.Limits.{highest_buyer}
use Rattle.scales.specs.BestThree.{best_threes, best_of, best_worth}
use Rattle.scales.specs.Count.{Counts, counts, count_of, count_worth}
use Rattle.scales.specs.Places.{somes}
use Rattle.scales.specs.Tied.{tied_over, tied_of, tied_worth, settled}
use Rattle.contest.specs.Contest.{Contest, some, award, best_revenue, bids_of, charge}
use Rattle.contest.specs.Total.{from, keep, total_by}
use Rattle.nest.specs.Totals.{price_worths}
use Rattle.summary.specs.declared.contents.Payment.{Payment}
use Rattle.summary.specs.declared.contents.Summary.{Summary}
use Rattle.summary.specs.declared.contents.Winner.{Winner}

pub record Report : Type 0 where
  pub revenue : ℕ
  pub winners : List Winner
  pub payments : List Payment
  pub ways : ℕ
  pub amounts : List ℕ

abbrev pub winner_of : Contest → ℕ → Winner
winner_of c k = record { number = k; buyer = c.buyer k; price = c.price k }

abbrev pub winners_of : Contest → List Winner
winners_of c = map (winner_of c) (keep (award c) (from 1 c.count))

abbrev pub wins_some : Contest → ℕ → Bool
wins_some c b = some c.count (bids_of c b (award c))

abbrev pub payment_of : Contest → ℕ → Payment
payment_of c b = record { buyer = b; amount = charge c b }

abbrev pub payments_of : Contest → List Payment
payments_of c = map (payment_of c) (keep (wins_some c) (from 1 highest_buyer))

-- The total in a scale is the one that appraise answers.
abbrev pub counted : Option (ℕ × Counts) → ℕ
counted None = 0
counted (Some best) = best.1.number

abbrev pub ways_of : Contest → ℕ
ways_of c = counted (settled (total_by (tied_over counts) c (price_worths (tied_of count_of) (tied_worth count_worth) c)))

abbrev pub amounts_of : Contest → List ℕ
amounts_of c = (total_by best_threes c (price_worths best_of best_worth c)).amounts

abbrev pub report_of : Contest → Report
report_of c =
    record {
      revenue = best_revenue c;
      winners = winners_of c;
      payments = payments_of c;
      ways = ways_of c;
      amounts = amounts_of c;
    }

abbrev pub said : Summary → Report
said s =
    record {
      revenue = s.revenue;
      winners = vec_items s.winners;
      payments = vec_items s.payments;
      ways = s.ways;
      amounts = somes s.top;
    }
