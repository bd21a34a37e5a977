-- Revenue: none, or an amount of at most 10^15. The sum is the greater, the product adds.
--   greatest       amounts up to any limit: the sum of two is the greater, and the product is both added, cut at the limit
--   Revenues       the meanings of Revenue
--   revenues       their nought, unit, sum and product
--   revenue_of     what a value means
--   revenue_worth  a price is worth itself
--   crowns         the number of a meaning, if it is not none
--   no_revenue     the value none
use Rattle.std.specs.Prelude.{ℕ, ◌+◌, max, Some, None, Option}
use Rattle.std.proofs.Common.{arith}
use Rattle.std.specs.Option.{option_map}
use Rattle.scales.specs.Adjoined.{Core, adjoined}
use Rattle.scales.specs.Cut.{Upto, cut, top_amount}
use Rattle.scales.specs.Semiring.{Semiring}
use Rattle.scales.specs.declared.revenue.Revenue.{Revenue}

abbrev pub greatest : (limit : ℕ) → Core (Upto limit)
greatest limit = record {
  unit = cut limit 0;
  add = λ a b. record { number = max a.number b.number; within = omega arith };
  mul = λ a b. cut limit (a.number + b.number);
}

abbrev pub Revenues : Type 0
Revenues = Option (Upto top_amount)

abbrev pub revenues : Semiring Revenues
revenues = adjoined (greatest top_amount)

abbrev pub revenue_of : Revenue → Revenues
revenue_of v = option_map (cut top_amount) v.held

abbrev pub revenue_worth : ℕ → Revenue
revenue_worth price = record { held = Some price }

abbrev pub crowns : Revenues → Option ℕ
crowns = option_map (λ a. a.number)

abbrev pub no_revenue : Revenue
no_revenue = record { held = None }
