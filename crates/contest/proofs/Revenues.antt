-- A total in the scale of revenues is the best revenue, where that lies below the greatest amount.
use Rattle.std.proofs.Common.{◌≡◌, ℕ, Bool, true, false, cond, not, eqb, Some, None, refl, ap, ◌∙◌, arith}
use Rattle.scales.specs.Semiring.{Laws}
use Rattle.scales.specs.Cut.{cut, top_amount}
use Rattle.scales.specs.Revenue.{Revenues, greatest, revenues, revenue_of, revenue_worth, crowns}
use Rattle.scales.specs.Numbers.{upto_path}
use Rattle.scales.specs.AdjoinedLaws.{adjoined_laws}
use Rattle.scales.specs.RevenueLaws.{greatest_laws}
use Rattle.contest.specs.Contest.{best_revenue, without}
use Rattle.contest.specs.Choices.{Choices}
use Rattle.contest.specs.Theorems.{RevenueTotal, WithoutTotal}
use Rattle.contest.proofs.Weigh.{total_worths}
use Rattle.contest.proofs.Dropping.{nought_drops}
use Rattle.contest.proofs.Choosing.{total_chooses}

-- An amount of crowns, whatever the bid number.
abbrev best : ℕ → ℕ → Revenues
best a x = revenue_of (revenue_worth a)

revenues_are : Choices revenues best top_amount
revenues_are =
    record {
      add_nought = added;
      unit_is = refl;
      add_less = λ a x b y k l. ap Some (upto_path _ _ (omega arith));
      add_more = λ a x b y h l. ap Some (upto_path _ _ (omega arith));
      add_equal = λ a x y h. ap Some (upto_path _ _ (omega arith));
      mul_is = λ a x b y l. ap Some (upto_path _ _ (omega arith));
    }
  where
    added : (v : Revenues) → revenues.add v None ≡ v
    added None = refl
    added (Some x) = refl

pub revenues_laws : Laws revenues
revenues_laws = adjoined_laws (greatest top_amount) (greatest_laws top_amount)

pub revenue_total : RevenueTotal
revenue_total c below =
    let e : (cut top_amount (best_revenue c)).number ≡ best_revenue c = omega arith in
    ap crowns (total_chooses revenues best top_amount revenues_are c below).1 ∙ ap Some e

pub without_total : WithoutTotal
without_total c b below =
    ap crowns
    (total_worths revenues_laws c _ _ (λ k low high. turned (eqb (c.buyer k) b) (c.price k))
    ∙ nought_drops revenues revenues_laws (λ k. not (eqb (c.buyer k) b)) (λ k. revenue_of (revenue_worth (c.price k))) c)
    ∙ revenue_total (without c b) below
  where
    turned : (v : Bool) (p : ℕ) → cond v revenues.nought (revenue_of (revenue_worth p)) ≡ cond (not v) (revenue_of (revenue_worth p)) revenues.nought
    turned true p = refl
    turned false p = refl
