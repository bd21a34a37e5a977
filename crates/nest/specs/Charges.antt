-- What charge answers.
--   charge_refusal   the number and the place of each refusal
--   charge_check     the first check that fails
--   Charged          the outcome of a call
use Rattle.std.specs.Prelude.{◌≡◌, ℕ, cond, Some, None, Option, Result}
use Rattle.bids.specs.Limits.{is_buyer}
use Rattle.contest.specs.Contest.{Contest, has_bid, charge}
use Rattle.nest.specs.declared.fault.ChargeFault.{ChargeFault}
use Rattle.nest.specs.declared.fault.ChargeFault.TheVariants.{Buyer, NoBid}
use Rattle.nest.specs.Checked.{Checked}

abbrev pub charge_refusal : ChargeFault → ℕ × ℕ
charge_refusal Buyer = (12, 0)
charge_refusal NoBid = (32, 0)

abbrev pub charge_check : Contest → ℕ → Option (ℕ × ℕ)
charge_check c buyer = cond (is_buyer buyer) (cond (has_bid c buyer) None (Some (charge_refusal NoBid))) (Some (charge_refusal Buyer))

abbrev pub Charged : Contest → ℕ → Result ℕ ChargeFault → Type 0
Charged c buyer = Checked charge_refusal (charge_check c buyer) (λ crowns. crowns ≡ charge c buyer) (Unit {0})
