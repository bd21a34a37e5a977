-- What award answers, and what it writes.
--   award_refusal   the number and the place of the refusal
--   award_check     the first check that fails
--   AwardIs         the answer and the bytes of an accepted call
--   Awarded         the outcome of a call
use Rattle.std.specs.Prelude.{◌≡◌, ℕ, cond, List, length, Some, None, Option, Result, nat_le}
use Rattle.contest.specs.Contest.{Contest, award, best_revenue, winners}
use Rattle.contest.specs.Descent.{Marks}
use Rattle.nest.specs.declared.fault.AwardFault.{AwardFault}
use Rattle.nest.specs.declared.fault.AwardFault.TheVariants.{TooShort}
use Rattle.nest.specs.Checked.{Checked}

abbrev pub award_refusal : AwardFault → ℕ × ℕ
award_refusal TooShort = (16, 0)

-- for so many bids and bytes
abbrev pub award_check : ℕ → ℕ → Option (ℕ × ℕ)
award_check bids bytes = cond (nat_le bids bytes) None (Some (award_refusal TooShort))

-- The bytes mark the award, and the answer is its revenue and the number of winning bids.
pub record AwardIs (c : Contest) (before after : List ℕ) (answer : ℕ × ℕ) : Type 0 where
  pub bytes : Marks c.count (award c) before after
  pub revenue : answer.0 ≡ best_revenue c
  pub winning : answer.1 ≡ winners c

-- After a refusal the bytes are as before.
abbrev pub Awarded : Contest → List ℕ → List ℕ → Result (ℕ × ℕ) AwardFault → Type 0
Awarded c before after = Checked award_refusal (award_check c.count (length before)) (AwardIs c before after) (after ≡ before)
