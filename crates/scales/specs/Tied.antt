-- Tied over any scale: none, over, or an amount below 10^15 with an inner value.
--   Tie         over, or an amount below a limit with an inner value
--   tie         a number and an inner value as a Tie: over from the limit on
--   tie_add     the greater amount wins, and equal amounts add their inner values; over with anything is over
--   tie_mul     amounts add and inner values multiply; over with anything is over
--   ties        these two, with 0 and the inner unit as the unit
--   TiedOver    the meanings of Tied, over the meanings of the inner scale
--   tied_over   their nought, unit, sum and product
--   tied_of     what a value means, by what inner values mean
--   tied_worth  a price is worth that amount with the inner worth
--   settled     the amount and inner value of a meaning, if it is neither none nor over
--   settled_of  an amount with a value, by what the value means
--   no_tied     the value none
use Rattle.std.specs.Prelude.{ℕ, ◌+◌, ◌<◌, cond, Some, None, Option, nat_lt}
use Rattle.std.proofs.Math.Decide.{dec_lt}
use Rattle.std.specs.Option.{option_map}
use Rattle.scales.specs.Adjoined.{Core, adjoined}
use Rattle.scales.specs.Cut.{top_amount}
use Rattle.scales.specs.Semiring.{Semiring}
use Rattle.scales.specs.declared.tied.Tied.TheVariants.{Nothing, Over, Amount}
use Rattle.scales.specs.declared.tied.Tied.{Tied}

pub data Tie (limit : ℕ) (M : Type 0) : Type 0 where
  over : Tie limit M
  amount : (n : ℕ) → n < limit → M → Tie limit M

abbrev pub tie : (limit : ℕ) {M : Type 0} → ℕ → M → Tie limit M
tie limit n x = elim (dec_lt n limit) [ yes h ↦ amount n h x | no h ↦ over ]

abbrev pub tie_add : (limit : ℕ) {M : Type 0} → (M → M → M) → Tie limit M → Tie limit M → Tie limit M
tie_add limit add over b = over
tie_add limit add (amount m h x) over = over
tie_add limit add (amount m h x) (amount n k y) =
    cond (nat_lt m n) (amount n k y) (cond (nat_lt n m) (amount m h x) (amount m h (add x y)))

abbrev pub tie_mul : (limit : ℕ) {M : Type 0} → (M → M → M) → Tie limit M → Tie limit M → Tie limit M
tie_mul limit mul over b = over
tie_mul limit mul (amount m h x) over = over
tie_mul limit mul (amount m h x) (amount n k y) = tie limit (m + n) (mul x y)

abbrev pub ties : (limit : ℕ) {M : Type 0} → Semiring M → Core (Tie limit M)
ties limit r = record { unit = tie limit 0 r.unit; add = tie_add limit r.add; mul = tie_mul limit r.mul }

abbrev pub TiedOver : Type 0 → Type 0
TiedOver M = Option (Tie top_amount M)

abbrev pub tied_over : {M : Type 0} → Semiring M → Semiring (TiedOver M)
tied_over r = adjoined (ties top_amount r)

abbrev pub tied_of : {S M : Type 0} → (S → M) → Tied S → TiedOver M
tied_of f Nothing = None
tied_of f Over = Some over
tied_of f (Amount n x) = Some (tie top_amount n (f x))

abbrev pub tied_worth : {S : Type 0} → (ℕ → S) → ℕ → Tied S
tied_worth inner price = Amount price (inner price)

abbrev pub settled : {M : Type 0} → TiedOver M → Option (ℕ × M)
settled None = None
settled (Some over) = None
settled (Some (amount n h x)) = Some (n, x)

abbrev pub settled_of : {S M : Type 0} → (S → M) → Option (ℕ × S) → Option (ℕ × M)
settled_of f = option_map (λ p. (p.0, f p.1))

abbrev pub no_tied : {S : Type 0} → Tied S
no_tied = Nothing
