-- Scales whose values are coded as numbers.
--   Lawful       the laws of a commutative semiring, in meaning
--   AgreeCoded   two contests have totals of equal meaning in every such scale
--   TotalsTell   two contests are the same exactly when their totals agree so
use Rattle.std.specs.Prelude.{◌≡◌, ℕ, ◌↔◌, List, length}
use Rattle.scales.specs.Semiring.{Semiring}
use Rattle.contest.specs.Contest.{Contest}
use Rattle.contest.specs.Total.{total}
use Rattle.contest.specs.Telling.{Same, Symmetric}

-- Operations on values that are coded as numbers, and what each value means. What a sum or a product means follows from what its two values mean, and the laws of
-- a commutative semiring hold in meaning.
pub record Lawful (r : Semiring ℕ) (meaning : ℕ → ℕ) : Type 0 where
  pub add_follows : (a b c d : ℕ) → meaning a ≡ meaning c → meaning b ≡ meaning d → meaning (r.add a b) ≡ meaning (r.add c d)
  pub mul_follows : (a b c d : ℕ) → meaning a ≡ meaning c → meaning b ≡ meaning d → meaning (r.mul a b) ≡ meaning (r.mul c d)
  pub add_comm : (a b : ℕ) → meaning (r.add a b) ≡ meaning (r.add b a)
  pub add_assoc : (a b c : ℕ) → meaning (r.add (r.add a b) c) ≡ meaning (r.add a (r.add b c))
  pub add_nought : (a : ℕ) → meaning (r.add r.nought a) ≡ meaning a
  pub mul_comm : (a b : ℕ) → meaning (r.mul a b) ≡ meaning (r.mul b a)
  pub mul_assoc : (a b c : ℕ) → meaning (r.mul (r.mul a b) c) ≡ meaning (r.mul a (r.mul b c))
  pub mul_unit : (a : ℕ) → meaning (r.mul r.unit a) ≡ meaning a
  pub distrib : (a b c : ℕ) → meaning (r.mul a (r.add b c)) ≡ meaning (r.add (r.mul a b) (r.mul a c))
  pub mul_nought : (a : ℕ) → meaning (r.mul r.nought a) ≡ meaning r.nought

-- In every lawful scale that is coded by numbers, and for every list of worths, one for each bid, the totals are equal in meaning.
abbrev pub AgreeCoded : Contest → Contest → Type 0
AgreeCoded c d =
    (r : Semiring ℕ) (meaning : ℕ → ℕ) → Lawful r meaning → (ws : List ℕ) → length ws ≡ c.count → meaning (total r c ws) ≡ meaning (total r d ws)

-- The same bids stand and the same pairs clash exactly when the totals agree.
abbrev pub TotalsTell : Type 0
TotalsTell = (c d : Contest) → Symmetric c → Symmetric d → c.count ≡ d.count → Same c d ↔ AgreeCoded c d
