-- When two contests have the same totals.
--   Same        the same bids stand, and the same pairs of standing bids clash
--   Symmetric   two bids clash whichever is asked first
--   Agree       the totals are equal for every list of worths
--   SameAgree   the same contests have the same totals, in every lawful scale
--   AgreeSame   contests whose counts agree are the same
use Rattle.std.specs.Prelude.{◌≡◌, ℕ, ◌≤◌, true, ◌≢◌, List, length}
use Rattle.scales.specs.Semiring.{Semiring, Laws}
use Rattle.contest.specs.Contest.{Contest}
use Rattle.contest.specs.Total.{total}
use Rattle.scales.specs.Count.{counts}

-- The same bids stand, and the same pairs of standing bids clash.
pub record Same (c d : Contest) : Type 0 where
  pub count : c.count ≡ d.count
  pub stands : (b : ℕ) → 1 ≤ b → b ≤ c.count → c.stands b ≡ d.stands b
  pub clash : (a b : ℕ) → 1 ≤ a → a ≤ c.count → 1 ≤ b → b ≤ c.count → a ≢ b → c.stands a ≡ true → c.stands b ≡ true → c.clash a b ≡ d.clash a b

abbrev pub Symmetric : Contest → Type 0
Symmetric c = (a b : ℕ) → c.clash a b ≡ c.clash b a

-- The totals agree for every list of worths, one for each bid.
abbrev pub Agree : {M : Type 0} → Semiring M → Contest → Contest → Type 0
Agree {M} r c d = (ws : List M) → length ws ≡ c.count → total r c ws ≡ total r d ws

-- In every lawful scale the same contests have the same totals.
abbrev pub SameAgree : {M : Type 0} → Semiring M → Type 0
SameAgree r = Laws r → (c d : Contest) → Same c d → Agree r c d

-- The counts alone tell two contests apart.
abbrev pub AgreeSame : Type 0
AgreeSame = (c d : Contest) → Symmetric c → Symmetric d → c.count ≡ d.count → Agree counts c d → Same c d
