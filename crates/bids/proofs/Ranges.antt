-- What it means that a number lies between two others.
use Rattle.std.proofs.Common.{◌≡◌, ℕ, ◌≤◌, true, false, leb, sym, ◌∙◌}
use Rattle.std.proofs.lemmas.Bool.{and_from, and_parts, le-leb, leb-true, true≢false}
use Rattle.bids.specs.Limits.{from_to}

pub between : (low high n : ℕ) → from_to low high n ≡ true → (low ≤ n) × (n ≤ high)
between low high n e = let p = and_parts (leb low n) (leb n high) e in (leb-true low n p.0, leb-true n high p.1)

pub from_between : (low high n : ℕ) → (low ≤ n) × (n ≤ high) → from_to low high n ≡ true
from_between low high n h = and_from (leb low n) (leb n high) (le-leb low n h.0) (le-leb n high h.1)

pub not_between : (low high n : ℕ) → from_to low high n ≡ false → (low ≤ n) × (n ≤ high) → ⊥
not_between low high n e h = true≢false (sym (from_between low high n h) ∙ e)
