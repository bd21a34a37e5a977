use Rattle.std.proofs.Common.{◌≡◌, ℕ, ◌<◌, get_or}
use Rattle.nest.proofs.totals.clear.Given as goal

abbrev pub invariant-loop-place : goal.invariant-loop-place
invariant-loop-place g l = (k : ℕ) (d : _) → k < l.place-index → g.S.Scale.meaning (get_or l.places k d) ≡ g.S.Scale.ring.unit
