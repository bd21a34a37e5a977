-- Calls that may be refused.
--   Checked   the answer is the refusal of the first check that fails, or else a value with a property
use Rattle.std.specs.Prelude.{◌≡◌, ℕ, Some, None, Ok, Err, Option, Result}

-- Each fault has a number and a place, and `check` is that of the first check that fails. `Right` is what holds of an accepted call's value, and `Kept` what holds after a refusal.
abbrev pub Checked : {A E : Type 0} → (E → ℕ × ℕ) → Option (ℕ × ℕ) → (A → Type 0) → Type 0 → Result A E → Type 0
Checked refusal check Right Kept (Ok value) = (check ≡ None) × Right value
Checked refusal check Right Kept (Err fault) = (check ≡ Some (refusal fault)) × Kept
