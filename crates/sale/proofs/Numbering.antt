-- The entry of a list with a number.
use Rattle.std.proofs.Common.{◌≡◌, ℕ, zero, suc, ◌-◌, ◌≤◌, List, length, get_or, unwrap_or, inl, inr, Some, None, Option, refl, ap, ◌∙◌, arith}
use Rattle.std.proofs.lemmas.Option.{slice_get_past, unwrap_or-slice_get}
use Rattle.std.specs.List.{slice_get}
use Rattle.std.specs.Option.{option_flatten}
use Rattle.std.proofs.lemmas.Bool.{cases_lt}
use Rattle.sale.specs.Questions.{numbered}

flat_is : {X : Type 0} (o : Option (Option X)) → option_flatten o ≡ unwrap_or o None
flat_is None = refl
flat_is (Some x) = refl

-- an entry that may be none, read from a list that may be too short
pub flat_at : {X : Type 0} (xs : List (Option X)) (n : ℕ) → 1 ≤ n → option_flatten (numbered xs n) ≡ get_or xs (n - 1) None
flat_at xs zero low = absurd (omega arith)
flat_at xs (suc n) low =
    let at : n ≡ suc n - 1 = omega arith in
    flat_is (slice_get xs n) ∙ unwrap_or-slice_get xs n None ∙ ap (λ i. get_or xs i None) at

pub flat_past : {X : Type 0} (xs : List (Option X)) (n : ℕ) → ((1 ≤ n) × (n ≤ length xs) → ⊥) → option_flatten (numbered xs n) ≡ None
flat_past xs zero none = refl
flat_past xs (suc n) none =
    let past : length xs ≤ n = elim (cases_lt n (length xs)) [ inl lt ↦ absurd (none (omega arith, omega arith)) | inr ge ↦ omega arith ] in
    ap option_flatten (slice_get_past xs n past)
