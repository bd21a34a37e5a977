-- The number that digits say, added up digit by digit from the left.
use Rattle.std.proofs.Common.{◌≡◌, ℕ, zero, suc, ◌+◌, ◌-◌, ◌*◌, ◌^◌, ◌<◌, ◌≤◌, List, [], ◌∷◌, length, get_or, take, sym, ap, ◌∙◌, arith}
use Rattle.std.proofs.Math.Nat.{pow-le-pow_right, pow-suc}
use Rattle.std.specs.List.{fold}
use Rattle.lines.specs.Kinds.{Digit, Numeral, value}

-- one digit more
abbrev pub more : ℕ → ℕ → ℕ
more n d = n * 10 + (d - 48)

shifted : (n e p v : ℕ) → (n * 10 + e) * p + v ≡ n * (p * 10) + (e * p + v)
shifted n e p v = omega arith

fold_more : (n : ℕ) (ds : List ℕ) → fold more n ds ≡ n * 10 ^ length ds + value ds
fold_more n [] = omega arith
fold_more n (d ∷ ds) =
    fold_more (more n d) ds ∙ shifted n (d - 48) (10 ^ length ds) (value ds) ∙ ap (λ p. n * p + value (d ∷ ds)) (sym (pow-suc 10 (length ds)))

pub value_by_fold : (ds : List ℕ) → fold more 0 ds ≡ value ds
value_by_fold ds = omega (arith, fold_more 0 ds)

below_more : (n e p : ℕ) → e ≤ 9 → (n * 10 + e + 1) * p ≤ (n + 1) * (p * 10)
below_more n e p h = grind arith

below_power : (n : ℕ) (ds : List ℕ) → ((k : ℕ) → k < length ds → Digit (get_or ds k 0)) → (k : ℕ) → k ≤ length ds → fold more n (take k ds) < (n + 1) * 10 ^ k
below_power n ds h zero le = omega arith
below_power n [] h (suc k) le = absurd (omega arith)
below_power n (d ∷ ds) h (suc k) le =
    let digit = h 0 (omega arith) in
    let later : fold more n (d ∷ take k ds) < (n * 10 + (d - 48) + 1) * 10 ^ k = below_power (more n d) ds (λ j lt. h (suc j) (omega arith)) k (omega arith) in
    let power = below_more n (d - 48) (10 ^ k) (omega arith) in
    rw (pow-suc 10 k) (omega arith)

-- the digits before one of the digits
pub before_digit : (ds : List ℕ) (k : ℕ) → Numeral ds → k < length ds → fold more 0 (take k ds) < 10 ^ 9
before_digit ds k h lt =
    let few : k ≤ 9 = omega (arith, h.few) in
    let power : 10 ^ k ≤ 10 ^ 9 = pow-le-pow_right (omega arith) few in
    omega (arith, below_power 0 ds h.digits k (omega arith))
