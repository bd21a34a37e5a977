-- What a mask's answers are, from its number.
use Rattle.std.specs.Prelude.{◌≡◌, ℕ, zero, suc, ◌+◌, ◌-◌, ◌/◌, ◌%◌, ◌^◌, ◌<◌, ◌≤◌, min, Bool, true, false, cond, ◌&&◌, ◌⊎◌, ◌==◌, ◌≢◌, bit_and, nat_eq, nat_le, refl}
use Rattle.std.proofs.Common.{sym, ap, ap₂, ◌∙◌, subst, inl, inr, arith, one-add, add-one, zero-add, lt_of_lt_of_le, mod-eq_of_lt, pow_pos, pow_mono}
use Rattle.std.specs.Int.Bits.{and_step}
use Rattle.std.proofs.Math.Nat.{zero-div}
use Rattle.std.specs.Int.Count.{ones}
use Rattle.std.proofs.lemmas.Nat.{shr-shr, shr_le, mod-pow-add, shr_below, mod_below, and_shr, and_le_l, ones_cat}
use Rattle.std.proofs.lemmas.Bool.{false≢true, leb-true, le-leb, eqb-true, eq-eqb, and_parts, and_from, cases_lt, cond-true, cond-false, ne_eqb}
use Rattle.packages.specs.Lots.{mask_lots, digit, has, count, within, apart, empty, fits_in, size_of}
use Rattle.packages.specs.Sets.{Has}
use Rattle.packages.specs.SetsLemmas.{same_tests, has_parts, has_from, within_says, within_from, apart_says, apart_from, empty_says, lot_of, fits_says, fits_from}

-- the digits of half a number are the next digits
digit_half : (n i : ℕ) → digit i (n / 2) ≡ digit (suc i) n
digit_half n i = ap (λ x. x % 2) (shr-shr n 1 i ∙ ap (λ j. n / 2 ^ j) (one-add i))

digit_small : (i n : ℕ) → digit i n < 2
digit_small i n = mod_below (n / 2 ^ i) 2 (omega arith)

-- numbers with the same digits are equal
same_digits : (d m n : ℕ) → m < 2 ^ d → n < 2 ^ d → ((i : ℕ) → i < d → digit i m ≡ digit i n) → m ≡ n
same_digits zero m n h k same = omega (arith, h, k)
same_digits (suc d) m n h k same =
    let halves = same_digits d (m / 2) (n / 2) (shr_below m d 1 (rw add-one h)) (shr_below n d 1 (rw add-one k)) (λ i l. digit_half m i ∙ same (suc i) (omega arith) ∙ sym (digit_half n i)) in
    let low : m % 2 ≡ n % 2 = omega (arith, same 0 (omega arith)) in
    omega arith

pub digit_and : (i m n : ℕ) → digit i (bit_and m n) ≡ min (digit i m) (digit i n)
digit_and i m n =
    ap (λ x. x % 2) (and_shr m n i ∙ and_step (m / 2 ^ i) (n / 2 ^ i)) ∙ omega arith

digit_zero : (i : ℕ) → digit i 0 ≡ 0
digit_zero i = ap (λ x. x % 2) (zero-div (2 ^ i))

-- no digit stands past a number's length
digit_past : (n i d : ℕ) → n < 2 ^ d → d ≤ i → digit i n ≡ 0
digit_past n i d h l =
    let none = shr_below n 0 i (lt_of_lt_of_le h (rw zero-add (pow_mono l))) in
    omega (arith, none)

pub mask_has : (n k : ℕ) → Has (mask_lots n) k → (1 ≤ k) × (k ≤ 64) × (digit (k - 1) n ≡ 1)
mask_has n k h =
    let p = has_parts (mask_lots n) k h in
    let q = and_parts (nat_le 1 k) (digit (k - 1) n == 1) p.1 in
    (leb-true 1 k q.0, p.0, eqb-true (digit (k - 1) n) 1 q.1)

pub mask_in : (n i : ℕ) → i < 64 → digit i n ≡ 1 → Has (mask_lots n) (suc i)
mask_in n i h e =
    let back : suc i - 1 ≡ i = omega arith in
    has_from (mask_lots n) (suc i) h
    (and_from (nat_le 1 (suc i)) (digit (suc i - 1) n == 1) (le-leb 1 (suc i) (omega arith)) (eq-eqb (digit (suc i - 1) n) 1 (ap (λ j. digit j n) back ∙ e)))

module _ (m n : ℕ) (short : m < 2 ^ 64) where
  pub mask_within : nat_eq (bit_and m n) m ≡ within (mask_lots m) (mask_lots n)
  mask_within = same_tests (bit_and m n == m) (within (mask_lots m) (mask_lots n)) there back
    where
      there : nat_eq (bit_and m n) m ≡ true → within (mask_lots m) (mask_lots n) ≡ true
      there e =
          let same = eqb-true (bit_and m n) m e in
          within_from (mask_lots m) (mask_lots n) (λ k h.
          let r = mask_has m k h in
          let both : min (digit (k - 1) m) (digit (k - 1) n) ≡ digit (k - 1) m = sym (digit_and (k - 1) m n) ∙ ap (digit (k - 1)) same in
          let one : digit (k - 1) n ≡ 1 = omega (arith, both, r.2, digit_small (k - 1) n) in
          let again : suc (k - 1) ≡ k = omega (arith, r.0) in
          subst (λ j. Has (mask_lots n) j) again (mask_in n (k - 1) (omega (arith, r.0, r.1)) one))

      back : within (mask_lots m) (mask_lots n) ≡ true → (bit_and m n == m) ≡ true
      back e =
          let all = within_says (mask_lots m) (mask_lots n) e in
          eq-eqb (bit_and m n) m (same_digits 64 (bit_and m n) m (omega (arith, and_le_l m n)) short (λ i l. digit_and i m n ∙ go all i l (cases_lt 0 (digit i m))))
        where
          go : ((k : ℕ) → Has (mask_lots m) k → Has (mask_lots n) k) → (i : ℕ) → i < 64 → (0 < digit i m) ⊎ (digit i m ≤ 0) → min (digit i m) (digit i n) ≡ digit i m
          go all i l (inl some) =
              let one : digit i m ≡ 1 = omega (arith, digit_small i m) in
              let r = mask_has n (suc i) (all (suc i) (mask_in m i l one)) in
              let back : suc i - 1 ≡ i = omega arith in
              let other : digit i n ≡ 1 = ap (λ j. digit j n) (sym back) ∙ r.2 in
              omega arith
          go all i l (inr none) = omega arith

  pub mask_apart : nat_eq (bit_and m n) 0 ≡ apart (mask_lots m) (mask_lots n)
  mask_apart = same_tests (bit_and m n == 0) (apart (mask_lots m) (mask_lots n)) there back
    where
      there : nat_eq (bit_and m n) 0 ≡ true → apart (mask_lots m) (mask_lots n) ≡ true
      there e =
          let none = eqb-true (bit_and m n) 0 e in
          apart_from (mask_lots m) (mask_lots n) (λ k h h'.
          let r = mask_has m k h in
          let r' = mask_has n k h' in
          let both : min (digit (k - 1) m) (digit (k - 1) n) ≡ 0 = sym (digit_and (k - 1) m n) ∙ ap (digit (k - 1)) none ∙ digit_zero (k - 1) in
          omega (arith, both, r.2, r'.2))

      back : apart (mask_lots m) (mask_lots n) ≡ true → (bit_and m n == 0) ≡ true
      back e =
          let never = apart_says (mask_lots m) (mask_lots n) e in
          eq-eqb (bit_and m n) 0 (same_digits 64 (bit_and m n) 0 (omega (arith, and_le_l m n)) (omega arith)
          (λ i l. digit_and i m n ∙ go never i l (cases_lt 0 (digit i m)) (cases_lt 0 (digit i n)) ∙ sym (digit_zero i)))
        where
          go : ((k : ℕ) → Has (mask_lots m) k → Has (mask_lots n) k → ⊥) → (i : ℕ) → i < 64
              → (0 < digit i m) ⊎ (digit i m ≤ 0) → (0 < digit i n) ⊎ (digit i n ≤ 0) → min (digit i m) (digit i n) ≡ 0
          go never i l (inl a) (inl b) = absurd (never (suc i) (mask_in m i l (omega (arith, digit_small i m))) (mask_in n i l (omega (arith, digit_small i n))))
          go never i l (inl a) (inr b) = omega arith
          go never i l (inr a) b = omega arith

-- ---- the number of lots

flag : (x : ℕ) → x < 2 → cond (x == 1) 1 0 ≡ x
flag x h =
    elim (cases_lt 0 x) [
      | inl some ↦ let one : x ≡ 1 = omega arith in cond-true (x == 1) 1 0 (eq-eqb x 1 one) ∙ sym one
      | inr none ↦ let no_one : x ≡ 1 → ⊥ = omega arith in cond-false (x == 1) 1 0 (ne_eqb x 1 no_one) ∙ omega arith
    ]

ones_digit : (x : ℕ) → x < 2 → ones x ≡ x
unfolding ones
ones_digit x h =
    elim (cases_lt 0 x) [
      | inl some ↦ let one : x ≡ 1 = omega arith in ap ones one ∙ sym one
      | inr none ↦ let nil : x ≡ 0 = omega arith in ap ones nil ∙ sym nil
    ]

counted : (n d : ℕ) → d ≤ 64 → count (has (mask_lots n)) d ≡ ones (n % 2 ^ d)
unfolding count has ones
counted n zero h = let nil : n % 1 ≡ 0 = omega arith in sym (ap ones nil)
counted n (suc d) h =
    let rest = counted n d (omega arith) in
    let back : suc d - 1 ≡ d = omega arith in
    let here : cond (has (mask_lots n) (suc d)) 1 0 ≡ digit d n =
    ap₂ (λ x y. cond (x && (y && digit (suc d - 1) n == 1)) 1 0) (le-leb (suc d) 64 h) (le-leb 1 (suc d) (omega arith))
    ∙ ap (λ j. cond (digit j n == 1) 1 0) back ∙ flag (digit d n) (digit_small d n) in
    ap₂ (λ x y. x + y) here rest
    ∙ ap (λ x. x + ones (n % 2 ^ d)) (sym (ones_digit (digit d n) (digit_small d n)))
    ∙ sym (ones_cat d (digit d n) (n % 2 ^ d) (mod_below n (2 ^ d) (pow_pos d)))
    ∙ ap ones (sym (ap (λ j. n % 2 ^ j) (sym (one-add d)) ∙ mod-pow-add n 1 d))

pub mask_size : (n : ℕ) → n < 2 ^ 64 → size_of (mask_lots n) ≡ ones n
unfolding size_of
mask_size n h = counted n 64 (omega arith) ∙ ap ones (mod-eq_of_lt h)

-- ---- whether the lots fit

module _ (n : ℕ) (short : n < 2 ^ 64) where
  some_lot : (n ≢ 0) → (k : ℕ) × Has (mask_lots n) k
  some_lot ne = go (empty (mask_lots n)) refl
    where
      go : (x : Bool) → empty (mask_lots n) ≡ x → (k : ℕ) × Has (mask_lots n) k
      go true e =
          let nil : n ≡ 0 = same_digits 64 n 0 short (omega arith) (λ i l.
          elim (cases_lt 0 (digit i n)) [
            | inl some ↦ absurd (empty_says (mask_lots n) e (suc i) (mask_in n i l (omega (arith, digit_small i n))))
            | inr none ↦ let z : digit i n ≡ 0 = omega arith in z ∙ sym (digit_zero i)
          ]) in
          absurd (ne nil)
      go false e = lot_of (mask_lots n) e

  pub mask_fits : (l : ℕ) → (n ≢ 0) → (n / 2 ^ l == 0) ≡ fits_in l (mask_lots n)
  mask_fits l ne = same_tests (n / 2 ^ l == 0) (fits_in l (mask_lots n)) there back
    where
      past : (j : ℕ) → digit j (n / 2 ^ l) ≡ digit (l + j) n
      past j = ap (λ x. x % 2) (shr-shr n l j)

      there : nat_eq (n / 2 ^ l) 0 ≡ true → fits_in l (mask_lots n) ≡ true
      there e =
          let none = eqb-true (n / 2 ^ l) 0 e in
          fits_from l (mask_lots n) (
            some_lot ne,
            λ k h.
                let r = mask_has n k h in (
                  r.0,
                  elim (cases_lt l k) [
                    | inr le ↦ le
                    | inl lt ↦
                        let at : l + (k - 1 - l) ≡ k - 1 = omega arith in
                        let zero_digit : digit (k - 1) n ≡ 0 = ap (λ i. digit i n) (sym at) ∙ sym (past (k - 1 - l)) ∙ ap (digit (k - 1 - l)) none ∙ digit_zero (k - 1 - l) in
                        absurd (omega (arith, r.2, zero_digit))
                  ],
                ),
          )

      back : fits_in l (mask_lots n) ≡ true → (n / 2 ^ l == 0) ≡ true
      back e =
          let f = fits_says l (mask_lots n) e in
          eq-eqb (n / 2 ^ l) 0 (same_digits 64 (n / 2 ^ l) 0 (omega (arith, shr_le n l)) (omega arith) (λ j w. past j ∙ go f.1 j (cases_lt (l + j) 64) (cases_lt 0 (digit (l + j) n)) ∙ sym (digit_zero j)))
        where
          go : ((k : ℕ) → Has (mask_lots n) k → (1 ≤ k) × (k ≤ l)) → (j : ℕ) → (l + j < 64) ⊎ (64 ≤ l + j) → (0 < digit (l + j) n) ⊎ (digit (l + j) n ≤ 0) → digit (l + j) n ≡ 0
          go within j (inl lt) (inl some) = absurd (omega (arith, (within (suc (l + j)) (mask_in n (l + j) lt (omega (arith, digit_small (l + j) n)))).1))
          go within j (inl lt) (inr none) = omega arith
          go within j (inr le) some = digit_past n (l + j) 64 short le

pub mask_empty : (l : ℕ) → fits_in l (mask_lots 0) ≡ false
mask_empty l =
    sym (same_tests false (fits_in l (mask_lots 0)) (λ e. absurd (false≢true e)) (λ e.
    let f = fits_says l (mask_lots 0) e in
    absurd (omega (arith, (mask_has 0 f.0.0 f.0.1).2, digit_zero (f.0.0 - 1)))))
