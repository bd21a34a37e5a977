-- A row is decoded as the one line that it is.
use Rattle.std.proofs.Common.{◌≡◌, ℕ, zero, suc, ◌<◌, true, false, List, [], ◌∷◌, ◌++◌, length, get_or, sym, refl, ap, ◌∙◌, subst, arith, rules, tests}
use Rattle.std.proofs.lemmas.Bool.Decides.{nat_tests}
use Rattle.std.proofs.lemmas.Bool.{cond-false, ne_eqb}
use Rattle.lines.specs.Kinds.{Kind, bid, written, Proper, Spells, Numeral, Digit}
use Rattle.lines.specs.Rows.{Row, content, Tells, Illegible}
use Rattle.lines.specs.Decode.{upto, past, decoded, same_bytes, all_digits, is_numeral, is_proper, kind, legible, Decodes}
use Rattle.lines.proofs.Texts.{no_space}

abbrev NoSpace : List ℕ → Type 0
NoSpace n = (k : ℕ) → k < length n → get_or n k 0 ≡ 32 → ⊥

upto_is : (n p : List ℕ) → NoSpace n → upto (n ++ (32 ∷ p)) ≡ n
unfolding upto
upto_is [] p h = refl
upto_is (b ∷ n) p h = cond-false _ _ _ (ne_eqb b 32 (h 0 (omega arith))) ∙ ap (λ l. b ∷ l) (upto_is n p (λ k lt e. h (suc k) (omega arith) e))

past_is : (n p : List ℕ) → NoSpace n → past (n ++ (32 ∷ p)) ≡ p
unfolding past
past_is [] p h = refl
past_is (b ∷ n) p h = cond-false _ _ _ (ne_eqb b 32 (h 0 (omega arith))) ∙ past_is n p (λ k lt e. h (suc k) (omega arith) e)

decodes : (k : Kind) → Proper k → decoded (written k) ≡ k
unfolding decoded
decodes (bid n p) h = λ i. bid (upto_is n p (no_space n h.0) i) (past_is n p (no_space n h.0) i)
decodes _ h = refl

spells_one : (bs : List ℕ) (k k' : Kind) → Spells bs k → Spells bs k' → k ≡ k'
spells_one bs k k' h h' = sym (decodes k h.1) ∙ ap decoded (sym h.0 ∙ h'.0) ∙ decodes k' h'.1

pub tells_one : (row : Row) (k k' : Kind) → Tells row k → Tells row k' → k ≡ k'
tells_one row k k' h h' = spells_one _ k k' h.1 h'.1

-- the tests

same_bytes_true : (bs cs : List ℕ) → same_bytes bs cs ≡ true → bs ≡ cs
unfolding same_bytes
same_bytes_true [] [] e = refl
same_bytes_true [] (c ∷ cs) e = cc
same_bytes_true (b ∷ bs) [] e = cc
same_bytes_true (b ∷ bs) (c ∷ cs) e = let h = same_bytes_true bs cs in grind (arith, nat_tests)

same_bytes_refl : (bs : List ℕ) → same_bytes bs bs ≡ true
unfolding same_bytes
same_bytes_refl [] = refl
same_bytes_refl (b ∷ bs) = let h = same_bytes_refl bs in grind (arith, nat_tests)

digits_true : (ds : List ℕ) → all_digits ds ≡ true → (k : ℕ) → k < length ds → Digit (get_or ds k 0)
unfolding all_digits
digits_true [] e k lt = absurd (omega arith)
digits_true (d ∷ ds) e zero lt = search (rules, tests)
digits_true (d ∷ ds) e (suc k) lt = digits_true ds (grind (arith, nat_tests)) k (omega arith)

digits_from : (ds : List ℕ) → ((k : ℕ) → k < length ds → Digit (get_or ds k 0)) → all_digits ds ≡ true
unfolding all_digits
digits_from [] h = refl
digits_from (d ∷ ds) h =
    let first = h 0 (omega arith) in
    let others = digits_from ds (λ k lt. h (suc k) (omega arith)) in
    grind (arith, nat_tests)

numeral_true : (ds : List ℕ) → is_numeral ds ≡ true → Numeral ds
unfolding is_numeral
numeral_true ds e =
    record {
      some = grind (arith, nat_tests);
      few = grind (arith, nat_tests);
      digits = digits_true ds (grind (arith, nat_tests));
      leading = grind (arith, nat_tests);
    }

numeral_from : (ds : List ℕ) → Numeral ds → is_numeral ds ≡ true
unfolding is_numeral
numeral_from ds h = let digits = digits_from ds h.digits in grind (arith, nat_tests)

proper_true : (k : Kind) → is_proper k ≡ true → Proper k
unfolding is_proper
proper_true (bid n p) e = (numeral_true n (grind (arith, nat_tests)), numeral_true p (grind (arith, nat_tests)))
proper_true _ e = tt

proper_from : (k : Kind) → Proper k → is_proper k ≡ true
unfolding is_proper
proper_from (bid n p) h = let buyer = numeral_from n h.0 in let price = numeral_from p h.1 in grind (arith, nat_tests)
proper_from _ h = refl

-- the theorem

pub legible_tells : (row : Row) → legible row ≡ true → Tells row (kind row)
unfolding legible
legible_tells row e =
    (grind (arith, nat_tests), (same_bytes_true (content row.bytes) (written (kind row)) (grind (arith, nat_tests)), proper_true (kind row) (grind (arith, nat_tests))))

kind_is : (row : Row) (k : Kind) → Tells row k → kind row ≡ k
unfolding kind
kind_is row k h = ap decoded h.1.0 ∙ decodes k h.1.1

pub tells_legible : (row : Row) (k : Kind) → Tells row k → legible row ≡ true
unfolding legible
tells_legible row k h =
    let is = kind_is row k h in
    let same = ap (same_bytes (content row.bytes)) (sym (h.1.0 ∙ ap written (sym is))) ∙ same_bytes_refl (content row.bytes) in
    let proper = proper_from (kind row) (subst Proper (sym is) h.1.1) in
    grind (arith, nat_tests)

pub not_legible : (row : Row) → legible row ≡ false → Illegible row
not_legible row e k h = let legible = tells_legible row k h in cc

pub decodes_all : Decodes
decodes_all = record { line = legible_tells; only = λ row k h. (tells_legible row k h, kind_is row k h) }
