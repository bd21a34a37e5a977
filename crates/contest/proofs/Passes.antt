-- The passes down a nest, over flags and bytes, and sums over marked bids.
use Rattle.std.proofs.Common.{◌≡◌, ℕ, suc, ◌+◌, ◌-◌, ◌<◌, ◌≤◌, Bool, true, false, cond, not, ◌&&◌, ◌||◌, eqb, List, length, get_or, set, sym, refl, ap, ◌∙◌, ap₂, ⊎_elim, arith, length-set, get_or-set_other, get_or-set_same}
use mir.Val.{bool_byte}
use Rattle.std.proofs.lemmas.Bool.{cases_eq, eq-eqb, or_left}
use Rattle.contest.specs.Contest.{Bids, sum_over}
use Rattle.contest.specs.Nest.{Falling}
use Rattle.contest.specs.Descent.{item, flag, Descends, taken, Marks, marked}
use Rattle.contest.proofs.Sums.{sum_same}

module _ (count : ℕ) (on low : ℕ → ℕ) (parent : ℕ → ℕ) (falls : Falling parent) where
  -- What the flag of package g is to be.
  abbrev pub to_be : List Bool → ℕ → Bool
  to_be o g = eqb (parent g) 0 || (flag o (parent g) && not (taken count on low (parent g)))

  -- It depends on the flags before g only.
  to_be_same : (o : List Bool) (i : ℕ) (r : Bool) (g : ℕ) → 1 ≤ g → g ≤ i + 1 → to_be (set o i r) g ≡ to_be o g
  to_be_same o i r g p q =
      let b : parent g ≤ g - 1 = omega (arith, falls g) in
      ⊎_elim
      (λ z. (let t = eq-eqb (parent g) 0 z in or_left _ _ t ∙ sym (or_left _ _ t)))
      (λ z. ap (λ w. eqb (parent g) 0 || (w && not (taken count on low (parent g)))) (get_or-set_other o i (parent g - 1) r false (λ e. omega arith)))
      (cases_eq (parent g) 0)

  pub descends_more : (o : List Bool) (i : ℕ) (r : Bool) → i < length o → Descends count i on parent low (flag o) → r ≡ to_be o (i + 1) → Descends count (i + 1) on parent low (flag (set o i r))
  descends_more o i r m inv e g p q =
      ⊎_elim
      (λ d. (let z : g - 1 ≡ i = omega arith in ap (λ j. get_or (set o i r) j false) z ∙ get_or-set_same o i r false m ∙ e ∙ ap (to_be o) (sym d)) ∙ sym (to_be_same o i r g p q))
      (λ d. get_or-set_other o i (g - 1) r false (λ z. omega arith) ∙ inv g p (omega arith) ∙ sym (to_be_same o i r g p q))
      (cases_eq g (i + 1))

-- One number more in a sum.
sum_over_more : (n : ℕ) (s : Bids) (f : ℕ → ℕ) → sum_over (n + 1) s f ≡ sum_over n s f + cond (s (n + 1)) (f (n + 1)) 0
sum_over_more n s f = (let e : n + 1 ≡ suc n = omega arith in ap (λ m. sum_over m s f) e ∙ ap (λ m. sum_over n s f + cond (s m) (f m) 0) (sym e))

pub item_next : (xs : List ℕ) (n : ℕ) → item xs (n + 1) ≡ get_or xs n 0
item_next xs n = (let e : n + 1 - 1 ≡ n = omega arith in ap (λ i. get_or xs i 0) e)

pub sum_more : (n : ℕ) (s : Bids) (f : ℕ → ℕ) (a v : ℕ) → a ≡ sum_over n s f → v ≡ cond (s (n + 1)) (f (n + 1)) 0 → a + v ≡ sum_over (n + 1) s f
sum_more n s f a v e h = ap₂ ◌+◌ e h ∙ sym (sum_over_more n s f)

pub byte_is : (b : Bool) → bool_byte b ≡ cond b 1 0
byte_is true = refl
byte_is false = refl

-- One byte more.
pub marks_more : (n : ℕ) (s : Bids) (before out : List ℕ) (r : Bool) → n < length out → Marks n s before out → r ≡ s (n + 1) → Marks (n + 1) s before (set out n (bool_byte r))
marks_more n s before out r l m e =
    record {
      same_length = length-set out n (bool_byte r) ∙ m.same_length;
      bytes =
          λ k p q.
          ⊎_elim
          (λ d. (let z : k - 1 ≡ n = omega arith in ap (λ i. get_or (set out n (bool_byte r)) i 0) z ∙ get_or-set_same out n (bool_byte r) 0 l ∙ byte_is r ∙ ap (λ (b : Bool). cond b 1 0) (e ∙ ap s (sym d))))
          (λ d. get_or-set_other out n (k - 1) (bool_byte r) 0 (λ z. omega arith) ∙ m.bytes k p (omega arith))
          (cases_eq k (n + 1));
      further = λ i h. get_or-set_other out n i (bool_byte r) 0 (λ z. omega arith) ∙ m.further i (omega arith);
    }

-- The bids that the bytes mark are those of the set.
pub marked_is : (n : ℕ) (s : Bids) (before marks : List ℕ) → Marks n s before marks → (k : ℕ) → 1 ≤ k → k ≤ n → marked marks k ≡ s k
marked_is n s before marks m k low high = ap (λ v. eqb v 1) (m.bytes k low high) ∙ byte (s k)
  where
    byte : (w : Bool) → eqb (cond w 1 0) 1 ≡ w
    byte true = refl
    byte false = refl

-- So a sum over them is one over the set.
pub sum_marked : (n : ℕ) (s : Bids) (before marks : List ℕ) (f : ℕ → ℕ) → Marks n s before marks → sum_over n (marked marks) f ≡ sum_over n s f
sum_marked n s before marks f m =
    sum_same n (λ k. cond (marked marks k) (f k) 0) (λ k. cond (s k) (f k) 0) (λ k p q. ap (λ (w : Bool). cond w (f k) 0) (marked_is n s before marks m k p q))
