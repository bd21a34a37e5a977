-- The part of an award that passes a test is the award of the bids that pass it, if it can be exchanged for any other clash-free set of those.
use Rattle.std.proofs.Common.{◌≡◌, ℕ, ◌+◌, ◌≤◌, Bool, true, false, cond, not, ◌&&◌, ◌⊎◌, sym, refl, ap, ◌∙◌, inl, inr, ⊎_elim, arith}
use mathlib.Core.Path.{fun_ext}
use Rattle.std.proofs.lemmas.Bool.{cases_Bool, cases_order, both_ways, and_parts, and_from, cond-true, cond-false}
use Rattle.contest.specs.Contest.{Contest, Bids, sum_over, Numbered, ClashFree, IsAward, revenue, award, only, Preferred}
use Rattle.contest.specs.Descent.{IsBest, IsLowest}
use Rattle.contest.proofs.Sums.{sum_same, sum_plus}
use Rattle.contest.proofs.Awarding.{award_is}
use Rattle.contest.proofs.Charging.{sum_split}

-- The members of s that pass the test p.
abbrev pub keep : (ℕ → Bool) → Bids → Bids
keep p s k = s k && p k

-- The members of t where p holds, those of s elsewhere.
abbrev pub exchange : (ℕ → Bool) → Bids → Bids → Bids
exchange p t s k = cond (p k) (t k) (s k)

pub only_passes : (c : Contest) (p : ℕ → Bool) (s : Bids) → ClashFree (only c p) s → (k : ℕ) → s k ≡ true → p k ≡ true
only_passes c p s f k h = (and_parts (c.stands k) (p k) (f.standing k h)).1

pub only_free : (c : Contest) (p : ℕ → Bool) (s : Bids) → ClashFree (only c p) s → ClashFree c s
only_free c p s f = record { numbered = f.numbered; standing = λ k h. (and_parts (c.stands k) (p k) (f.standing k h)).0; apart = f.apart }

pub keep_free : (c : Contest) (p : ℕ → Bool) (s : Bids) → ClashFree c s → ClashFree (only c p) (keep p s)
keep_free c p s f =
    record {
      numbered = λ k h. f.numbered k (and_parts (s k) (p k) h).0;
      standing = λ k h. and_from (c.stands k) (p k) (f.standing k (and_parts (s k) (p k) h).0) (and_parts (s k) (p k) h).1;
      apart = λ j k l g h. f.apart j k l (and_parts (s j) (p j) g).0 (and_parts (s k) (p k) h).0;
    }

-- What the exchange fetches.
cond_exchange : (x y q : Bool) (v : ℕ) → (y ≡ true → q ≡ true) → cond (cond q y x) v 0 ≡ cond y v 0 + cond (x && not q) v 0
cond_exchange true true true v h = omega arith
cond_exchange true true false v h = absurd (both_ways false refl (h refl))
cond_exchange true false true v h = omega arith
cond_exchange true false false v h = omega arith
cond_exchange false true true v h = omega arith
cond_exchange false true false v h = absurd (both_ways false refl (h refl))
cond_exchange false false true v h = omega arith
cond_exchange false false false v h = omega arith

exchange_sum : (n : ℕ) (p : ℕ → Bool) (t s : Bids) (f : ℕ → ℕ) → ((k : ℕ) → t k ≡ true → p k ≡ true) → sum_over n (exchange p t s) f ≡ sum_over n t f + sum_over n (λ k. s k && not (p k)) f
exchange_sum n p t s f h =
    sum_same n (λ k. cond (exchange p t s k) (f k) 0) (λ k. cond (t k) (f k) 0 + cond (s k && not (p k)) (f k) 0) (λ k _ _. cond_exchange (s k) (t k) (p k) (f k) (h k)) ∙ sum_plus n (λ k. cond (t k) (f k) 0) (λ k. cond (s k && not (p k)) (f k) 0)

-- At a number that passes the test the two sets are the whole ones, elsewhere they are empty.
same_part : (p : ℕ → Bool) (t s : Bids) → ((k : ℕ) → t k ≡ true → p k ≡ true) → (k : ℕ) → s k ≡ exchange p t s k → keep p s k ≡ t k
same_part p t s h k e = go (p k) (t k) (s k) (h k) e
  where
    go : (q y x : Bool) → (y ≡ true → q ≡ true) → x ≡ cond q y x → (x && q) ≡ y
    go true y true g d = d
    go true y false g d = d
    go false true x g d = absurd (both_ways false refl (g refl))
    go false false true g d = refl
    go false false false g d = refl

module _ (c : Contest) (p : ℕ → Bool) (a : Bids) (w : IsAward c a) (may : (t : Bids) → ClashFree (only c p) t → ClashFree c (exchange p t a)) where
  passes : (t : Bids) → ClashFree (only c p) t → (k : ℕ) → t k ≡ true → p k ≡ true
  passes t f k h = only_passes c p t f k h

  rest : ℕ
  rest = sum_over c.count (λ k. a k && not (p k)) c.price

  award_sum : revenue c a ≡ revenue c (keep p a) + rest
  unfolding rest
  award_sum = sum_split c.count a p c.price

  exchanged_sum : (t : Bids) → ClashFree (only c p) t → revenue c (exchange p t a) ≡ revenue c t + rest
  unfolding rest
  exchanged_sum t f = exchange_sum c.count p t a c.price (passes t f)

  part_preferred : (t : Bids) → ClashFree (only c p) t → (exchange p t a ≡ a) ⊎ Preferred a (exchange p t a) → (t ≡ keep p a) ⊎ Preferred (keep p a) t
  part_preferred t f (inl e) = inl (fun_ext (λ k. sym (same_part p t a (passes t f) k (sym (ap (λ (s : Bids). s k) e)))))
  part_preferred t f (inr q) =
      let k = q.0 in
      let pk : p k ≡ true = at k q.1 q.2 in
      inr (k, and_from (a k) (p k) q.1 pk, sym (cond-true (p k) (t k) (a k) pk) ∙ q.2, λ j l. same_part p t a (passes t f) j (q.3 j l))
    where
      at : (k : ℕ) → a k ≡ true → exchange p t a k ≡ false → p k ≡ true
      at k x y = ⊎_elim (λ e. e) (λ e. absurd (both_ways (a k) (sym (cond-false (p k) (t k) (a k) e) ∙ y) x)) (cases_Bool (p k))

  pub part_is_award : IsAward (only c p) (keep p a)
  part_is_award =
      record {
        clash_free = keep_free c p a w.clash_free;
        greatest =
            λ t f.
            (let l = w.greatest (exchange p t a) (may t f) in
            let x = award_sum in
            let y = exchanged_sum t f in
            omega arith);
        preferred =
            λ t f e.
            (let x = award_sum in
            let y = exchanged_sum t f in
            part_preferred t f (w.preferred (exchange p t a) (may t f) (omega arith)));
      }

-- The lowest number in any best set is in the award.
pub best_award : (c : Contest) → IsBest c (award c)
best_award c = record { clash_free = (award_is c).clash_free; revenue_is = refl }

pub lowest_wins : (c : Contest) (f : ℕ) → IsLowest c f → Numbered c f → award c f ≡ true
lowest_wins c f low n =
    let r = low.reached n in
    let s = r.0 in
    ⊎_elim (λ e. sym (ap (λ (u : Bids). u f) e) ∙ r.2) (λ q. go s r.2 q (low.least (award c) (best_award c) q.0 q.1).1) ((award_is c).preferred s r.1.clash_free r.1.revenue_is)
  where
    go : (s : Bids) → s f ≡ true → (q : Preferred (award c) s) → f ≤ q.0 → award c f ≡ true
    go s h q l =
        elim (cases_order f q.0) [
          | inl e ↦ absurd (both_ways (s f) (ap s e ∙ q.2) h)
          | inr (inl d) ↦ q.3 f d ∙ h
          | inr (inr d) ↦ absurd (omega arith)
        ]
