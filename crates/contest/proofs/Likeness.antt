-- Contests with the same bids have the same award and charges.
use Rattle.std.proofs.Common.{◌≡◌, ℕ, ◌-◌, Bool, true, cond, not, ◌&&◌, eqb, sym, refl, ap, ◌∙◌, ap₂, arith}
use Rattle.std.proofs.lemmas.Bool.{and_parts}
use Rattle.contest.specs.Contest.{Contest, Bids, some, sum_over, Numbered, ClashFree, revenue, award, best_revenue, without, bids_of, winning_prices, charge}
use Rattle.contest.specs.Theorems.{Alike, SameOutcome}
use Rattle.contest.proofs.Sums.{sum_same, some_same}
use Rattle.contest.proofs.Awarding.{award_is, award_only}

pub alike_sym : (c d : Contest) → Alike c d → Alike d c
alike_sym c d a =
    record {
      count = sym a.count;
      buyers = λ k n. sym (a.buyers k (back k n));
      prices = λ k n. sym (a.prices k (back k n));
      standing = λ k n. sym (a.standing k (back k n));
      clashes = λ j k n m l p q. sym (a.clashes j k (back j n) (back k m) l (sym (a.standing j (back j n)) ∙ p) (sym (a.standing k (back k m)) ∙ q));
    }
  where
    back : (k : ℕ) → Numbered d k → Numbered c k
    back k n = (n.0, (let e = a.count in omega arith))

module _ (c d : Contest) (a : Alike c d) where
  free_alike : (s : Bids) → ClashFree d s → ClashFree c s
  free_alike s f =
      record {
        numbered = num;
        standing = stand;
        apart = λ j k l p q. sym (a.clashes j k (num j p) (num k q) l (stand j p) (stand k q)) ∙ f.apart j k l p q;
      }
    where
      num : (k : ℕ) → s k ≡ true → Numbered c k
      num k h = ((f.numbered k h).0, (let e = a.count in let l = (f.numbered k h).1 in omega arith))

      stand : (k : ℕ) → s k ≡ true → c.stands k ≡ true
      stand k h = sym (a.standing k (num k h)) ∙ f.standing k h

  -- Sums over the numbered bids.
  sum_alike : (s t : Bids) → ((k : ℕ) → Numbered c k → s k ≡ t k) → sum_over d.count s d.price ≡ sum_over c.count t c.price
  sum_alike s t h =
      ap (λ n. sum_over n s d.price) a.count ∙ sum_same c.count (λ k. cond (s k) (d.price k) 0) (λ k. cond (t k) (c.price k) 0) (λ k p q. ap₂ (λ (x : Bool) (v : ℕ). cond x v 0) (h k (p, q)) (a.prices k (p, q)))

  revenue_alike : (s : Bids) → revenue d s ≡ revenue c s
  revenue_alike s = sum_alike s s (λ k n. refl)

pub award_alike : (c d : Contest) → Alike c d → award d ≡ award c
award_alike c d a =
    award_only d (award d) (award c) (award_is d) (record {
      clash_free = free_alike d c (alike_sym c d a) (award c) (award_is c).clash_free;
      greatest =
          λ s f.
          (let l = (award_is c).greatest s (free_alike c d a s f) in
          let x = revenue_alike c d a s in
          let y = revenue_alike c d a (award c) in
          omega arith);
      preferred = λ s f e. (award_is c).preferred s (free_alike c d a s f) (sym (revenue_alike c d a s) ∙ e ∙ revenue_alike c d a (award c));
    })

-- Also without one buyer.
pub without_alike : (c d : Contest) (b : ℕ) → Alike c d → Alike (without c b) (without d b)
without_alike c d b a =
    record {
      count = a.count;
      buyers = a.buyers;
      prices = a.prices;
      standing = λ k n. ap₂ (λ x y. x && not (eqb y b)) (a.standing k n) (a.buyers k n);
      clashes = λ j k n m l p q. a.clashes j k n m l (and_parts (c.stands j) _ p).0 (and_parts (c.stands k) _ q).0;
    }

best_alike : (c d : Contest) → Alike c d → best_revenue d ≡ best_revenue c
best_alike c d a = revenue_alike c d a (award d) ∙ ap (revenue c) (award_alike c d a)

pub charge_alike : (c d : Contest) → Alike c d → (b : ℕ) → charge d b ≡ charge c b
charge_alike c d a b =
    let r = best_alike (without c b) (without d b) (without_alike c d b a) in
    let v = best_alike c d a in
    let w : winning_prices d b ≡ winning_prices c b = sum_alike c d a (bids_of d b (award d)) (bids_of c b (award c)) (λ k n. ap₂ (λ (x : Bool) y. x && eqb y b) (ap (λ (s : Bids). s k) (award_alike c d a)) (a.buyers k n)) in
    ap₂ ◌-◌ r (ap₂ ◌-◌ v w)

pub alike_same : (c d : Contest) → Alike c d → SameOutcome c d
alike_same c d a = record {
  award_is = award_alike c d a;
  revenue_is = best_alike c d a;
  winners_is = ap₂ (λ n s. sum_over n s (λ k. 1)) a.count (award_alike c d a);
  bidders = λ b. ap (λ n. some n (λ k. eqb (d.buyer k) b)) a.count ∙ some_same c.count (λ k. eqb (d.buyer k) b) (λ k. eqb (c.buyer k) b) (λ k low high. ap (λ x. eqb x b) (a.buyers k (low, high)));
  charge_is = charge_alike c d a;
}
