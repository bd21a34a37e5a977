-- Charges: nothing is cut off, and a buyer's gain is the award's sum at his true prices less what the others could have fetched.
use Rattle.std.proofs.Common.{◌≡◌, ℕ, ◌+◌, ◌≤◌, Bool, true, false, cond, not, ◌&&◌, eqb, refl, ◌∙◌, arith}
use Rattle.std.proofs.lemmas.Bool.{both_ways, and_parts, and_from, not-true, not_from_false, eq-eqb, ne_eqb}
use Rattle.contest.specs.Contest.{Contest, Bids, sum_over, ClashFree, award, best_revenue, without, winning_prices, charge}
use Rattle.contest.specs.Theorems.{Lacks, ChargeWhole}
use Rattle.contest.proofs.Sums.{sum_same, sum_plus}
use Rattle.contest.proofs.Awarding.{award_is}

-- The bids of s that are not buyer b's.
abbrev pub others_of : Contest → ℕ → Bids → Bids
others_of c b s k = s k && not (eqb (c.buyer k) b)

-- A sum over a set, by those that pass a test and those that do not.
pub cond_split : (x w : Bool) (v : ℕ) → cond x v 0 ≡ cond (x && w) v 0 + cond (x && not w) v 0
cond_split true true v = omega arith
cond_split true false v = omega arith
cond_split false w v = refl

pub sum_split : (n : ℕ) (s : Bids) (w : ℕ → Bool) (f : ℕ → ℕ) → sum_over n s f ≡ sum_over n (λ k. s k && w k) f + sum_over n (λ k. s k && not (w k)) f
sum_split n s w f =
    sum_same n (λ k. cond (s k) (f k) 0) (λ k. cond (s k && w k) (f k) 0 + cond (s k && not (w k)) (f k) 0) (λ k _ _. cond_split (s k) (w k) (f k)) ∙ sum_plus n (λ k. cond (s k && w k) (f k) 0) (λ k. cond (s k && not (w k)) (f k) 0)

-- Sums over a set at values that are equal at its members.
pub cond_same : (x : Bool) (v u : ℕ) → (x ≡ true → v ≡ u) → cond x v 0 ≡ cond x u 0
cond_same true v u h = h refl
cond_same false v u h = refl

pub sum_over_same : (n : ℕ) (s : Bids) (f g : ℕ → ℕ) → ((k : ℕ) → 1 ≤ k → k ≤ n → s k ≡ true → f k ≡ g k) → sum_over n s f ≡ sum_over n s g
sum_over_same n s f g h = sum_same n (λ k. cond (s k) (f k) 0) (λ k. cond (s k) (g k) 0) (λ k a b. cond_same (s k) (f k) (g k) (h k a b))

-- The clash-free sets without b's bids are those of the contest in which these do not stand.
pub not_his : (c : Contest) (b k : ℕ) → not (eqb (c.buyer k) b) ≡ true → c.buyer k ≡ b → ⊥
not_his c b k e d = both_ways (eqb (c.buyer k) b) (not-true _ e) (eq-eqb _ b d)

pub free_in : (c : Contest) (b : ℕ) (s : Bids) → ClashFree (without c b) s → ClashFree c s × Lacks c b s
free_in c b s f =
    (record { numbered = f.numbered; standing = λ k h. (and_parts (c.stands k) _ (f.standing k h)).0; apart = f.apart }, λ k h. not_his c b k (and_parts (c.stands k) _ (f.standing k h)).1)

pub free_without : (c : Contest) (b : ℕ) (s : Bids) → ClashFree c s → Lacks c b s → ClashFree (without c b) s
free_without c b s f l =
    record {
      numbered = f.numbered;
      standing = λ k h. and_from (c.stands k) _ (f.standing k h) (not_from_false _ (ne_eqb (c.buyer k) b (l k h)));
      apart = f.apart;
    }

pub others_free : (c : Contest) (b : ℕ) (s : Bids) → ClashFree c s → ClashFree (without c b) (others_of c b s)
others_free c b s f =
    free_without c b (others_of c b s) (record { numbered = λ k h. f.numbered k (his k h); standing = λ k h. f.standing k (his k h); apart = λ j k l g h. f.apart j k l (his j g) (his k h) }) (λ k h. not_his c b k (and_parts (s k) _ h).1)
  where
    his : (k : ℕ) → others_of c b s k ≡ true → s k ≡ true
    his k h = (and_parts (s k) _ h).0

-- What the others fetch in the award.
abbrev pub others_sum : Contest → ℕ → ℕ
others_sum c b = sum_over c.count (others_of c b (award c)) c.price

pub parts : (c : Contest) (b : ℕ) → best_revenue c ≡ winning_prices c b + others_sum c b
parts c b = sum_split c.count (award c) (λ k. eqb (c.buyer k) b) c.price

pub others_less : (c : Contest) (b : ℕ) → others_sum c b ≤ best_revenue (without c b)
others_less c b = (award_is (without c b)).greatest (others_of c b (award c)) (others_free c b (award c) (award_is c).clash_free)

pub charge_whole : (c : Contest) (b : ℕ) → ChargeWhole c b
charge_whole c b =
    let p = parts c b in
    let l = others_less c b in
    let f = award_is (without c b) in
    let g = free_in c b (award (without c b)) f.clash_free in
    record {
      without_him = record { reached = (award (without c b), g.0, g.1, refl); most = λ s h k. f.greatest s (free_without c b s h k) };
      part = omega arith;
      others = omega arith;
    }

-- The charge is what the others could have fetched, less what they fetch.
pub charge_is : (c : Contest) (b : ℕ) → charge c b + others_sum c b ≡ best_revenue (without c b)
charge_is c b =
    let p = parts c b in
    let l = others_less c b in
    omega arith
