-- A buyer gains most by lodging his true prices.
use Rattle.std.proofs.Common.{◌≡◌, ℕ, ◌+◌, ◌<◌, ◌≤◌, true, eqb, pos, ◌-ℤ◌, ◌<ℤ◌, sym, refl, ap, ◌∙◌, subst, ⊎_elim, arith}
use Rattle.std.proofs.lemmas.Bool.{cases_eq, and_parts}
use Rattle.std.proofs.lemmas.Int.{ints}
use Rattle.contest.specs.Contest.{Contest, Bids, sum_over, Numbered, ClashFree, revenue, award, best_revenue, without, bids_of, charge, gain}
use Rattle.contest.specs.Theorems.{Lacks, SameOthers, NoNewBids, award_at, Truthful}
use Rattle.contest.proofs.Awarding.{award_is}
use Rattle.contest.proofs.Charging.{sum_split, sum_over_same, not_his, free_in, free_without, others_of, others_sum, charge_is}

-- To differ only in b's bids goes both ways.
pub others_refl : (b : ℕ) (t : Contest) → SameOthers b t t
others_refl b t =
    record {
      count = refl;
      buyers = λ k n. refl;
      clashes = λ j k n m l. refl;
      standing = λ k n h. refl;
      prices = λ k n h. refl;
    }

pub others_sym : (b : ℕ) (t d : Contest) → SameOthers b t d → SameOthers b d t
others_sym b t d o =
    record {
      count = sym o.count;
      buyers = λ k n. sym (o.buyers k (back k n));
      clashes = λ j k n m l. sym (o.clashes j k (back j n) (back k m) l);
      standing = λ k n h. sym (o.standing k (back k n) (λ e. h (o.buyers k (back k n) ∙ e)));
      prices = λ k n h. sym (o.prices k (back k n) (λ e. h (o.buyers k (back k n) ∙ e)));
    }
  where
    back : (k : ℕ) → Numbered d k → Numbered t k
    back k n = (n.0, (let e = o.count in omega arith))

module _ (b : ℕ) (t d : Contest) (o : SameOthers b t d) where
  numbered_too : (k : ℕ) → Numbered d k → Numbered t k
  numbered_too k n = (n.0, (let e = o.count in omega arith))

  -- A set without b's bids is clash-free in both, and fetches the same.
  free_too : (s : Bids) → ClashFree (without d b) s → ClashFree (without t b) s
  free_too s f =
      let g = free_in d b s f in
      let num : (k : ℕ) → s k ≡ true → Numbered t k = λ k h. numbered_too k (f.numbered k h) in
      let lacks : Lacks t b s = λ k h e. g.1 k h (o.buyers k (num k h) ∙ e) in
      free_without t b s (record { numbered = num; standing = λ k h. sym (o.standing k (num k h) (lacks k h)) ∙ g.0.standing k h; apart = λ j k l p q. sym (o.clashes j k (num j p) (num k q) l) ∙ f.apart j k l p q }) lacks

  same_sum : (s : Bids) → Lacks d b s → sum_over d.count s d.price ≡ sum_over t.count s t.price
  same_sum s l =
      ap (λ n. sum_over n s d.price) o.count ∙ sum_over_same t.count s d.price t.price (λ k p q h. o.prices k (p, q) (λ e. l k h (o.buyers k (p, q) ∙ e)))

  best_too : best_revenue (without d b) ≤ best_revenue (without t b)
  best_too =
      let f = (award_is (without d b)).clash_free in
      let e : best_revenue (without d b) ≡ revenue (without t b) (award (without d b)) = same_sum (award (without d b)) (free_in d b (award (without d b)) f).1 in
      let l = (award_is (without t b)).greatest (award (without d b)) (free_too (award (without d b)) f) in
      omega arith

pub best_same : (b : ℕ) (t d : Contest) → SameOthers b t d → best_revenue (without d b) ≡ best_revenue (without t b)
best_same b t d o =
    let l = best_too b t d o in
    let m = best_too b d t (others_sym b t d o) in
    omega arith

-- The gain is the award's sum at the true prices, less what the others could have fetched.
pub gain_is : (b : ℕ) (t d : Contest) → SameOthers b t d → gain t d b ≡ pos (award_at t d) -ℤ pos (best_revenue (without t b))
gain_is b t d o =
    let his : sum_over d.count (bids_of d b (award d)) t.price ≡ sum_over t.count (bids_of d b (award d)) t.price = ap (λ n. sum_over n (bids_of d b (award d)) t.price) o.count in
    let theirs : others_sum d b ≡ sum_over t.count (others_of d b (award d)) t.price = same_sum b t d o (others_of d b (award d)) (λ k h. not_his d b k (and_parts (award d k) _ h).1) in
    let whole : award_at t d ≡ sum_over t.count (bids_of d b (award d)) t.price + sum_over t.count (others_of d b (award d)) t.price = sum_split t.count (award d) (λ k. eqb (d.buyer k) b) t.price in
    let paid = charge_is d b in
    let same = best_same b t d o in
    regroup (sum_over d.count (bids_of d b (award d)) t.price) (charge d b) (others_sum d b) (award_at t d) (best_revenue (without t b)) (omega arith) (omega arith)
  where
    regroup : (x c u w r : ℕ) → w ≡ x + u → c + u ≡ r → pos x -ℤ pos c ≡ pos w -ℤ pos r
    regroup x c u w r e h = omega (arith, ints)

-- What wins in d is clash-free in t.
pub award_free : (b : ℕ) (t d : Contest) → SameOthers b t d → NoNewBids b t d → (s : Bids) → ClashFree d s → ClashFree t s
award_free b t d o w s f =
    record {
      numbered = num;
      standing = λ k h. ⊎_elim (λ e. w k (num k h) e (f.standing k h)) (λ e. sym (o.standing k (num k h) e) ∙ f.standing k h) (cases_eq (t.buyer k) b);
      apart = λ j k l p q. sym (o.clashes j k (num j p) (num k q) l) ∙ f.apart j k l p q;
    }
  where
    num : (k : ℕ) → s k ≡ true → Numbered t k
    num k h = numbered_too b t d o k (f.numbered k h)

pub truthful : (b : ℕ) (t d : Contest) → SameOthers b t d → NoNewBids b t d → Truthful b t d
truthful b t d o w =
    let l : award_at t d ≤ award_at t t = (award_is t).greatest (award d) (award_free b t d o w (award d) (award_is d).clash_free) in
    let x = gain_is b t d o in
    let y = gain_is b t t (others_refl b t) in
    record {
      same = λ e. x ∙ ap (λ n. pos n -ℤ pos (best_revenue (without t b))) e ∙ sym y;
      same_only = λ e. equal _ _ (best_revenue (without t b)) (sym x ∙ e ∙ y);
      else_less = λ h. subst (λ g. gain t d b <ℤ g) (sym y) (subst (λ g. g <ℤ (pos (award_at t t) -ℤ pos (best_revenue (without t b)))) (sym x) (less _ _ (best_revenue (without t b)) (omega arith)));
    }
  where
    equal : (m n r : ℕ) → pos m -ℤ pos r ≡ pos n -ℤ pos r → m ≡ n
    equal m n r e = omega (arith, ints)

    less : (m n r : ℕ) → m < n → (pos m -ℤ pos r) <ℤ (pos n -ℤ pos r)
    less m n r h = omega (arith, ints)
