-- A bound on revenue from one on prices.
use Rattle.std.proofs.Common.{ℕ, zero, suc, ◌*◌, ◌≤◌, Bool, true, false, cond, suc-mul, arith}
use Rattle.contest.specs.Contest.{Contest, Bids, sum, revenue, award, best_revenue}

sum_bound : (n p : ℕ) (f : ℕ → ℕ) → ((k : ℕ) → 1 ≤ k → k ≤ n → f k ≤ p) → sum n f ≤ n * p
sum_bound zero p f h = omega arith
sum_bound (suc n) p f h =
    let l = sum_bound n p f (λ k a b. h k a (omega arith)) in
    let m : f (suc n) ≤ p = h (suc n) (omega arith) (omega arith) in
    let e = suc-mul n p in
    omega arith

pub revenue_bound : (c : Contest) (s : Bids) (p : ℕ) → ((k : ℕ) → 1 ≤ k → k ≤ c.count → c.price k ≤ p) → revenue c s ≤ c.count * p
revenue_bound c s p h = sum_bound c.count p (λ k. cond (s k) (c.price k) 0) (λ k a b. at (s k) (c.price k) (h k a b))
  where
    at : (x : Bool) (v : ℕ) → v ≤ p → cond x v 0 ≤ p
    at true v l = l
    at false v l = omega arith

-- A best revenue from a bound on all prices.
pub best_bound : (c : Contest) (p : ℕ) → ((k : ℕ) → 1 ≤ k → k ≤ c.count → c.price k ≤ p) → best_revenue c ≤ c.count * p
best_bound c p = revenue_bound c (award c) p
