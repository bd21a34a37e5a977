-- A contest of numbered bids, its award, and what each buyer is charged.
--   sum, every, some, sum_over   sums and tests over the numbers 1 to n, and a sum over those in a set
--   Bids, none, adding           sets of bids, the empty set, and a set with one bid more
--   Contest, Numbered            what is known of the bids, and which numbers they have
--   ClashFree                    a set of standing bids of which no two clash
--   revenue, Preferred, Beats    what a set fetches, and when it is preferred to another and when it beats it
--   IsAward                      a clash-free set of greatest revenue, preferred to every other one of that revenue
--   may_add, better, extend      the steps in which the award is computed
--   award, best_revenue          the award and its revenue
--   winners                      the number of winning bids
--   only, without                the contest with fewer bids standing, and without those of one buyer
--   has_bid                      whether a buyer has a numbered bid
--   bids_of, winning_prices      a buyer's bids in a set, and the sum of his winning prices
--   charge, gain                 what a buyer pays, and what he gains
use Rattle.std.specs.Prelude.{◌≡◌, ℕ, zero, suc, ◌+◌, ◌-◌, ◌<◌, ◌≤◌, Bool, true, false, cond, not, ◌&&◌, ◌||◌, ◌⊎◌, ℤ, pos, ◌-ℤ◌, ◌==◌, nat_eq, nat_le}

-- Sums and tests over the numbers 1 to n.
abbrev pub sum : ℕ → (ℕ → ℕ) → ℕ
sum zero f = 0
sum (suc n) f = sum n f + f (suc n)

abbrev pub every : ℕ → (ℕ → Bool) → Bool
every zero p = true
every (suc n) p = every n p && p (suc n)

abbrev pub some : ℕ → (ℕ → Bool) → Bool
some zero p = false
some (suc n) p = some n p || p (suc n)

-- A set of bids says of each number whether it is in.
abbrev pub Bids : Type 0
Bids = ℕ → Bool

abbrev pub none : Bids
none k = false

abbrev pub adding : ℕ → Bids → Bids
adding k s j = j == k || s j

-- The sum of f over the numbers 1 to n that are in s.
abbrev pub sum_over : ℕ → Bids → (ℕ → ℕ) → ℕ
sum_over n s f = sum n (λ k. cond (s k) (f k) 0)

-- Bids are numbered from 1 to count. A withdrawn bid does not stand. The test clash is asked of two different numbers, the lower one first.
pub record Contest : Type 0 where
  pub count : ℕ
  pub buyer : ℕ → ℕ
  pub price : ℕ → ℕ
  pub stands : ℕ → Bool
  pub clash : ℕ → ℕ → Bool

-- The number of a bid of this contest.
abbrev pub Numbered : Contest → ℕ → Type 0
Numbered c k = (1 ≤ k) × (k ≤ c.count)

-- A set of standing bids of which no two clash.
pub record ClashFree (c : Contest) (s : Bids) : Type 0 where
  pub numbered : (k : ℕ) → s k ≡ true → Numbered c k
  pub standing : (k : ℕ) → s k ≡ true → c.stands k ≡ true
  pub apart : (j k : ℕ) → j < k → s j ≡ true → s k ≡ true → c.clash j k ≡ false

abbrev pub revenue : Contest → Bids → ℕ
revenue c s = sum_over c.count s c.price

-- The lowest number that is in only one of the two sets is in s.
abbrev pub Preferred : Bids → Bids → Type 0
Preferred s t = (k : ℕ) × (s k ≡ true) × (t k ≡ false) × ((j : ℕ) → j < k → s j ≡ t j)

-- Set s beats set t: it fetches more, or as much and is preferred.
abbrev pub Beats : Contest → Bids → Bids → Type 0
Beats c s t = (revenue c t < revenue c s) ⊎ ((revenue c s ≡ revenue c t) × Preferred s t)

-- The award: a clash-free set of greatest revenue, preferred to every other one of the same revenue.
pub record IsAward (c : Contest) (a : Bids) : Type 0 where
  pub clash_free : ClashFree c a
  pub greatest : (s : Bids) → ClashFree c s → revenue c s ≤ revenue c a
  pub preferred : (s : Bids) → ClashFree c s → revenue c s ≡ revenue c a → (s ≡ a) ⊎ Preferred a s

-- Bid k stands, and clashes with no lower bid of s.
abbrev pub may_add : Contest → ℕ → Bids → Bool
may_add c k s = c.stands k && every c.count (λ j. not (s j && (nat_le (suc j) k && c.clash j k)))

-- The better of two sets, the first where their revenues are equal.
abbrev pub better : Contest → Bids → Bids → Bids
better c s t = cond (nat_le (revenue c t) (revenue c s)) s t

-- The best way to go on from s with the bids k, k + 1, .., of which m are left.
abbrev pub extend : Contest → ℕ → ℕ → Bids → Bids
extend c zero k s = s
extend c (suc m) k s = elim (may_add c k s) [ true ↦ better c (extend c m (suc k) (adding k s)) (extend c m (suc k) s) | false ↦ extend c m (suc k) s ]

-- Bid by bid, the better of the choices with it and without it.
abbrev pub award : Contest → Bids
award c = extend c c.count 1 none

abbrev pub best_revenue : Contest → ℕ
best_revenue c = revenue c (award c)

abbrev pub winners : Contest → ℕ
winners c = sum_over c.count (award c) (λ k. 1)

-- The contest in which only those bids stand that also pass the test p.
abbrev pub only : Contest → (ℕ → Bool) → Contest
only c p = record { count = c.count; buyer = c.buyer; price = c.price; stands = λ k. c.stands k && p k; clash = c.clash }

-- The contest in which no bid of buyer b stands.
abbrev pub without : Contest → ℕ → Contest
without c b = only c (λ k. not (c.buyer k == b))

abbrev pub has_bid : Contest → ℕ → Bool
has_bid c b = some c.count (λ k. nat_eq (c.buyer k) b)

-- The bids of buyer b in s.
abbrev pub bids_of : Contest → ℕ → Bids → Bids
bids_of c b s k = s k && c.buyer k == b

-- The sum of the prices of buyer b's winning bids.
abbrev pub winning_prices : Contest → ℕ → ℕ
winning_prices c b = sum_over c.count (bids_of c b (award c)) c.price

-- What the others could have fetched without buyer b, less what they fetch now.
abbrev pub charge : Contest → ℕ → ℕ
charge c b = best_revenue (without c b) - (best_revenue c - winning_prices c b)

-- What buyer b gains at contest c, if his bids are worth to him what their prices are in contest t.
abbrev pub gain : Contest → Contest → ℕ → ℤ
gain t c b = pos (sum_over c.count (bids_of c b (award c)) t.price) -ℤ pos (charge c b)
