-- What is shown of totals, the award and the charges.
--   TotalKeeps                     what a total sums over are the clash-free sets
--   OneAward, AlwaysOneAward       no clash-free set beats the award, and there is no other such set
--   Lacks, IsBestWithout           sets without any bid of a buyer, and the greatest revenue of these
--   ChargeWhole, ChargesWhole      a charge is never cut off at 0
--   SameOthers, NoNewBids          two contests that differ only in one buyer's prices, and in withdrawals of his
--   award_at, Truthful, TruthAlwaysPays
--                                  with his true prices he gains at least as much, and as much exactly if both awards sum alike
--   DescentAwards                  the way down the nest finds the award
--   TotalChooses, ChoicesTotal     a total of choices has the best revenue, and the lowest number in any best set
--   RevenueTotal, WithoutTotal     a total of prices is the best revenue, also without the bids of one buyer
--   NoughtDrops                    bids of worth nought count as if they did not stand
--   Alike, SameOutcome, AlikeSame  contests with the same bids have the same award and charges
use Rattle.std.specs.Prelude.{◌≡◌, ℕ, ◌-◌, ◌<◌, ◌≤◌, Bool, true, cond, ◌↔◌, ◌<ℤ◌, Some, ◌==◌, ◌≢◌}
use Rattle.scales.specs.Semiring.{Semiring, Laws}
use Rattle.scales.specs.Cut.{top_amount}
use Rattle.scales.specs.Revenue.{revenues, revenue_of, revenue_worth, crowns}
use Rattle.contest.specs.Total.{from, keep, clash_free, total_by}
use Rattle.contest.specs.Choices.{Choices, choices, choose, amount_of, number_of}
use Rattle.contest.specs.Nest.{Nested, contest_inside}
use Rattle.contest.specs.Descent.{IsLowest, Descends, wins}
use Rattle.contest.specs.Contest.{Contest, Bids, Numbered, ClashFree, Beats, IsAward, revenue, award, best_revenue, winners, only, without, has_bid, winning_prices, charge, gain, sum_over}

-- A total keeps the list of a set's numbers exactly where the set is clash-free.
abbrev pub TotalKeeps : Type 0
TotalKeeps = (c : Contest) (s : Bids) → ((k : ℕ) → s k ≡ true → Numbered c k) → (clash_free c.stands c.clash (keep s (from 1 c.count)) ≡ true) ↔ ClashFree c s

-- The award that the definition computes is best and preferred, and it is the only clash-free set that no other one beats.
pub record OneAward (c : Contest) : Type 0 where
  pub best : IsAward c (award c)
  pub unbeaten : (s : Bids) → ClashFree c s → Beats c s (award c) → ⊥
  pub only_one : (a : Bids) → ClashFree c a → ((s : Bids) → ClashFree c s → Beats c s a → ⊥) → a ≡ award c

abbrev pub AlwaysOneAward : Type 0
AlwaysOneAward = (c : Contest) → OneAward c

-- No bid of buyer b is in s.
abbrev pub Lacks : Contest → ℕ → Bids → Type 0
Lacks c b s = (k : ℕ) → s k ≡ true → c.buyer k ≢ b

-- The greatest revenue of the clash-free sets without any bid of b.
pub record IsBestWithout (c : Contest) (b r : ℕ) : Type 0 where
  pub reached : (s : Bids) × ClashFree c s × Lacks c b s × (revenue c s ≡ r)
  pub most : (s : Bids) → ClashFree c s → Lacks c b s → revenue c s ≤ r

-- The charge subtracts the lesser from the greater, so nothing is cut off at 0.
pub record ChargeWhole (c : Contest) (b : ℕ) : Type 0 where
  pub without_him : IsBestWithout c b (best_revenue (without c b))
  pub part : winning_prices c b ≤ best_revenue c
  pub others : best_revenue c - winning_prices c b ≤ best_revenue (without c b)

abbrev pub ChargesWhole : Type 0
ChargesWhole = (c : Contest) (b : ℕ) → ChargeWhole c b

-- Two contests that differ only in the standing and the prices of buyer b's bids.
pub record SameOthers (b : ℕ) (t d : Contest) : Type 0 where
  pub count : d.count ≡ t.count
  pub buyers : (k : ℕ) → Numbered t k → d.buyer k ≡ t.buyer k
  pub clashes : (j k : ℕ) → Numbered t j → Numbered t k → j < k → d.clash j k ≡ t.clash j k
  pub standing : (k : ℕ) → Numbered t k → (t.buyer k ≢ b) → d.stands k ≡ t.stands k
  pub prices : (k : ℕ) → Numbered t k → (t.buyer k ≢ b) → d.price k ≡ t.price k

-- Bids of buyer b that stand in d stand in t.
abbrev pub NoNewBids : ℕ → Contest → Contest → Type 0
NoNewBids b t d = (k : ℕ) → Numbered t k → t.buyer k ≡ b → d.stands k ≡ true → t.stands k ≡ true

-- The sum of the award of d at the prices of t.
abbrev pub award_at : Contest → Contest → ℕ
award_at t d = sum_over t.count (award d) t.price

-- Contest t has buyer b's true prices, and d has others. He gains as much at d exactly if both awards have the same sum at the true prices, and else less.
pub record Truthful (b : ℕ) (t d : Contest) : Type 0 where
  pub same : award_at t d ≡ award_at t t → gain t d b ≡ gain t t b
  pub same_only : gain t d b ≡ gain t t b → award_at t d ≡ award_at t t
  pub else_less : (award_at t d ≢ award_at t t) → gain t d b <ℤ gain t t b

abbrev pub TruthAlwaysPays : Type 0
TruthAlwaysPays = (b : ℕ) (t d : Contest) → SameOthers b t d → NoNewBids b t d → Truthful b t d

-- Going down from the outermost packages, with the lowest number in any best choice inside each package at hand, finds the award.
abbrev pub DescentAwards : Type 0
DescentAwards =
    (c : Contest) (top : ℕ) (on parent low : ℕ → ℕ) (opened : ℕ → Bool) → Nested c parent on top → ((g : ℕ) → 1 ≤ g → g ≤ top → IsLowest (contest_inside c on parent g) (low g)) → Descends c.count top on parent low opened → (k : ℕ) → Numbered c k → award c k ≡ wins on low opened k

-- A total in a scale of amounts with the lowest bid number has the best revenue and the lowest number in any best choice.
abbrev pub TotalChooses : Type 0 → Type 0
TotalChooses M =
    (r : Semiring M) (best : ℕ → ℕ → M) (limit : ℕ) → Choices r best limit → (c : Contest) → best_revenue c < limit → (f : ℕ) × (total_by r c (λ k. best (c.price k) k) ≡ best (best_revenue c) f) × IsLowest c f

-- The total of all bids as choices has the best revenue, and the lowest bid number in any best choice.
abbrev pub ChoicesTotal : Type 0
ChoicesTotal =
    (limit : ℕ) (c : Contest) → best_revenue c < limit → (amount_of (total_by (choices limit) c (λ k. choose limit (c.price k) k)) ≡ best_revenue c) × IsLowest c (number_of (total_by (choices limit) c (λ k. choose limit (c.price k) k)))

-- A total of the prices in the scale of revenues is the best revenue, where that lies below the greatest amount.
abbrev pub RevenueTotal : Type 0
RevenueTotal = (c : Contest) → best_revenue c < top_amount → crowns (total_by revenues c (λ k. revenue_of (revenue_worth (c.price k)))) ≡ Some (best_revenue c)

-- With nought for the bids of buyer b it is the best revenue without him.
abbrev pub WithoutTotal : Type 0
WithoutTotal =
    (c : Contest) (b : ℕ) → best_revenue (without c b) < top_amount → crowns (total_by revenues c (λ k. cond (c.buyer k == b) revenues.nought (revenue_of (revenue_worth (c.price k))))) ≡ Some (best_revenue (without c b))

-- Bids of worth nought count as if they did not stand.
abbrev pub NoughtDrops : Type 0 → Type 0
NoughtDrops M =
    (r : Semiring M) → Laws r → (c : Contest) (p : ℕ → Bool) (w : ℕ → M) → total_by r c (λ k. cond (p k) (w k) r.nought) ≡ total_by r (only c p) w

-- Two contests with the same bids, and the same clashes between standing bids.
pub record Alike (c d : Contest) : Type 0 where
  pub count : d.count ≡ c.count
  pub buyers : (k : ℕ) → Numbered c k → d.buyer k ≡ c.buyer k
  pub prices : (k : ℕ) → Numbered c k → d.price k ≡ c.price k
  pub standing : (k : ℕ) → Numbered c k → d.stands k ≡ c.stands k
  pub clashes : (j k : ℕ) → Numbered c j → Numbered c k → j < k → c.stands j ≡ true → c.stands k ≡ true → d.clash j k ≡ c.clash j k

-- They have the same award and charges.
pub record SameOutcome (c d : Contest) : Type 0 where
  pub award_is : award d ≡ award c
  pub revenue_is : best_revenue d ≡ best_revenue c
  pub winners_is : winners d ≡ winners c
  pub bidders : (b : ℕ) → has_bid d b ≡ has_bid c b
  pub charge_is : (b : ℕ) → charge d b ≡ charge c b

abbrev pub AlikeSame : Type 0
AlikeSame = (c d : Contest) → Alike c d → SameOutcome c d
