-- What is promised of any two histories, each of a sale with packages of any kind.
--   TotalsAgree     for every list of worths in a scale, one for each bid, the totals of two contests are equal in meaning
--   SameTotals      where the same bids stand and the same pairs clash, the totals agree in a scale
--   CountsTell      where the totals agree in Count, the same bids stand and the same pairs clash
--   TotalsTell      the same contests are those whose totals agree in a scale and in Count
--   TotalsDecide    the same contests are those whose totals agree in every lawful scale whose values are coded as numbers
--   Misstates       two moments differ only in one buyer's prices and in further withdrawals of his
--   TruthPays, TruthAlwaysPays
--                   both his charges are answered, and his gain at the first is as great as at the second exactly when both awards sum alike at the first's prices, and else greater
--   Promises        all of these, for a scale
use Rattle.std.specs.Prelude.{◌≡◌, ℕ, ◌↔◌, List, map, length, None}
use Rattle.scales.specs.Semiring.{Semiring}
use Rattle.scales.specs.Count.{counts, count_of}
use Rattle.contest.specs.Contest.{Contest, Numbered}
use Rattle.contest.specs.Total.{total}
use Rattle.contest.specs.Telling.{Same}
use Rattle.contest.specs.Coded.{AgreeCoded}
use Rattle.contest.specs.Theorems.{SameOthers, NoNewBids, Truthful}
use Rattle.nest.specs.Charges.{charge_check}
use Rattle.books.specs.History.{History}
use Rattle.books.specs.Contests.{contest_at}

-- For every list of worths, one for each bid, the totals of both contests are equal in meaning.
abbrev pub TotalsAgree : {S M : Type 0} → (S → M) → Semiring M → Contest → Contest → Type 0
TotalsAgree {S} meaning ring c d = (worths : List S) → length worths ≡ c.count → total ring c (map meaning worths) ≡ total ring d (map meaning worths)

-- Where the same bids stand and the same pairs clash, the totals agree in this scale.
abbrev pub SameTotals : {S M : Type 0} → (S → M) → Semiring M → Type 0
SameTotals meaning ring = (h k : History) → Same (contest_at h) (contest_at k) → TotalsAgree meaning ring (contest_at h) (contest_at k)

-- Where the totals agree in Count alone, the same bids stand and the same pairs clash.
abbrev pub CountsTell : Type 0
CountsTell = (h k : History) → (contest_at h).count ≡ (contest_at k).count → TotalsAgree count_of counts (contest_at h) (contest_at k) → Same (contest_at h) (contest_at k)

-- The same bids stand and the same pairs clash exactly when the totals agree in this scale and in Count.
abbrev pub TotalsTell : {S M : Type 0} → (S → M) → Semiring M → Type 0
TotalsTell meaning ring =
    (h k : History) → (contest_at h).count ≡ (contest_at k).count →
    Same (contest_at h) (contest_at k) ↔ (TotalsAgree meaning ring (contest_at h) (contest_at k) × TotalsAgree count_of counts (contest_at h) (contest_at k))

-- The same bids stand and the same pairs clash exactly when the totals agree in every lawful scale whose values are coded as numbers.
abbrev pub TotalsDecide : Type 0
TotalsDecide = (h k : History) → (contest_at h).count ≡ (contest_at k).count → Same (contest_at h) (contest_at k) ↔ AgreeCoded (contest_at h) (contest_at k)

-- The second moment differs from the first only in prices of buyer b, who has a numbered bid, and in further withdrawals of his.
pub record Misstates (b : ℕ) (h k : History) : Type 0 where
  pub bidder : (n : ℕ) × Numbered (contest_at h) n × ((contest_at h).buyer n ≡ b)
  pub others : SameOthers b (contest_at h) (contest_at k)
  pub withdrawals : NoNewBids b (contest_at h) (contest_at k)

-- His charges at both moments are answered, and the gains less them are as the promise says.
pub record TruthPays (b : ℕ) (h k : History) : Type 0 where
  pub charged_first : charge_check (contest_at h) b ≡ None
  pub charged_second : charge_check (contest_at k) b ≡ None
  pub gains : Truthful b (contest_at h) (contest_at k)

abbrev pub TruthAlwaysPays : Type 0
TruthAlwaysPays = (b : ℕ) (h k : History) → Misstates b h k → TruthPays b h k

pub record Promises {S M : Type 0} (meaning : S → M) (ring : Semiring M) : Type 0 where
  pub same : SameTotals meaning ring
  pub counts : CountsTell
  pub tell : TotalsTell meaning ring
  pub decide : TotalsDecide
  pub truth : TruthAlwaysPays
