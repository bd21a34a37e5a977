-- What total and appraise answer, and what they leave in the workspace.
--   total_refusal                  the number and the place of each refusal
--   appraise_check, total_check    the first check that fails
--   listed_worths, price_worths    the worths of the bids: from a list, or those of their own prices
--   TotalIs                        the answer and the workspace of an accepted call
--   Totalled                       the outcome of a call, for any contest
--   NestTotal                      the answer and the workspace for the contest of a nest
--   TotalOf, AppraisalOf           the outcome of total and of appraise on a nest
use Rattle.std.specs.Prelude.{◌≡◌, ℕ, ◌-◌, ◌≤◌, cond, List, map, length, drop, Some, None, vec_len, Option, Result, ◌==◌, nat_le, slice_index_or}
use Rattle.scales.specs.Semiring.{Semiring}
use Rattle.contest.specs.Contest.{Contest}
use Rattle.contest.specs.Total.{total_by, worth}
use Rattle.nest.specs.declared.nest.Nest.{Nest}
use Rattle.nest.specs.declared.fault.TotalFault.{TotalFault}
use Rattle.nest.specs.declared.fault.TotalFault.TheVariants.{Worths, Workspace}
use Rattle.nest.specs.Checked.{Checked}
use Rattle.nest.specs.Contests.{contest_of_nest, contest_inside_nest}

abbrev pub total_refusal : TotalFault → ℕ × ℕ
total_refusal Worths = (14, 0)
total_refusal Workspace = (15, 0)

-- for so many packages, and so many places of the workspace
abbrev pub appraise_check : ℕ → ℕ → Option (ℕ × ℕ)
appraise_check packages places = cond (nat_le packages places) None (Some (total_refusal Workspace))

-- the same with so many bids and worths
abbrev pub total_check : ℕ → ℕ → ℕ → ℕ → Option (ℕ × ℕ)
total_check bids packages worths places = cond (worths == bids) (appraise_check packages places) (Some (total_refusal Worths))

abbrev pub listed_worths : {S M : Type 0} → (S → M) → Semiring M → List S → ℕ → M
listed_worths meaning ring worths = worth ring (map meaning worths)

abbrev pub price_worths : {S M : Type 0} → (S → M) → (ℕ → S) → Contest → ℕ → M
price_worths meaning worth_of c k = meaning (worth_of (c.price k))

-- With worths w, the answer means the total of the contest c; of the workspace, place g from 1 to `count` means the total of the contest inside g, and further places are as before.
pub record TotalIs {S M : Type 0} (meaning : S → M) (ring : Semiring M) (c : Contest) (inside : ℕ → Contest) (count : ℕ) (w : ℕ → M) (before after : List S) (answer : S) : Type 0 where
  pub total : meaning answer ≡ total_by ring c w
  pub places : (g : ℕ) (d : S) → 1 ≤ g → g ≤ count → meaning (slice_index_or after (g - 1) d) ≡ total_by ring (inside g) w
  pub further : drop count after ≡ drop count before

-- After a refusal the workspace is as before.
abbrev pub Totalled : {S M : Type 0} → (S → M) → Semiring M → Contest → (ℕ → Contest) → ℕ → Option (ℕ × ℕ) → (ℕ → M) → List S → List S → Result S TotalFault → Type 0
Totalled meaning ring c inside count check w before after =
    Checked total_refusal check (TotalIs meaning ring c inside count w before after) (after ≡ before)

abbrev pub NestTotal : {S M : Type 0} → (S → M) → Semiring M → Nest → (ℕ → M) → List S → List S → S → Type 0
NestTotal meaning ring n = TotalIs meaning ring (contest_of_nest n) (contest_inside_nest n) (vec_len n.parents)

abbrev pub TotalOf : {S M : Type 0} → (S → M) → Semiring M → Nest → List S → List S → List S → Result S TotalFault → Type 0
TotalOf meaning ring n worths before =
    Totalled meaning ring (contest_of_nest n) (contest_inside_nest n) (vec_len n.parents) (total_check (vec_len n.bids) (vec_len n.parents) (length worths) (length before)) (listed_worths meaning ring worths) before

abbrev pub AppraisalOf : {S M : Type 0} → (S → M) → Semiring M → (ℕ → S) → Nest → List S → List S → Result S TotalFault → Type 0
AppraisalOf meaning ring worth_of n before =
    Totalled meaning ring (contest_of_nest n) (contest_inside_nest n) (vec_len n.parents) (appraise_check (vec_len n.parents) (length before)) (price_worths meaning worth_of (contest_of_nest n)) before
