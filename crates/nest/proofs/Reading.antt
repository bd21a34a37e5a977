-- Totals with worths that come from a list.
use Rattle.std.proofs.Common.{◌≡◌, ℕ, zero, suc, ◌-◌, ◌≤◌, List, length, get_or, sym, ap, ◌∙◌, arith}
use Rattle.scales.specs.Semiring.{Semiring, Laws}
use Rattle.contest.proofs.Weigh.{total_worths}
use Rattle.contest.proofs.Listing.{get_or_mapped}
use Rattle.nest.specs.declared.nest.Nest.{Nest}
use Rattle.nest.specs.Contests.{contest_of_nest, contest_inside_nest}
use Rattle.nest.specs.Totals.{NestTotal, listed_worths}

-- Only the worths of the bids count.
pub total_weighed : (n : Nest) {S M : Type 0} {r : Semiring M} → Laws r → (meaning : S → M) (w v : ℕ → M) (before after : List S) (answer : S) → ((k : ℕ) → 1 ≤ k → k ≤ (contest_of_nest n).count → w k ≡ v k)
    → NestTotal meaning r n w before after answer → NestTotal meaning r n v before after answer
total_weighed n laws meaning w v before after answer same t = record {
  total = t.total ∙ total_worths laws (contest_of_nest n) w v same;
  places = λ g d low high. t.places g d low high ∙ total_worths laws (contest_inside_nest n g) w v same;
  further = t.further;
}

-- worths that come one by one from a list
pub worth_list : {S M : Type 0} (r : Semiring M) (f : S → M) (xs : List S) (d : S) (k : ℕ) → 1 ≤ k → k ≤ length xs → f (get_or xs (k - 1) d) ≡ listed_worths f r xs k
worth_list r f xs d zero low high = absurd (omega arith)
worth_list r f xs d (suc k) low high =
    let e : suc k - 1 ≡ k = omega arith in
    ap (λ i. f (get_or xs i d)) e ∙ sym (get_or_mapped f xs k r.nought d high)
