-- What a nest answers is what the rules define from the book that it is the nest of.
use Rattle.std.proofs.Common.{◌≡◌, ℕ, suc, ◌≤◌, List, [], ◌∷◌, ◌++◌, length, drop, Ok, Err, vec_items, vec_len, Option, Result, sym, refl, ap, ◌∙◌, subst, ap₂}
use Rattle.packages.specs.Lots.{Lots}
use Rattle.scales.specs.Semiring.{Semiring}
use Rattle.contest.specs.Contest.{Contest, award, bids_of, sum_over}
use Rattle.contest.specs.Total.{total_by}
use Rattle.contest.specs.Descent.{Marks}
use Rattle.contest.proofs.Likeness.{award_alike, charge_alike}
use Rattle.nest.specs.declared.nest.Nest.{Nest}
use Rattle.nest.specs.declared.fault.TotalFault.{TotalFault}
use Rattle.nest.specs.declared.fault.AwardFault.{AwardFault}
use Rattle.nest.specs.declared.fault.ChargeFault.{ChargeFault}
use Rattle.nest.specs.Placed.{Lower}
use Rattle.nest.specs.Contests.{nest_contest, nest_inside, price_in, contest_of_nest, contest_inside_nest}
use Rattle.nest.specs.Totals.{TotalIs, Totalled}
use Rattle.nest.specs.Awards.{AwardIs, Awarded}
use Rattle.nest.specs.Charges.{Charged}
use Rattle.books.specs.Book.{Book}
use Rattle.books.specs.Nested.{Sound, parents_after, parents_of}
use Rattle.books.specs.Contests.{contest_of, contest_within}
use Rattle.books.proofs.Bridge.{total_is, part_is, alike}

parents_counted : (earlier ts : List Lots) → length (parents_after earlier ts) ≡ length ts
parents_counted earlier [] = refl
parents_counted earlier (t ∷ ts) = ap suc (parents_counted (earlier ++ (t ∷ [])) ts)

module _ (b : Book) (sound : Sound b) (n : Nest) (parents : vec_items n.parents ≡ parents_of b.packages) (bids : vec_items n.bids ≡ b.bids) where
  pub lower : Lower (parents_of b.packages)
  lower = subst Lower parents n.parents_lower

  pub packages_counted : vec_len n.parents ≡ length b.packages
  packages_counted = n.parents.ok.0 ∙ ap length parents ∙ parents_counted [] b.packages

  pub bids_counted : vec_len n.bids ≡ length b.bids
  bids_counted = n.bids.ok.0 ∙ ap length bids

  -- the contest of the nest, with the book's own lists
  abbrev kept : Contest
  kept = nest_contest (parents_of b.packages) b.bids

  pub kept_is : contest_of_nest n ≡ kept
  kept_is = ap₂ nest_contest parents bids

  inside_is : (g : ℕ) → contest_inside_nest n g ≡ nest_inside (parents_of b.packages) b.bids g
  inside_is g = ap₂ (λ p q. nest_inside p q g) parents bids

  pub carry_total : {S M : Type 0} (meaning : S → M) (r : Semiring M) (w : ℕ → M) (before after : List S) (answer : S)
      → TotalIs meaning r (contest_of_nest n) (contest_inside_nest n) (vec_len n.parents) w before after answer → TotalIs meaning r (contest_of b) (contest_within b) (length b.packages) w before after answer
  carry_total meaning r w before after answer t =
      record {
        total = t.total ∙ ap (λ c. total_by r c w) kept_is ∙ total_is b sound lower r w;
        places = λ g d low high. t.places g d low (subst (λ m. g ≤ m) (sym packages_counted) high) ∙ ap (λ c. total_by r c w) (inside_is g) ∙ part_is b sound lower r w g (low, high);
        further = ap (λ m. drop m after) (sym packages_counted) ∙ t.further ∙ ap (λ m. drop m before) packages_counted;
      }

  pub carry_totalled : {S M : Type 0} (meaning : S → M) (r : Semiring M) (check check' : Option (ℕ × ℕ)) (w w' : ℕ → M) (before after : List S) (result : Result S TotalFault) → check ≡ check' → w ≡ w'
      → Totalled meaning r (contest_of_nest n) (contest_inside_nest n) (vec_len n.parents) check w before after result → Totalled meaning r (contest_of b) (contest_within b) (length b.packages) check' w' before after result
  carry_totalled meaning r check check' w w' before after (Ok answer) e f t =
      (sym e ∙ t.0, carry_total meaning r w' before after answer (subst (λ v. TotalIs meaning r (contest_of_nest n) (contest_inside_nest n) (vec_len n.parents) v before after answer) f t.1))
  carry_totalled meaning r check check' w w' before after (Err fault) e f t = (sym e ∙ t.0, t.1)

  pub award_is : award kept ≡ award (contest_of b)
  award_is = award_alike (contest_of b) kept (alike b sound lower)

  carry_kept : (before after : List ℕ) (answer : ℕ × ℕ) → AwardIs kept before after answer → AwardIs (contest_of b) before after answer
  carry_kept before after answer a =
      record {
        bytes = subst (λ s. Marks (length b.bids) s before after) award_is a.bytes;
        revenue = a.revenue ∙ ap (λ s. sum_over (length b.bids) s (price_in b.bids)) award_is;
        winning = a.winning ∙ ap (λ s. sum_over (length b.bids) s (λ k. 1)) award_is;
      }

  pub carry_awarded : (before after : List ℕ) (result : Result (ℕ × ℕ) AwardFault) → Awarded (contest_of_nest n) before after result → Awarded (contest_of b) before after result
  carry_awarded before after (Ok answer) a = let k : Awarded kept before after (Ok answer) = subst (λ c. Awarded c before after (Ok answer)) kept_is a in (k.0, carry_kept before after answer k.1)
  carry_awarded before after (Err fault) a = subst (λ c. Awarded c before after (Err fault)) kept_is a

  pub carry_charged : (buyer : ℕ) (result : Result ℕ ChargeFault) → Charged (contest_of_nest n) buyer result → Charged (contest_of b) buyer result
  carry_charged buyer (Ok crowns) h =
      let k : Charged kept buyer (Ok crowns) = subst (λ c. Charged c buyer (Ok crowns)) kept_is h in
      (k.0, k.1 ∙ charge_alike (contest_of b) kept (alike b sound lower) buyer)
  carry_charged buyer (Err fault) h = subst (λ c. Charged c buyer (Err fault)) kept_is h

  pub carry_winnings : (buyer : ℕ) (prices : ℕ → ℕ)
      → sum_over (contest_of_nest n).count (bids_of (contest_of_nest n) buyer (award (contest_of_nest n))) prices ≡ sum_over (length b.bids) (bids_of (contest_of b) buyer (award (contest_of b))) prices
  carry_winnings buyer prices =
      ap (λ c. sum_over c.count (bids_of c buyer (award c)) prices) kept_is
      ∙ ap (λ s. sum_over (length b.bids) (bids_of (contest_of b) buyer s) prices) award_is
