-- What award answers and writes where there is a byte for every bid.
use Rattle.std.proofs.Common.{◌≡◌, ℕ, ◌≤◌, cond, List, length, leb, Some, None, Ok, Err, Result, MatchResult, refl, sym, ap, ◌∙◌, subst}
use Rattle.std.proofs.lemmas.Bool.{le-leb}
use Rattle.bids.specs.declared.bid.Bid.{Bid}
use Rattle.contest.specs.Contest.{award, best_revenue}
use Rattle.contest.specs.Descent.{Marks}
use Rattle.contest.proofs.Passes.{marked_is}
use Rattle.nest.specs.declared.fault.AwardFault.{AwardFault}
use Rattle.nest.specs.declared.fault.AwardFault.TheVariants.{TooShort}
use Rattle.nest.specs.Awards.{award_refusal, award_check}
use Rattle.books.specs.Book.{Book}
use Rattle.books.specs.Contests.{contest_of}
use Rattle.sale.specs.Awards.{Awarded}
use Rattle.summary.specs.Marked.{AwardMarked}

module _ (b : Book) (bids : List Bid) (before marks : List ℕ) (held : bids ≡ b.bids) (room : length bids ≤ length before) where
  free : award_check (length b.bids) (length before) ≡ None
  free = ap (λ x. cond x None (Some (award_refusal TooShort))) (ap (λ l. leb (length l) (length before)) (sym held) ∙ le-leb (length bids) (length before) room)

  award_marked : Marks (length b.bids) (award (contest_of b)) before marks → AwardMarked (contest_of b) bids marks
  award_marked m =
      subst (λ l. AwardMarked (contest_of b) l marks) (sym held)
      (record { count = refl; buyers = λ k at. refl; prices = λ k at. refl; award = λ k at. marked_is _ _ before marks m k at.0 at.1 })

  pub award_accepted :
      (r : Result (ℕ × ℕ × ℕ) AwardFault) (revenue : ℕ) → Awarded b before marks r → MatchResult r (λ v. revenue ≡ v.0) (λ _. revenue ≡ 0) →
      (revenue ≡ best_revenue (contest_of b)) × AwardMarked (contest_of b) bids marks
  award_accepted (Ok v) revenue h is = (is ∙ h.1.revenue, award_marked h.1.bytes)
  award_accepted (Err e) revenue h is = let z = sym free ∙ h.0 in cc
