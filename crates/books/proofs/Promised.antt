-- The promises over two histories, from the theory of contests.
use Rattle.std.proofs.Common.{◌≡◌, ℕ, ◌≤◌, not, eqb, map, None, sym, ap, ◌∙◌, subst}
use Rattle.std.proofs.lemmas.Bool.{cond-true, eq-eqb}
use Rattle.bids.specs.Limits.{highest_buyer}
use Rattle.bids.proofs.Ranges.{from_between}
use Rattle.contest.specs.Contest.{Numbered}
use Rattle.contest.proofs.Sums.{some_from}
use Rattle.nest.specs.Charges.{charge_check}
use Rattle.books.proofs.Reached.{always_sound}
use Rattle.scales.specs.Semiring.{Semiring}
use Rattle.scales.specs.Count.{counts, count_of}
use Rattle.packages.specs.Lots.{Lots, apart}
use Rattle.packages.specs.SetsLemmas.{same_tests, apart_says, apart_from}
use Rattle.contest.specs.Total.{worth}
use Rattle.contest.specs.Telling.{Symmetric}
use Rattle.contest.proofs.Kept.{same_total}
use Rattle.contest.proofs.Tells.{agree_same, agree_coded}
use Rattle.contest.proofs.Codes.{totals_tell}
use Rattle.contest.proofs.Truth.{truthful}
use Rattle.books.specs.Book.{Book}
use Rattle.books.specs.History.{History, book_of}
use Rattle.books.specs.Contests.{contest_of, contest_at, lots_of}
use Rattle.books.specs.Promises.{SameTotals, TotalsTell, CountsTell, TotalsDecide, TruthAlwaysPays, Promises}

apart_sym : (s t : Lots) → apart s t ≡ apart t s
apart_sym s t = same_tests _ _ (λ e. apart_from t s (λ k a b. apart_says s t e k b a)) (λ e. apart_from s t (λ k a b. apart_says t s e k b a))

pub clash_sym : (b : Book) → Symmetric (contest_of b)
clash_sym b m n = ap not (apart_sym (lots_of b m) (lots_of b n))

same_totals : {S M : Type 0} (meaning : S → M) (ring : Semiring M) → SameTotals meaning ring
same_totals meaning ring h k same ws long = same_total ring (contest_at h) (contest_at k) same (worth ring (map meaning ws))

counts_tell : CountsTell
counts_tell h k many agree = agree_same (contest_at h) (contest_at k) (clash_sym (book_of h)) (clash_sym (book_of k)) many (agree_coded (contest_at h) (contest_at k) agree)

totals_tell_in : {S M : Type 0} (meaning : S → M) (ring : Semiring M) → TotalsTell meaning ring
totals_tell_in meaning ring h k many = (
  λ same. (same_totals meaning ring h k same, same_totals count_of counts h k same),
  λ agree. counts_tell h k many agree.1,
)

totals_decide : TotalsDecide
totals_decide h k many = totals_tell (contest_at h) (contest_at k) (clash_sym (book_of h)) (clash_sym (book_of k)) many

-- a buyer with a numbered bid is charged
charged : (h : History) (b n : ℕ) → Numbered (contest_at h) n → (contest_at h).buyer n ≡ b → charge_check (contest_at h) b ≡ None
charged h b n at is =
    let c = contest_at h in
    let limits = subst (λ x. (1 ≤ x) × (x ≤ highest_buyer)) is ((always_sound h).bids n at.0 at.1).buyer in
    cond-true _ _ _ (from_between 1 highest_buyer b limits)
    ∙ cond-true _ _ _ (some_from c.count (λ k. eqb (c.buyer k) b) n at.0 at.1 (eq-eqb (c.buyer n) b is))

truth_pays : TruthAlwaysPays
truth_pays b h k m =
    let n = m.bidder.0 in
    let at = m.bidder.1 in
    let is = m.bidder.2 in
    record {
      charged_first = charged h b n at is;
      charged_second = charged k b n (at.0, subst (λ x. n ≤ x) (sym m.others.count) at.1) (m.others.buyers n at ∙ is);
      gains = truthful b (contest_at h) (contest_at k) m.others m.withdrawals;
    }

pub promises : {S M : Type 0} (meaning : S → M) (ring : Semiring M) → Promises meaning ring
promises meaning ring =
    record { same = same_totals meaning ring; counts = counts_tell; tell = totals_tell_in meaning ring; decide = totals_decide; truth = truth_pays }
