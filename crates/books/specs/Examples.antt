-- Worked sales: what the definitions give for them, from the calls to the award, the charges, the totals and the gains.
--   WorkedSale     calls, and what they come to
--   catalogue      a sale of two lots with the packages 1 to 2, 1 and 2, and further calls
--   worked_sales   the list of the worked sales
--   ComesOut       a worked sale comes out as its entry says
--   first_sale     the first of them, with a price for the bid of buyer 2
--   WorkedOut      all worked sales come out; so do the gains, the masks and the greatest count
use Rattle.std.specs.Prelude.{◌≡◌, ℕ, List, [], ◌∷◌, map, pos, Some}
use Rattle.std.specs.Option.{option_map}
use Rattle.packages.specs.Lots.{highest_mask_lot, highest_run_lot, mask_lots, run_lots}
use Rattle.scales.specs.Cut.{cut, top_count}
use Rattle.scales.specs.Count.{counts, count_of, count_worth}
use Rattle.scales.specs.Revenue.{revenues, revenue_of, revenue_worth, crowns}
use Rattle.scales.specs.BestThree.{best_threes, best_of, best_worth}
use Rattle.scales.specs.Tied.{tied_over, tied_of, tied_worth, settled}
use Rattle.contest.specs.Contest.{award, best_revenue, winners, charge, gain}
use Rattle.contest.specs.Total.{from, keep}
use Rattle.books.specs.Book.{Call, permit, lodge, withdraw, accepted, refused}
use Rattle.books.specs.History.{History, making, then, book_of, opened}
use Rattle.books.specs.Contests.{contest_at}
use Rattle.books.specs.Sold.{lots_sold}
use Rattle.books.specs.Appraisals.{appraised}
use Rattle.books.specs.Worked.{answers}

pub record WorkedSale : Type 0 where
  pub calls : List Call
  -- the numbers of the winning bids
  pub winning : List ℕ
  -- revenue, winning bids and lots sold
  pub answer : ℕ × ℕ × ℕ
  -- each buyer, with his charge
  pub charges : List (ℕ × ℕ)
  -- how many clash-free sets there are
  pub sets : ℕ
  -- the greatest revenue, with the number of sets that have it
  pub ways : ℕ × ℕ
  -- the three greatest revenues
  pub top : List ℕ

abbrev pub played : History → List Call → History
played h [] = h
played h (c ∷ cs) = played (then h c) cs

abbrev pub catalogue : List Call → History
catalogue calls = played (making highest_run_lot 2 3) (permit (run_lots 1 2) ∷ permit (run_lots 1 1) ∷ permit (run_lots 2 2) ∷ calls)

-- a bid by a buyer, at a price, on a package
abbrev pub worked_sales : List WorkedSale
worked_sales =
    (record {
      calls = lodge 1 10 1 ∷ lodge 2 6 2 ∷ lodge 3 5 3 ∷ [];
      winning = 2 ∷ 3 ∷ [];
      answer = (11, 2, 2);
      charges = (1, 0) ∷ (2, 5) ∷ (3, 4) ∷ [];
      sets = 5;
      ways = (11, 1);
      top = 11 ∷ 10 ∷ 6 ∷ [];
    })
    ∷ (record {
      calls = lodge 1 11 1 ∷ lodge 2 6 2 ∷ lodge 3 5 3 ∷ [];
      winning = 1 ∷ [];
      answer = (11, 1, 2);
      charges = (1, 11) ∷ (2, 0) ∷ (3, 0) ∷ [];
      sets = 5;
      ways = (11, 2);
      top = 11 ∷ 11 ∷ 6 ∷ [];
    })
    ∷ (record {
      calls = lodge 1 10 1 ∷ lodge 1 6 2 ∷ lodge 3 5 3 ∷ [];
      winning = 2 ∷ 3 ∷ [];
      answer = (11, 2, 2);
      charges = (1, 0) ∷ (3, 4) ∷ [];
      sets = 5;
      ways = (11, 1);
      top = 11 ∷ 10 ∷ 6 ∷ [];
    })
    ∷ (record {
      calls = lodge 1 10 1 ∷ lodge 2 6 2 ∷ lodge 3 5 3 ∷ withdraw 3 ∷ [];
      winning = 1 ∷ [];
      answer = (10, 1, 2);
      charges = (1, 6) ∷ (2, 0) ∷ (3, 0) ∷ [];
      sets = 3;
      ways = (10, 1);
      top = 10 ∷ 6 ∷ 0 ∷ [];
    })
    ∷ (record { calls = []; winning = []; answer = (0, 0, 0); charges = []; sets = 1; ways = (0, 1); top = 0 ∷ [] })
    ∷ (record {
      calls = lodge 1 7 2 ∷ lodge 2 7 2 ∷ [];
      winning = 1 ∷ [];
      answer = (7, 1, 1);
      charges = (1, 7) ∷ (2, 0) ∷ [];
      sets = 3;
      ways = (7, 2);
      top = 7 ∷ 7 ∷ 0 ∷ [];
    })
    ∷ []

pub record ComesOut (s : WorkedSale) : Type 0 where
  pub winning : keep (award (contest_at (catalogue s.calls))) (from 1 (contest_at (catalogue s.calls)).count) ≡ s.winning
  pub answer : (best_revenue (contest_at (catalogue s.calls)), winners (contest_at (catalogue s.calls)), lots_sold (book_of (catalogue s.calls)) (award (contest_at (catalogue s.calls)))) ≡ s.answer
  pub charges : map (λ p. (p.0, charge (contest_at (catalogue s.calls)) p.0)) s.charges ≡ s.charges
  pub revenue : crowns (appraised revenue_of revenues revenue_worth (contest_at (catalogue s.calls))) ≡ Some s.answer.0
  pub sets : (appraised count_of counts count_worth (contest_at (catalogue s.calls))).number ≡ s.sets
  pub ways : option_map (λ p. (p.0, p.1.number)) (settled (appraised (tied_of count_of) (tied_over counts) (tied_worth count_worth) (contest_at (catalogue s.calls)))) ≡ Some s.ways
  pub top : (appraised best_of best_threes best_worth (contest_at (catalogue s.calls))).amounts ≡ s.top

-- what holds of each entry of a list
abbrev pub Each : {A : Type 0} → (A → Type 0) → List A → Type 0
Each P [] = Unit {0}
Each P (x ∷ xs) = P x × Each P xs

abbrev pub first_sale : ℕ → History
first_sale price = catalogue (lodge 1 10 1 ∷ lodge 2 price 2 ∷ lodge 3 5 3 ∷ [])

pub record WorkedOut : Type 0 where
  pub sales : Each ComesOut worked_sales
  -- buyer 2, to whom his bid is worth 6, bids 6, 9 and 4
  pub gains : map (λ price. gain (contest_at (first_sale 6)) (contest_at (first_sale price)) 2) (6 ∷ 9 ∷ 4 ∷ []) ≡ pos 1 ∷ pos 1 ∷ pos 0 ∷ []
  -- masks of three lots, after mask 5
  pub masks : answers (opened highest_mask_lot 3 4) (permit (mask_lots 5) ∷ permit (mask_lots 6) ∷ permit (mask_lots 7) ∷ permit (mask_lots 5) ∷ permit (mask_lots 4) ∷ [])
      ≡ accepted 1 ∷ refused (26, 1) ∷ refused (27, 1) ∷ refused (25, 1) ∷ accepted 2 ∷ []
  -- in Count
  pub greatest_count : (counts.mul (cut top_count 40000) (cut top_count 40000)).number ≡ 999999999
