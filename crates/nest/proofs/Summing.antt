-- The search for a buyer, sums over winning bids, and from them to a charge.
use Rattle.std.proofs.Common.{◌≡◌, ℕ, ◌+◌, ◌-◌, ◌<◌, ◌≤◌, Bool, true, false, cond, ◌&&◌, eqb, length, Some, None, vec_items, MatchBool, sym, refl, ap, ◌∙◌, arith}
use Rattle.std.specs.List.{AllWithin, HoldsAt}
use Rattle.std.proofs.lemmas.Bool.{eq-eqb, ne_eqb}
use Rattle.scales.specs.Revenue.{no_revenue, revenues, revenue_of, revenue_worth, crowns}
use Rattle.scales.specs.declared.revenue.Revenue.{Revenue}
use Rattle.contest.specs.Contest.{Contest, Bids, sum_over, best_revenue, without, has_bid, charge}
use Rattle.contest.specs.Total.{total_by}
use Rattle.contest.proofs.Sums.{sum_same, some_from, some_none}
use Rattle.contest.proofs.Charging.{others_sum, charge_is}
use Rattle.contest.proofs.Revenues as Revenues
use Rattle.contest.proofs.Weigh.{total_worths}
use Rattle.bids.specs.declared.bid.Bid.{Bid}
use Rattle.bids.specs.Bids.{no_bid}
use Rattle.bids.proofs.Numbering.{bid_next}
use Rattle.nest.specs.declared.nest.Nest.{Nest}
use Rattle.nest.specs.Contests.{buyer_in, price_in, contest_of_nest}
use Rattle.nest.specs.Choosing.{worth_by, price_without}
use Rattle.nest.proofs.Downward.{below_top}

-- What counts 0 where a test fails is as good as not in the set.
pub sum_within : (n : ℕ) (s t : Bids) (f : ℕ → ℕ) → sum_over n s (λ k. cond (t k) (f k) 0) ≡ sum_over n (λ k. s k && t k) f
sum_within n s t f = sum_same n _ _ (λ k low high. both (s k) (t k) (f k))
  where
    both : (x y : Bool) (v : ℕ) → cond x (cond y v 0) 0 ≡ cond (x && y) v 0
    both true y v = refl
    both false y v = refl

module _ (n : Nest) (b : ℕ) where
  abbrev it : Contest
  it = contest_of_nest n

  -- Whether some bid is the buyer's.
  pub buyer_found : (r : Bool) → MatchBool r ((i : ℕ) × (i < length (vec_items n.bids)) × HoldsAt (λ (x : Bid). x.buyer ≡ b) (vec_items n.bids) i) (AllWithin (λ (x : Bid). x.buyer ≡ b → ⊥) (vec_items n.bids) 0 (length (vec_items n.bids)))
      → r ≡ has_bid it b
  buyer_found true (i, low, his) =
      sym (some_from (length (vec_items n.bids)) (λ k. eqb (buyer_in (vec_items n.bids) k) b) (i + 1) (omega arith) (omega arith) (eq-eqb _ b (ap (λ (x : Bid). x.buyer) (bid_next (vec_items n.bids) i) ∙ his no_bid)))
  buyer_found false none =
      sym (some_none (length (vec_items n.bids)) (λ k. eqb (buyer_in (vec_items n.bids) k) b) (λ k low high. ne_eqb _ b (none (k - 1) no_bid (omega arith) (omega arith))))

  -- What the others could have fetched without the buyer.
  pub without_is : crowns (total_by revenues it (worth_by revenue_of (price_without b) (vec_items n.bids))) ≡ Some (best_revenue (without it b))
  without_is =
      ap crowns (total_worths Revenues.revenues_laws it _ _ (λ k low high. turned (eqb (buyer_in (vec_items n.bids) k) b) (revenue_worth (price_in (vec_items n.bids) k))))
      ∙ Revenues.without_total it b (below_top n (without it b) refl (λ k. refl))
    where
      turned : (v : Bool) (x : Revenue) → revenue_of (cond v no_revenue x) ≡ cond v None (revenue_of x)
      turned true x = refl
      turned false x = refl

  pub charge_from : (others greatest : ℕ) → others ≡ others_sum it b → greatest ≡ best_revenue (without it b) → (others ≤ greatest) × (greatest - others ≡ charge it b)
  charge_from others greatest e h = (let c = charge_is it b in (omega arith, omega arith))
