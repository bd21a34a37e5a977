-- From the best choices inside the packages of a nest down to its award.
use Rattle.std.proofs.Common.{◌≡◌, ℕ, zero, suc, ◌+◌, ◌-◌, ◌<◌, ◌≤◌, Bool, true, ◌&&◌, ◌||◌, eqb, List, length, get_or, set, Some, None, Option, unwrap_or, sym, refl, ap, ◌∙◌, subst, ⊎_elim, arith, get_or-set_other, get_or-set_same, vec_len, vec_items}
use Rattle.std.specs.Option.{option_eq}
use Rattle.std.proofs.lemmas.Bool.{cases_eq, ne_eqb, eq-eqb, or_left}
use Rattle.scales.specs.Cut.{top_amount}
use Rattle.scales.specs.Tied.{tied_of}
use Rattle.scales.specs.Lowest.{lowest_of}
use Rattle.scales.specs.declared.tied.Tied.{Tied}
use Rattle.scales.specs.declared.lowest.Lowest.{Lowest}
use Rattle.contest.specs.Contest.{Contest, award, best_revenue}
use Rattle.contest.specs.Choices.{choose}
use Rattle.contest.specs.Descent.{Descends, wins, IsLowest}
use Rattle.contest.proofs.Bounds.{best_bound}
use Rattle.contest.proofs.Scaling.{total_lowest}
use Rattle.contest.proofs.Opening.{descent}
use Rattle.bids.specs.declared.bid.Bid.{Bid}
use Rattle.bids.specs.Bids.{no_bid}
use Rattle.bids.proofs.Numbering.{bid_next}
use Rattle.bids.specs.Limits.{highest_price}
use Rattle.nest.specs.declared.nest.Nest.{Nest}
use Rattle.nest.specs.Placed.{up_to, Lower}
use Rattle.nest.specs.Contests.{above, parent_in, on_in, price_in, contest_of_nest, contest_inside_nest}
use Rattle.nest.specs.Choosing.{worth_by, low_in, lowest_inside, choice_of}
use Rattle.nest.proofs.Upward.{nested_of, parent_first}

-- Package g + 1 is outermost, or passes a test that its parent is asked.
module _ (ps : List (Option ℕ)) (g : ℕ) (test : ℕ → Bool) (r : Bool) where
  parent_at : (o : Option ℕ) → get_or ps g None ≡ o → parent_in ps (g + 1) ≡ above o
  parent_at o is = let e : g + 1 ≡ suc g = omega arith in ap (parent_in ps) e ∙ ap above is

  pub open_outermost : r ≡ true → get_or ps g None ≡ None → r ≡ (eqb (parent_in ps (g + 1)) 0 || test (parent_in ps (g + 1)))
  open_outermost e is = e ∙ sym (or_left _ _ (eq-eqb _ 0 (parent_at None is)))

  pub open_inner : (p : ℕ) → get_or ps g None ≡ Some p → Lower ps → g < length ps → r ≡ test p → r ≡ (eqb (parent_in ps (g + 1)) 0 || test (parent_in ps (g + 1)))
  open_inner p is low within asked =
      let first = (parent_first g p (ap (up_to g) (sym is) ∙ low g within)).0 in
      asked ∙ ap (λ t. t || test p) (sym (ne_eqb p 0 (λ none. omega arith))) ∙ ap (λ q. eqb q 0 || test q) (sym (parent_at (Some p) is))

-- A number that is there is the one that is asked for.
pub number_is : (o : Option ℕ) (n k : ℕ) → unwrap_or o 0 ≡ n → 1 ≤ k → option_eq eqb o (Some k) ≡ eqb n k
number_is None n k is low = sym (ne_eqb n k (λ e. omega arith))
number_is (Some m) n k is low = ap (λ j. eqb j k) is

-- Whether the next bid, on package p, wins.
pub wins_next : (bids : List Bid) (i p : ℕ) (low : ℕ → ℕ) (opened : ℕ → Bool) (r : Bool) → p ≡ (get_or bids i no_bid).«package» → r ≡ (opened p && eqb (low p) (i + 1)) → r ≡ wins (on_in bids) low opened (i + 1)
wins_next bids i p low opened r is made = made ∙ ap (λ q. opened q && eqb (low q) (i + 1)) (is ∙ sym (ap (λ (b : Bid). b.«package») (bid_next bids i)))

-- One entry more of a list, counted from 1.
pub entries_more : {A : Type 0} (d : A) (s : ℕ → A) (xs : List A) (i : ℕ) (r : A) → i < length xs → ((k : ℕ) → 1 ≤ k → k ≤ i → get_or xs (k - 1) d ≡ s k) → r ≡ s (i + 1) → (k : ℕ) → 1 ≤ k → k ≤ i + 1 → get_or (set xs i r) (k - 1) d ≡ s k
entries_more d s xs i r room so_far made k low high =
    ⊎_elim
    (λ e. (let at : k - 1 ≡ i = omega arith in ap (λ j. get_or (set xs i r) j d) at ∙ get_or-set_same xs i r d room ∙ made ∙ ap s (sym e)))
    (λ ne. get_or-set_other xs i (k - 1) r d (λ at. omega arith) ∙ so_far k low (omega arith))
    (cases_eq k (i + 1))

-- the worth of a bid as a choice
choice_is : (bids : List Bid) (k : ℕ) → 1 ≤ k → worth_by (tied_of lowest_of) choice_of bids k ≡ choose top_amount (price_in bids k) k
choice_is bids zero low = absurd (omega arith)
choice_is bids (suc k) low = refl

module _ (n : Nest) where
  -- No set of bids fetches the greatest amount of the scales.
  pub below_top : (c : Contest) → c.count ≡ length (vec_items n.bids) → ((k : ℕ) → c.price k ≡ price_in (vec_items n.bids) k) → best_revenue c < top_amount
  below_top c count prices =
      let l = best_bound c highest_price (λ k a b. let t = (n.bids_placed (k - 1) (omega (arith, a, b, count))).2 in omega (arith, prices k, t)) in
      omega (arith, l, count, n.bids.ok.0, n.bids_few)

  module _ (best : List (Tied Lowest)) (lowest : (g : ℕ) → 1 ≤ g → g ≤ vec_len n.parents → low_in best g ≡ lowest_inside n g) where
    inside_lowest : (g : ℕ) → 1 ≤ g → g ≤ vec_len n.parents → IsLowest (contest_inside_nest n g) (low_in best g)
    inside_lowest g a b =
        subst (IsLowest (contest_inside_nest n g)) (sym (lowest g a b))
        (total_lowest top_amount (contest_inside_nest n g) (below_top (contest_inside_nest n g) refl (λ k. refl)) _ (λ k l h. choice_is (vec_items n.bids) k l))

    pub wins_award : (opened : ℕ → Bool) → Descends (length (vec_items n.bids)) (vec_len n.parents) (on_in (vec_items n.bids)) (parent_in (vec_items n.parents)) (low_in best) opened
        → (k : ℕ) → 1 ≤ k → k ≤ length (vec_items n.bids) → wins (on_in (vec_items n.bids)) (low_in best) opened k ≡ award (contest_of_nest n) k
    wins_award opened down k a b =
        sym (descent (contest_of_nest n) (vec_len n.parents) (on_in (vec_items n.bids)) (parent_in (vec_items n.parents)) (nested_of n) (low_in best) inside_lowest opened down k (a, b))
