-- The semiring of choices is one of amounts with the lowest bid number.
use Rattle.std.proofs.Common.{◌≡◌, ℕ, zero, suc, ◌+◌, ◌<◌, ◌≤◌, min, cond, ltb, Some, None, Option, sym, refl, ap, ◌∙◌, subst, ap₂, arith}
use Rattle.std.proofs.Math.Bridge.{le_prop}
use Rattle.std.proofs.Math.Decide.{dec_lt}
use Rattle.std.proofs.lemmas.Bool.Decides.{nat_tests}
use Rattle.std.proofs.lemmas.Bool.{lt-ltb, le-ltb, cond-true, cond-false}
use Rattle.contest.specs.Contest.{Contest, best_revenue}
use Rattle.contest.specs.Descent.{IsLowest}
use Rattle.scales.specs.Semiring.{Laws}
use Rattle.contest.specs.Total.{total_by}
use Rattle.contest.specs.Choices.{lesser, Choices}
use Rattle.scales.specs.Adjoined.{add_some, mul_both}
use Rattle.scales.specs.Tied.{Tie, over, amount, tie, tie_add, tie_mul, ties}
use Rattle.scales.specs.Lowest.{First, bid, lesser as lesser_first, firsts, lowests}
use Rattle.scales.specs.TieLaws.{ties_laws}
use Rattle.scales.specs.AdjoinedLaws.{adjoined_laws}
use Rattle.scales.specs.LowestLaws.{firsts_laws}
use Rattle.contest.specs.Choices.{Choice, choices, first_of, choose, amount_of, number_of}
use Rattle.contest.proofs.Weigh.{total_worths}
use Rattle.contest.proofs.Choosing as Choosing

pub lesser_is : (x y : ℕ) → lesser_first (first_of x) (first_of y) ≡ first_of (lesser x y)
lesser_is zero y = refl
lesser_is (suc x) zero = (let e : lesser (suc x) 0 ≡ suc x = grind (arith, nat_tests) in sym (ap first_of e))
lesser_is (suc x) (suc y) =
    let e : lesser (suc x) (suc y) ≡ suc (min x y) = grind (arith, nat_tests) in
    let d : min (suc x) (suc y) ≡ suc (min x y) = omega arith in
    ap bid d ∙ sym (ap first_of e)

-- Below the limit a tie is its amount.
tie_below : (limit : ℕ) {M : Type 0} (n : ℕ) (x : M) (h : n < limit) → tie limit n x ≡ amount n h x
tie_below limit n x h = go (dec_lt n limit)
  where
    go : (d : Dec (n < limit)) → elim d [ yes g ↦ amount n g x | no g ↦ over ] ≡ amount n h x
    go (yes g) = ap (λ w. amount n w x) (le_prop g h)
    go (no g) = absurd (g h)

module _ (limit : ℕ) where
  abbrev inner : Option First → Option First → Option First
  inner = add_some lesser_first

  abbrev held : ℕ → ℕ → Tie limit (Option First)
  held a x = tie limit a (Some (first_of x))

  both_below : (a x b y : ℕ) (h : a < limit) (k : b < limit) → tie_add limit inner (held a x) (held b y) ≡ cond (ltb a b) (amount b k (Some (first_of y))) (cond (ltb b a) (amount a h (Some (first_of x))) (amount a h (Some (lesser_first (first_of x) (first_of y)))))
  both_below a x b y h k = ap₂ (tie_add limit inner) (tie_below limit a (Some (first_of x)) h) (tie_below limit b (Some (first_of y)) k)

  pub choices_are : Choices (choices limit) (choose limit) limit
  choices_are =
      record {
        add_nought = added;
        unit_is = refl;
        add_less =
            λ a x b y k l.
            (let h : a < limit = omega arith in
            ap Some (both_below a x b y h k ∙ cond-true (ltb a b) _ _ (lt-ltb a b l) ∙ sym (tie_below limit b (Some (first_of y)) k)));
        add_more =
            λ a x b y h l.
            (let k : b < limit = omega arith in
            ap Some (both_below a x b y h k ∙ cond-false (ltb a b) _ _ (le-ltb a b (omega arith)) ∙ cond-true (ltb b a) _ _ (lt-ltb b a l) ∙ sym (tie_below limit a (Some (first_of x)) h)));
        add_equal =
            λ a x y h.
            ap Some (both_below a x a y h h ∙ cond-false (ltb a a) _ _ (le-ltb a a (omega arith)) ∙ cond-false (ltb a a) _ _ (le-ltb a a (omega arith)) ∙ ap (λ f. amount a h (Some f)) (lesser_is x y) ∙ sym (tie_below limit a (Some (first_of (lesser x y))) h));
        mul_is =
            λ a x b y l.
            (let h : a < limit = omega arith in
            let k : b < limit = omega arith in
            ap Some (ap₂ (tie_mul limit (mul_both lesser_first)) (tie_below limit a (Some (first_of x)) h) (tie_below limit b (Some (first_of y)) k) ∙ ap (λ f. tie limit (a + b) (Some f)) (lesser_is x y)));
      }
    where
      added : (v : Choice limit) → add_some (tie_add limit inner) v None ≡ v
      added None = refl
      added (Some x) = refl

  -- What a choice below the limit holds.
  amount_is : (a x : ℕ) → a < limit → amount_of (choose limit a x) ≡ a
  amount_is a x h = ap (λ t. amount_of {limit = limit} (Some t)) (tie_below limit a (Some (first_of x)) h)

  number_is : (a x : ℕ) → a < limit → number_of (choose limit a x) ≡ x
  number_is a x h = ap (λ t. number_of {limit = limit} (Some t)) (tie_below limit a (Some (first_of x)) h) ∙ go x
    where
      go : (y : ℕ) → number_of {limit = limit} (Some (amount a h (Some (first_of y)))) ≡ y
      go zero = refl
      go (suc y) = refl

  pub choices_total : (c : Contest) → best_revenue c < limit → (amount_of (total_by (choices limit) c (λ k. choose limit (c.price k) k)) ≡ best_revenue c) × IsLowest c (number_of (total_by (choices limit) c (λ k. choose limit (c.price k) k)))
  choices_total c l =
      let w = Choosing.total_chooses (choices limit) (choose limit) limit choices_are c l in
      (ap amount_of w.1 ∙ amount_is (best_revenue c) w.0 l, subst (IsLowest c) (sym (ap number_of w.1 ∙ number_is (best_revenue c) w.0 l)) w.2)

pub choices_laws : (limit : ℕ) → Laws (choices limit)
choices_laws limit = adjoined_laws (ties limit lowests) (ties_laws limit lowests (adjoined_laws firsts firsts_laws))

-- The lowest number of a total whose worths are known for the bids only.
pub total_lowest : (limit : ℕ) (c : Contest) → best_revenue c < limit → (w : ℕ → Choice limit) → ((k : ℕ) → 1 ≤ k → k ≤ c.count → w k ≡ choose limit (c.price k) k) → IsLowest c (number_of (total_by (choices limit) c w))
total_lowest limit c below w same =
    subst (λ v. IsLowest c (number_of v)) (sym (total_worths (choices_laws limit) c w (λ k. choose limit (c.price k) k) same)) (choices_total limit c below).1
