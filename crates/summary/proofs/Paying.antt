-- What the buyers with a winning bid pay.
use Rattle.std.proofs.Common.{◌≡◌, ℕ, zero, suc, ◌+◌, ◌≤◌, Bool, true, false, cond, ◌&&◌, ◌||◌, eqb, if◌then◌else◌, List, [], ◌∷◌, ◌++◌, map, Some, None, Ok, Err, Option, Result, Vec, vec_items, IfOk, sym, refl, ap, ◌∙◌, inl, inr, arith}
use Rattle.std.specs.declared.alloc.Global.{Global}
use Rattle.std.specs.declared.ops.RangeInclusive.{RangeInclusive}
use Rattle.std.specs.List.{filter_map, cons_option, list_any}
use Rattle.std.specs.Result.{result_ok}
use Rattle.std.proofs.iter.runs.Sources.{nat_range_inclusive_steps}
use Rattle.std.proofs.lemmas.Iterator.{YieldsList}
use Rattle.std.proofs.lemmas.Bool.{and_parts, and_from, or_cases, or_left, or_right, le-leb}
use Rattle.std.proofs.lemmas.List.{map-append}
use Rattle.std.proofs.lemmas.List.Folds.{list_any-append}
use Rattle.bids.specs.Limits.{is_buyer, highest_buyer}
use Rattle.contest.specs.Contest.{Contest, some, award, has_bid, charge}
use Rattle.contest.specs.Total.{from, keep}
use Rattle.contest.proofs.Algebra.{keep_append, not_true}
use Rattle.contest.proofs.Listing.{from_more}
use Rattle.nest.specs.declared.fault.ChargeFault.{ChargeFault}
use Rattle.nest.specs.declared.fault.ChargeFault.TheVariants.{Buyer, NoBid}
use Rattle.nest.specs.Charges.{Charged, charge_check, charge_refusal}
use Rattle.summary.specs.declared.contents.Payment.{Payment}
use Rattle.summary.specs.declared.contents.Winner.{Winner}
use Rattle.summary.specs.Reports.{winner_of, winners_of, wins_some, payment_of, payments_of}
use Rattle.summary.proofs.Yielding.{numbers_yielded}

-- all buyers, from the lowest number; shut, so that no proof counts them up
pub buyers : List ℕ
buyers = from 1 highest_buyer

pub buyers_yielded : (s : RangeInclusive ℕ) → s.start ≡ 1 → s.end ≡ highest_buyer → s.exhausted ≡ false → YieldsList nat_range_inclusive_steps (λ x. x) s buyers
unfolding buyers
buyers_yielded s = numbers_yielded s 1 highest_buyer

-- a test of what is listed of the numbers that pass
any_listed : {A : Type 0} (f : ℕ → A) (p : ℕ → Bool) (q : A → Bool) (n : ℕ) → list_any q (map f (keep p (from 1 n))) ≡ some n (λ k. p k && q (f k))
any_listed f p q zero = refl
any_listed f p q (suc n) =
    ap (λ l. list_any q (map f (keep p l))) (from_more 1 n ∙ ap (λ k. from 1 n ++ (k ∷ [])) next)
    ∙ ap (λ l. list_any q (map f l)) (keep_append p (from 1 n) (suc n ∷ []))
    ∙ ap (list_any q) (map-append f (keep p (from 1 n)) (cond (p (suc n)) (suc n ∷ []) []))
    ∙ list_any-append q (map f (keep p (from 1 n))) (map f (cond (p (suc n)) (suc n ∷ []) []))
    ∙ (λ i. any_listed f p q n i || last (p (suc n)) i)
  where
    next : 1 + n ≡ suc n
    next = omega arith

    last : (b : Bool) → list_any q (map f (cond b (suc n ∷ []) [])) ≡ (b && q (f (suc n)))
    last true = elim (q (f (suc n))) as (λ v. (v || false) ≡ v) [ true ↦ refl | false ↦ refl ]
    last false = refl

-- whether one of the bids is the buyer's
abbrev pub has_bid_in : List Winner → ℕ → Bool
has_bid_in winners b = list_any (λ (w : Winner). eqb w.buyer b) winners

some_wider : (n : ℕ) (p q : ℕ → Bool) → ((k : ℕ) → p k ≡ true → q k ≡ true) → some n p ≡ true → some n q ≡ true
some_wider zero p q wider h = h
some_wider (suc n) p q wider h =
    elim (or_cases (some n p) (p (suc n)) h) [
      | inl e ↦ or_left (some n q) (q (suc n)) (some_wider n p q wider e)
      | inr e ↦ or_right (some n q) (q (suc n)) (wider (suc n) e)
    ]

module _ (c : Contest) where
  -- what a buyer pays, if he has a winning bid
  abbrev pub due : ℕ → Option Payment
  due b = if is_buyer b && wins_some c b then Some (payment_of c b) else None

  pub wins_is : (winners : List Winner) (b : ℕ) (found : Bool) → winners ≡ winners_of c → found ≡ has_bid_in winners b → wins_some c b ≡ found
  wins_is winners b found is h = sym (h ∙ ap (λ l. has_bid_in l b) is ∙ any_listed (winner_of c) (award c) (λ w. eqb w.buyer b) c.count)

  -- a buyer with a winning bid is not refused
  passes : (b : ℕ) → (is_buyer b && wins_some c b) ≡ true → charge_check c b ≡ None
  passes b e =
      let parts = and_parts _ _ e in
      let has : has_bid c b ≡ true = some_wider c.count _ _ (λ k h. (and_parts _ _ h).1) parts.1 in
      ap (λ x. cond x (cond (has_bid c b) None (Some (charge_refusal NoBid))) (Some (charge_refusal Buyer))) parts.0 ∙ ap (λ x. cond x None (Some (charge_refusal NoBid))) has

  due_none : (b : ℕ) → (is_buyer b && wins_some c b) ≡ false → None ≡ due b
  due_none b e = ap (λ x. if x then Some (payment_of c b) else None) (sym e)

  pub due_loser : (b : ℕ) → wins_some c b ≡ false → None ≡ due b
  due_loser b e = due_none b (not_true _ (λ h. let z : false ≡ true = sym e ∙ (and_parts _ _ h).1 in cc))

  pub due_refused : (b : ℕ) (r : Result ℕ ChargeFault) → Charged c b r → result_ok r ≡ None → None ≡ due b
  due_refused b (Ok v) h e = cc
  due_refused b (Err f) h e = due_none b (not_true _ (λ t. let z = sym h.0 ∙ passes b t in cc))

  pub due_winner : (b : ℕ) (r : Result ℕ ChargeFault) (amount : ℕ) → wins_some c b ≡ true → Charged c b r → result_ok r ≡ Some amount → Some (record { buyer = b; amount = amount }) ≡ due b
  due_winner b (Err f) amount wins h e = cc
  due_winner b (Ok v) amount wins h e =
      let is : amount ≡ charge c b = cc in
      let buyer : is_buyer b ≡ true = accepted (is_buyer b) h.0 in
      ap (λ n. Some (record { buyer = b; amount = n })) is ∙ ap (λ x. if x then Some (payment_of c b) else None) (sym (and_from _ _ buyer wins))
    where
      accepted : (x : Bool) → cond x (cond (has_bid c b) None (Some (charge_refusal NoBid))) (Some (charge_refusal Buyer)) ≡ None → x ≡ true
      accepted true e = refl
      accepted false e = cc

  listed_from : (first n : ℕ) → 1 ≤ first → first + n ≤ highest_buyer + 1 → filter_map due (from first n) ≡ map (payment_of c) (keep (wins_some c) (from first n))
  listed_from first zero low high = refl
  listed_from first (suc n) low high =
      let buyer : is_buyer first ≡ true = and_from _ _ (le-leb 1 first low) (le-leb first highest_buyer (omega arith)) in
      ap (λ x. cons_option (if x && wins_some c first then Some (payment_of c first) else None) (filter_map due (from (suc first) n))) buyer
      ∙ ap (cons_option (if wins_some c first then Some (payment_of c first) else None)) (listed_from (suc first) n (omega arith) (omega arith))
      ∙ listed (wins_some c first) (keep (wins_some c) (from (suc first) n))
    where
      listed : (x : Bool) (bs : List ℕ) → cons_option (if x then Some (payment_of c first) else None) (map (payment_of c) bs) ≡ map (payment_of c) (cond x (first ∷ bs) bs)
      listed true bs = refl
      listed false bs = refl

  pub payments_listed : {E : Type 0} (r : Result (Vec Payment Global) E) → IfOk r (λ v. vec_items v ≡ filter_map due buyers) → IfOk r (λ v. vec_items v ≡ payments_of c)
  unfolding buyers
  payments_listed (Ok v) is = is ∙ listed_from 1 highest_buyer (omega arith) (omega arith)
  payments_listed (Err e) is = tt
