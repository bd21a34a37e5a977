-- Two sales compared bid by bid.
use Rattle.std.proofs.Common.{◌≡◌, ℕ, suc, ◌+◌, ◌-◌, ◌<◌, ◌≤◌, Bool, true, false, not, ◌≢◌, List, length, get_or, sym, refl, ap, ◌∙◌, subst, ap₂, inl, inr, ⊎_elim, true≢false, arith}
use mathlib.Core.Bool.{false≢true}
use Rattle.std.specs.Bool.{MatchBool}
use Rattle.std.specs.List.{AllWithin, HoldsAt, range_with_len}
use Rattle.std.proofs.lemmas.List.FromFn.{length-range_with_len, get_or-range_with_len}
use Rattle.std.proofs.lemmas.Bool.{cases_lt, cases_Bool, not_from_false}
use Rattle.packages.specs.declared.relation.Relation.{Relation}
use Rattle.packages.specs.declared.relation.Relation.TheVariants.{Equal, Inside, Around, Apart, Crossing}
use Rattle.packages.specs.Lots.{Lots, has, apart}
use Rattle.packages.specs.Sets.{Stands}
use Rattle.packages.specs.Nest.{relation_of}
use Rattle.packages.specs.SetsLemmas.{stands_so, apart_says, apart_from}
use Rattle.contest.specs.Telling.{Same}
use Rattle.bids.specs.declared.bid.Bid.{Bid}
use Rattle.bids.specs.Bids.{no_bid, bid_at}
use Rattle.books.specs.Book.{Book}
use Rattle.books.specs.Nested.{Sound}
use Rattle.books.specs.Contests.{contest_of, lots_of}
use Rattle.books.proofs.Promised.{clash_sym}
use Rattle.sale.specs.Compared.{shares, clash_in, AlikeAt}

-- Sets that are not empty share a lot unless they are apart.
pub shares_is : (s t : Lots) (i j : ℕ) → has s i ≡ true → has t j ≡ true → shares (relation_of s t) ≡ not (apart s t)
shares_is s t i j x y = go (relation_of s t) (stands_so s t)
  where
    meets : (k : ℕ) → has s k ≡ true → has t k ≡ true → true ≡ not (apart s t)
    meets k a b = elim (cases_Bool (apart s t)) [ inl e ↦ absurd (apart_says s t e k a b) | inr e ↦ sym (not_from_false (apart s t) e) ]

    go : (r : Relation) → Stands s t r → shares r ≡ not (apart s t)
    go Equal w = meets i x (w.0 i x)
    go Inside w = meets i x (w.0 i x)
    go Around w = meets j (w.1 j y) y
    go Apart w = sym (ap not (apart_from s t w.2))
    go Crossing w = elim (cases_Bool (apart s t)) [ inl e ↦ absurd (w.2 (apart_says s t e)) | inr e ↦ sym (not_from_false (apart s t) e) ]

-- In a sound book bids clash as read from the lists.
module _ (b : Book) (sound : Sound b) where
  pub clash_is : (m n : ℕ) → 1 ≤ m → m ≤ length b.bids → 1 ≤ n → n ≤ length b.bids → clash_in b.packages b.bids (m - 1) (n - 1) ≡ (contest_of b).clash m n
  clash_is m n lm hm ln hn =
      let p = (sound.nest.fits (bid_at b.bids m).«package» (sound.bids m lm hm).on_package).0 in
      let q = (sound.nest.fits (bid_at b.bids n).«package» (sound.bids n ln hn).on_package).0 in
      shares_is (lots_of b m) (lots_of b n) p.0 q.0 p.1 q.1

not_same : (x y : Bool) → not x ≡ not y → x ≡ y
not_same true true e = refl
not_same true false e = absurd (false≢true e)
not_same false true e = absurd (true≢false e)
not_same false false e = refl

not_back : (x : Bool) → not x ≡ true → x ≡ false
not_back true e = sym e
not_back false e = refl

module _ (b d : Book) (sb : Sound b) (sd : Sound d) where
  abbrev Alike : ℕ → Type 0
  Alike = AlikeAt b.packages d.packages b.bids d.bids

  pub same_from : length b.bids ≡ length d.bids → ((k : ℕ) → k < length b.bids → Alike k) → Same (contest_of b) (contest_of d)
  same_from many each = record {
    count = many;
    stands = λ n l h. ap not (each (n - 1) (omega arith)).stands;
    clash = λ m n lm hm ln hn ne sm sn. ⊎_elim
        (λ lt. pair m n lm lt hn sm sn)
        (λ ge. clash_sym b m n ∙ pair n m ln (omega arith) hm sn sm ∙ clash_sym d n m)
        (cases_lt m n);
  }
    where
      pair : (m n : ℕ) → 1 ≤ m → m < n → n ≤ length b.bids → (contest_of b).stands m ≡ true → (contest_of b).stands n ≡ true → (contest_of b).clash m n ≡ (contest_of d).clash m n
      pair m n lm lt hn sm sn =
          sym (clash_is b sb m n lm (omega arith) (omega arith) hn)
          ∙ (each (n - 1) (omega arith)).clash (m - 1) (omega arith) (not_back _ sm) (not_back _ sn)
          ∙ clash_is d sd m n lm (omega (arith, many)) (omega arith) (omega (arith, many))

  pub same_each : Same (contest_of b) (contest_of d) → (k : ℕ) → k < length b.bids → Alike k
  same_each same k low = record {
    stands =
        let e : suc k - 1 ≡ k = omega arith in
        not_same _ _ (ap (λ i. not (get_or b.bids i no_bid).withdrawn) (sym e) ∙ same.stands (suc k) (omega arith) low ∙ ap (λ i. not (get_or d.bids i no_bid).withdrawn) e);
    clash = λ j lt wj wk.
        let e : suc k - 1 ≡ k = omega arith in
        let f : suc j - 1 ≡ j = omega arith in
        let ne : suc j ≢ suc k = omega arith in
        ap₂ (clash_in b.packages b.bids) (sym f) (sym e)
        ∙ clash_is b sb (suc j) (suc k) (omega arith) (omega arith) (omega arith) low
        ∙ same.clash (suc j) (suc k) (omega arith) (omega arith) (omega arith) low ne (ap (λ i. not (get_or b.bids i no_bid).withdrawn) f ∙ ap not wj) (ap (λ i. not (get_or b.bids i no_bid).withdrawn) e ∙ ap not wk)
        ∙ sym (clash_is d sd (suc j) (suc k) (omega arith) (omega (arith, same.count)) (omega arith) (omega (arith, same.count)))
        ∙ ap₂ (clash_in d.packages d.bids) f e;
  }

pub alike_moved : {ts ts' us us' : List Lots} {xs xs' ys ys' : List Bid} (k : ℕ) → ts ≡ ts' → us ≡ us' → xs ≡ xs' → ys ≡ ys' → AlikeAt ts us xs ys k → AlikeAt ts' us' xs' ys' k
alike_moved {ts' = ts'} {us} {us'} {xs} {xs'} {ys} {ys'} k p q r s a =
    subst (λ y. AlikeAt ts' us' xs' y k) s (subst (λ x. AlikeAt ts' us' x ys k) r (subst (λ u. AlikeAt ts' u xs ys k) q (subst (λ t. AlikeAt t us xs ys k) p a)))

-- an answer for all numbers below n
pub decided_below : (P : ℕ → Type 0) (r : Bool) (n : ℕ)
    → MatchBool r (AllWithin P (range_with_len 0 n) 0 (length (range_with_len 0 n))) ((k : ℕ) × (k < length (range_with_len 0 n)) × HoldsAt (λ x. P x → ⊥) (range_with_len 0 n) k)
    → (r ≡ true → (k : ℕ) → k < n → P k) × (((k : ℕ) → k < n → P k) → r ≡ true)
decided_below P true n h = (
  λ _ k low.
      let many = length-range_with_len 0 n in
      let at : 0 + k ≡ k = omega arith in
      subst P (get_or-range_with_len 0 n k 0 low ∙ at) (h k 0 (omega arith) (omega (arith, many))),
  λ _. refl,
)
decided_below P false n h = (
  λ e. absurd (false≢true e),
  λ all.
      let many = length-range_with_len 0 n in
      let low : h.0 < n = omega (arith, many, h.1) in
      let at : h.0 ≡ 0 + h.0 = omega arith in
      absurd (h.2 0 (subst P (at ∙ sym (get_or-range_with_len 0 n h.0 0 low)) (all h.0 low))),
)
