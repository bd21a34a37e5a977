-- Contests are told apart by their totals.
use Rattle.std.proofs.Common.{◌≡◌, ℕ, zero, suc, ◌+◌, ◌<◌, ◌≤◌, Bool, true, false, cond, not, ◌&&◌, ◌||◌, eqb, ◌≢◌, List, [], ◌∷◌, map, length, get_or, sym, refl, ap, ◌∙◌, ap₂, ⊎_elim, arith}
use Rattle.std.proofs.Math.ListN.{length-map}
use Rattle.std.proofs.lemmas.Bool.{eq-eqb, ne_eqb, or_left, or_right, or_from, cases_eq, cases_lt}
use Rattle.scales.specs.Semiring.{Semiring, Laws}
use Rattle.contest.specs.Contest.{Contest}
use Rattle.contest.specs.Total.{from, total, worth}
use Rattle.scales.specs.Cut.{top_count}
use Rattle.scales.specs.Count.{Counts, counts, count_of}
use Rattle.scales.specs.Numbers.{upto_path}
use Rattle.scales.specs.CountLaws.{counting_laws}
use Rattle.scales.specs.declared.count.Count.{Count}
use Rattle.contest.specs.Telling.{Agree, SameAgree, AgreeSame}
use Rattle.contest.proofs.Algebra.{add_nought_right, mul_unit_right, unit_mul}
use Rattle.contest.proofs.Weigh.{weigh, weigh_is, weigh_same, without}

pub same_agree : {M : Type 0} (r : Semiring M) → SameAgree r
same_agree r laws c d same ws long =
    weigh_is laws c.clash (worth r ws) c.stands 1 c.count
    ∙ weigh_same r c.clash d.clash (worth r ws) (worth r ws) c.stands d.stands 1 c.count
    (λ x h k. same.stands x h (omega arith))
    (λ x h k e. refl)
    (λ a b h k l e f. same.clash a b h (omega arith) (omega arith) (omega arith) (omega arith) e f)
    ∙ ap (weigh r d.clash (worth r ws) d.stands 1) same.count
    ∙ sym (weigh_is laws d.clash (worth r ws) d.stands 1 d.count)

abbrev two : {M : Type 0} → Semiring M → M
two r = r.add r.unit r.unit

module _ {M : Type 0} {r : Semiring M} (laws : Laws r) (clash : ℕ → ℕ → Bool) (w : ℕ → M) where
  -- A bid worth nought adds nothing.
  skip : (p : ℕ → Bool) (first n : ℕ) → w first ≡ r.nought → weigh r clash w p first (suc n) ≡ weigh r clash w p (suc first) n
  skip p first n e = go (p first) (weigh r clash w p (suc first) n) (weigh r clash w (without clash first p) (suc first) n)
    where
      go : (v : Bool) (a b : M) → cond v (r.add a (r.mul (w first) b)) a ≡ a
      go true a b = ap (λ x. r.add a (r.mul x b)) e ∙ ap (r.add a) (laws.mul_nought b) ∙ add_nought_right laws a
      go false a b = refl

  weigh_noughts : (p : ℕ → Bool) (first n : ℕ) → ((x : ℕ) → first ≤ x → w x ≡ r.nought) → weigh r clash w p first n ≡ r.unit
  weigh_noughts p first zero none = refl
  weigh_noughts p first (suc n) none = skip p first n (none first (omega arith)) ∙ weigh_noughts p (suc first) n (λ x h. none x (omega arith))

  -- one bid that is worth the unit, the others nought
  weigh_one : (p : ℕ → Bool) (a first n : ℕ) → first ≤ a → a < first + n → w a ≡ r.unit → ((x : ℕ) → first ≤ x → x ≢ a → w x ≡ r.nought) → weigh r clash w p first n ≡ cond (p a) (two r) r.unit
  weigh_one p a first zero low high one none = absurd (omega arith)
  weigh_one p a first (suc n) low high one none =
      ⊎_elim
      (λ e. ap₂ (λ x y. cond (p first) (r.add x (r.mul (w first) y)) x) (rest p e) (rest (without clash first p) e)
      ∙ ap (λ x. cond (p first) (r.add r.unit x) r.unit) (mul_unit_right laws (w first) ∙ ap w e ∙ one)
      ∙ ap (λ x. cond (p x) (r.add r.unit r.unit) r.unit) e)
      (λ ne. skip p first n (none first (omega arith) ne) ∙ weigh_one p a (suc first) n (omega arith) (omega arith) one (λ x h. none x (omega arith)))
      (cases_eq first a)
    where
      rest : (q : ℕ → Bool) → first ≡ a → weigh r clash w q (suc first) n ≡ r.unit
      rest q e = weigh_noughts q (suc first) n (λ x h. none x (omega arith) (omega arith))

  -- (two r) standing bids that are worth the unit, the others nought: three if they clash, else four
  weigh_two : (p : ℕ → Bool) (a b first n : ℕ) → first ≤ a → a < b → b < first + n → w a ≡ r.unit → w b ≡ r.unit → ((x : ℕ) → x ≢ a → x ≢ b → w x ≡ r.nought) → p a ≡ true → p b ≡ true → weigh r clash w p first n ≡ r.add (two r) (cond (clash a b) r.unit (two r))
  weigh_two p a b first zero low ord high wa wb none pa pb = absurd (omega arith)
  weigh_two p a b first (suc n) low ord high wa wb none pa pb =
      ⊎_elim
      (λ e. ap (λ v. cond v (r.add (weigh r clash w p (suc first) n) (r.mul (w first) (weigh r clash w (without clash first p) (suc first) n))) (weigh r clash w p (suc first) n)) (ap p e ∙ pa)
      ∙ ap₂ r.add (rest p e ∙ ap (λ v. cond v (two r) r.unit) pb)
      (ap (λ x. r.mul x (weigh r clash w (without clash first p) (suc first) n)) (ap w e ∙ wa) ∙ unit_mul laws _ ∙ rest (without clash first p) e
      ∙ ap₂ (λ u x. cond (u && not (clash x b)) (two r) r.unit) pb e ∙ turned (clash a b)))
      (λ ne. skip p first n (none first ne (omega arith)) ∙ weigh_two p a b (suc first) n (omega arith) ord (omega arith) wa wb none pa pb)
      (cases_eq first a)
    where
      rest : (q : ℕ → Bool) → first ≡ a → weigh r clash w q (suc first) n ≡ cond (q b) (two r) r.unit
      rest q e = weigh_one q b (suc first) n (omega arith) (omega arith) wb (λ x h ne. none x (omega arith) ne)

      turned : (v : Bool) → cond (true && not v) (two r) r.unit ≡ cond v r.unit (two r)
      turned true = refl
      turned false = refl

-- worth the unit at (two r) bids, which may be one, and nought elsewhere
abbrev pick : ℕ → ℕ → ℕ → Counts
pick a b x = cond (eqb x a || eqb x b) counts.unit counts.nought

length_from : (first n : ℕ) → length (from first n) ≡ n
length_from first zero = refl
length_from first (suc n) = ap suc (length_from (suc first) n)

get_or_from : {M : Type 0} (f : ℕ → M) (d : M) (first n i : ℕ) → i < n → get_or (map f (from first n)) i d ≡ f (first + i)
get_or_from f d first zero i low = absurd (omega arith)
get_or_from f d first (suc n) zero low = let e : first ≡ first + 0 = omega arith in ap f e
get_or_from f d first (suc n) (suc i) low =
    let e : suc first + i ≡ first + suc i = omega arith in
    get_or_from f d (suc first) n i (omega arith) ∙ ap f e

worth_from : (f : ℕ → Counts) (n k : ℕ) → 1 ≤ k → k ≤ n → worth counts (map f (from 1 n)) k ≡ f k
worth_from f n zero low high = absurd (omega arith)
worth_from f n (suc k) low high = let e : 1 + k ≡ suc k = omega arith in get_or_from f _ 1 n k (omega arith) ∙ ap f e

pick_first : (a b : ℕ) → pick a b a ≡ counts.unit
pick_first a b = ap (λ v. cond v counts.unit counts.nought) (or_left _ _ (eq-eqb a a refl))

pick_second : (a b : ℕ) → pick a b b ≡ counts.unit
pick_second a b = ap (λ v. cond v counts.unit counts.nought) (or_right _ _ (eq-eqb b b refl))

pick_none : (a b x : ℕ) → x ≢ a → x ≢ b → pick a b x ≡ counts.nought
pick_none a b x na nb = ap (λ v. cond v counts.unit counts.nought) (or_from _ _ (ne_eqb x a na) (ne_eqb x b nb))

differ : (a b : Counts) → a ≡ b → a.number ≡ b.number
differ a b e = ap (λ x. x.number) e

-- two or one
one_tells : (u v : Bool) → cond u (two counts) counts.unit ≡ cond v (two counts) counts.unit → u ≡ v
one_tells true true e = refl
one_tells true false e = absurd (omega (arith, differ _ _ e))
one_tells false true e = absurd (omega (arith, differ _ _ e))
one_tells false false e = refl

-- three or four
two_tells : (u v : Bool) → counts.add (two counts) (cond u counts.unit (two counts)) ≡ counts.add (two counts) (cond v counts.unit (two counts)) → u ≡ v
two_tells true true e = refl
two_tells true false e = absurd (omega (arith, differ _ _ e))
two_tells false true e = absurd (omega (arith, differ _ _ e))
two_tells false false e = refl

module _ (c d : Contest) (bids : c.count ≡ d.count) (agree : Agree counts c d) where
  weighs : (e : Contest) (n a b : ℕ) → e.count ≡ n → total counts e (map (pick a b) (from 1 n)) ≡ weigh counts e.clash (pick a b) e.stands 1 n
  weighs e n a b same =
      weigh_is (counting_laws top_count) e.clash (worth counts (map (pick a b) (from 1 n))) e.stands 1 e.count
      ∙ ap (weigh counts e.clash (worth counts (map (pick a b) (from 1 n))) e.stands 1) same
      ∙ weigh_same counts e.clash e.clash (worth counts (map (pick a b) (from 1 n))) (pick a b) e.stands e.stands 1 n (λ x h k. refl) (λ x h k s. worth_from (pick a b) n x h (omega arith)) (λ x y h k l s t. refl)

  both : (a b : ℕ) → weigh counts c.clash (pick a b) c.stands 1 c.count ≡ weigh counts d.clash (pick a b) d.stands 1 c.count
  both a b =
      sym (weighs c c.count a b refl)
      ∙ agree (map (pick a b) (from 1 c.count)) (length-map (from 1 c.count) (pick a b) ∙ length_from 1 c.count)
      ∙ weighs d c.count a b (sym bids)

  stands_same : (a : ℕ) → 1 ≤ a → a ≤ c.count → c.stands a ≡ d.stands a
  stands_same a low high = one_tells (c.stands a) (d.stands a) (sym (one c) ∙ both a a ∙ one d)
    where
      one : (e : Contest) → weigh counts e.clash (pick a a) e.stands 1 c.count ≡ cond (e.stands a) (two counts) counts.unit
      one e = weigh_one (counting_laws top_count) e.clash (pick a a) e.stands a 1 c.count low (omega arith) (pick_first a a) (λ x h ne. pick_none a a x ne ne)

  clash_same : (a b : ℕ) → 1 ≤ a → a < b → b ≤ c.count → c.stands a ≡ true → c.stands b ≡ true → c.clash a b ≡ d.clash a b
  clash_same a b low ord high sa sb =
      two_tells (c.clash a b) (d.clash a b) (sym (four c sa sb) ∙ both a b ∙ four d (sym (stands_same a low (omega arith)) ∙ sa) (sym (stands_same b (omega arith) high) ∙ sb))
    where
      four : (e : Contest) → e.stands a ≡ true → e.stands b ≡ true → weigh counts e.clash (pick a b) e.stands 1 c.count ≡ counts.add (two counts) (cond (e.clash a b) counts.unit (two counts))
      four e ea eb = weigh_two (counting_laws top_count) e.clash (pick a b) e.stands a b 1 c.count low ord (omega arith) (pick_first a b) (pick_second a b) (pick_none a b) ea eb

pub agree_same : AgreeSame
agree_same c d sc sd bids agree = record {
  count = bids;
  stands = stands_same c d bids agree;
  clash = λ a b la ha lb hb ne sa sb. ⊎_elim
      (λ lt. clash_same c d bids agree a b la lt hb sa sb)
      (λ ge. sc a b ∙ clash_same c d bids agree b a lb (omega arith) ha sb sa ∙ sd b a)
      (cases_lt a b);
}

-- Every count is what some value of the code means.
coded : (ws : List Counts) → (vs : List Count) × (map count_of vs ≡ ws) × (length vs ≡ length ws)
coded [] = ([], refl, refl)
coded (w ∷ ws) =
    let rest = coded ws in
    (record { number = w.number } ∷ rest.0, ap₂ ◌∷◌ (upto_path _ _ (omega (arith, w.within))) rest.1, ap suc rest.2)

pub agree_coded : (c d : Contest) → ((vs : List Count) → length vs ≡ c.count → total counts c (map count_of vs) ≡ total counts d (map count_of vs)) → Agree counts c d
agree_coded c d agree ws long =
    let t = coded ws in
    ap (total counts c) (sym t.1) ∙ agree t.0 (t.2 ∙ long) ∙ ap (total counts d) t.1
