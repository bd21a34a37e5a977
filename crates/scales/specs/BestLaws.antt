-- The k greatest of a list, with sums of pairs, are lawful.
-- Two lists have the same k greatest if each sum over them is the same up to k, of every rising function that is the same at
-- a number and at the number cut. That passes through lists joined and through pair sums, so the laws follow from those of
-- lists.
use Rattle.std.specs.Prelude.{◌≡◌, ℕ, zero, suc, ◌+◌, ◌<◌, ◌≤◌, min, max, ◌⊎◌, List, [], ◌∷◌, ◌++◌, map, length, take, nat_le, refl}
use Rattle.std.proofs.Common.{append_assoc, ap, ap₂, ◌∙◌, ⊎_elim, add_comm, add_assoc, arith}
use Rattle.std.proofs.Math.Path.{sym}
use mathlib.Core.HLevel.{is_prop→PathP, ×_prop, Unit-prop}
use Rattle.std.proofs.Math.Bridge.{le_prop}
use Rattle.std.specs.List.{AllByRecursion, AllByRecursion-prop}
use Rattle.std.proofs.lemmas.Bool.{cases_lt, le-leb, lt-leb, cond-true, cond-false}
use Rattle.scales.specs.Best.{Falling, Best, insert, sorted, best, pair_sums, bests, sorted_falling, total, reaches, KeepsGreatest, OnlyGreatest}
use Rattle.scales.specs.Semiring.{Laws}
use Rattle.scales.specs.Totals.{total_same, total_le, total_append, total_map, total_pairs, total_pairs_second}

abbrev pub Rising : (ℕ → ℕ) → Type 0
Rising g = (x y : ℕ) → x ≤ y → g x ≤ g y

-- Sums over a sorted list and over its front.

pub ordered_pair : (g : ℕ → ℕ) (x y : ℕ) → g (max x y) + g (min x y) ≡ g x + g y
ordered_pair g x y = ⊎_elim lower upper (cases_lt x y)
  where
    lower : x < y → g (max x y) + g (min x y) ≡ g x + g y
    lower h =
        let e : max x y ≡ y = omega arith in
        let f : min x y ≡ x = omega arith in
        omega (arith, ap g e, ap g f)

    upper : y ≤ x → g (max x y) + g (min x y) ≡ g x + g y
    upper h =
        let e : max x y ≡ x = omega arith in
        let f : min x y ≡ y = omega arith in
        omega (arith, ap g e, ap g f)

total_insert : (g : ℕ → ℕ) (x : ℕ) (ys : List ℕ) → total g (insert x ys) ≡ g x + total g ys
unfolding insert
total_insert g x [] = refl
total_insert g x (y ∷ ys) = omega (arith, ordered_pair g x y, total_insert g (min x y) ys)

total_sorted : (g : ℕ → ℕ) (xs : List ℕ) → total g (sorted xs) ≡ total g xs
unfolding sorted
total_sorted g [] = refl
total_sorted g (x ∷ xs) = total_insert g x (sorted xs) ∙ ap (λ n. g x + n) (total_sorted g xs)

total_front_le : (g : ℕ → ℕ) (k : ℕ) (xs : List ℕ) → total g (take k xs) ≤ total g xs
total_front_le g zero xs = omega arith
total_front_le g (suc k) [] = omega arith
total_front_le g (suc k) (x ∷ xs) = omega (arith, total_front_le g k xs)

total_none : (g : ℕ → ℕ) → Rising g → (y : ℕ) (xs : List ℕ) → g y ≤ 0 → AllByRecursion (λ x. x ≤ y) xs → total g xs ≤ 0
total_none g r y [] h a = omega arith
total_none g r y (x ∷ xs) h a = omega (arith, r x y a.0, total_none g r y xs h a.1)

total_front : (g : ℕ → ℕ) → Rising g → (k : ℕ) (xs : List ℕ) → Falling xs → min k (total g (take k xs)) ≡ min k (total g xs)
total_front g r zero xs f = omega arith
total_front g r (suc k) [] f = refl
total_front g r (suc k) (x ∷ xs) f = step (total_front g r k xs f.1) (cases_lt 0 (g x))
  where
    step : min k (total g (take k xs)) ≡ min k (total g xs) → (0 < g x) ⊎ (g x ≤ 0) → min (suc k) (g x + total g (take k xs)) ≡ min (suc k) (g x + total g xs)
    step ih c =
        ⊎_elim
        (λ (h : 0 < g x). some ih h)
        (λ (h : g x ≤ 0). none (total_none g r x xs h f.0) (total_front_le g k xs)) c
      where
        some : min k (total g (take k xs)) ≡ min k (total g xs) → 0 < g x → min (suc k) (g x + total g (take k xs)) ≡ min (suc k) (g x + total g xs)
        some ih h = omega arith

        none : total g xs ≤ 0 → total g (take k xs) ≤ total g xs → min (suc k) (g x + total g (take k xs)) ≡ min (suc k) (g x + total g xs)
        none z le = let e : total g (take k xs) ≡ total g xs = omega arith in ap (λ n. min (suc k) (g x + n)) e

-- A falling list is known by how many of its numbers reach each threshold.

reaches_yes : (t x : ℕ) → t ≤ x → reaches t x ≡ 1
reaches_yes t x h = cond-true (nat_le t x) 1 0 (le-leb t x h)

reaches_no : (t x : ℕ) → x < t → reaches t x ≡ 0
reaches_no t x h = cond-false (nat_le t x) 1 0 (lt-leb t x h)

reaches_rising : (t : ℕ) → Rising (reaches t)
reaches_rising t x y h =
    ⊎_elim
    (λ (k : x < t). omega (arith, reaches_no t x k))
    (λ (k : t ≤ x). let j : t ≤ y = omega arith in omega (arith, reaches_yes t x k, reaches_yes t y j)) (cases_lt x t)

reaches_le : (t x : ℕ) → reaches t x ≤ 1
reaches_le t x =
    ⊎_elim (λ (k : x < t). omega (arith, reaches_no t x k)) (λ (k : t ≤ x). omega (arith, reaches_yes t x k)) (cases_lt x t)

count_le : (t : ℕ) (xs : List ℕ) → total (reaches t) xs ≤ length xs
count_le t [] = omega arith
count_le t (x ∷ xs) = omega (arith, reaches_le t x, count_le t xs)

count_none : (t y : ℕ) (xs : List ℕ) → y < t → AllByRecursion (λ x. x ≤ y) xs → total (reaches t) xs ≡ 0
count_none t y [] h a = refl
count_none t y (x ∷ xs) h a =
    let j : x < t = omega arith in
    omega (arith, reaches_no t x j, count_none t y xs h a.1)

SameCounts : List ℕ → List ℕ → Type 0
SameCounts xs ys = (t : ℕ) → total (reaches t) xs ≡ total (reaches t) ys

head_le : (x y : ℕ) (xs ys : List ℕ) → AllByRecursion (λ z. z ≤ x) xs → SameCounts (x ∷ xs) (y ∷ ys) → y ≤ x
unfolding SameCounts
head_le x y xs ys a e = ⊎_elim below (λ h. h) (cases_lt x y)
  where
    below : x < y → y ≤ x
    below h =
        let self : y ≤ y = omega arith in
        absurd (omega (arith, e y, reaches_no y x h, count_none y x xs h a, reaches_yes y y self))

falling_known : (xs ys : List ℕ) → Falling xs → Falling ys → SameCounts xs ys → xs ≡ ys
unfolding SameCounts
falling_known [] [] f g e = refl
falling_known [] (y ∷ ys) f g e =
    let self : y ≤ y = omega arith in
    absurd (omega (arith, e y, reaches_yes y y self))
falling_known (x ∷ xs) [] f g e =
    let self : x ≤ x = omega arith in
    absurd (omega (arith, e x, reaches_yes x x self))
falling_known (x ∷ xs) (y ∷ ys) f g e =
    let le : y ≤ x = head_le x y xs ys f.0 e in
    let ge : x ≤ y = head_le y x ys xs g.0 (λ t. sym (e t)) in
    let same : x ≡ y = omega arith in
    ap₂ ◌∷◌ same (falling_known xs ys f.1 g.1 (λ t. omega (arith, e t, ap (reaches t) same)))

-- A value is known by its amounts.

within_prop : (m : ℕ) (xs : List ℕ) → IsProp (AllByRecursion (λ x. x ≤ m) xs)
within_prop m = AllByRecursion-prop (λ x. x ≤ m) (λ x. le_prop)

falling_prop : (xs : List ℕ) → IsProp (Falling xs)
falling_prop [] = Unit-prop
falling_prop (x ∷ xs) = ×_prop (within_prop x xs) (falling_prop xs)

module _ {k limit : ℕ} where
  best_path : (a b : Best k limit) → a.amounts ≡ b.amounts → a ≡ b
  best_path a b p = λ i. record {
    amounts = p i;
    few = is_prop→PathP (λ j. length (p j) ≤ k) (λ j. le_prop) a.few b.few i;
    within = is_prop→PathP (λ j. AllByRecursion (λ x. x ≤ limit) (p j)) (λ j. within_prop limit (p j)) a.within b.within i;
    falling = is_prop→PathP (λ j. Falling (p j)) (λ j. falling_prop (p j)) a.falling b.falling i;
  }

-- A rising function that is the same at a number and at the number cut.
pub record Measure (limit : ℕ) (g : ℕ → ℕ) : Type 0 where
  pub rises : Rising g
  pub cuts : (x : ℕ) → g (min limit x) ≡ g x

cut_reaches : (limit t : ℕ) → Measure limit (λ x. reaches t (min limit x))
cut_reaches limit t = record {
  rises = λ x y h. reaches_rising t (min limit x) (min limit y) (omega arith);
  cuts = λ x. ap (reaches t) (omega arith);
}

measure_first : (limit : ℕ) (g : ℕ → ℕ) → Measure limit g → (y : ℕ) → Measure limit (λ x. g (x + y))
measure_first limit g γ y = record {
  rises = λ x x' h. γ.rises (x + y) (x' + y) (omega arith);
  cuts = λ x.
      (let e : min limit (min limit x + y) ≡ min limit (x + y) = omega arith in
      sym (γ.cuts (min limit x + y)) ∙ ap g e ∙ γ.cuts (x + y));
}

measure_second : (limit : ℕ) (g : ℕ → ℕ) → Measure limit g → (x : ℕ) → Measure limit (λ y. g (x + y))
measure_second limit g γ x = record {
  rises = λ y y' h. γ.rises (x + y) (x + y') (omega arith);
  cuts = λ y.
      (let e : min limit (x + min limit y) ≡ min limit (x + y) = omega arith in
      sym (γ.cuts (x + min limit y)) ∙ ap g e ∙ γ.cuts (x + y));
}

measure_total : (limit : ℕ) (f : ℕ → ℕ → ℕ) → ((y : ℕ) → Measure limit (f y)) → (ys : List ℕ) → Measure limit (λ x. total (λ y. f y x) ys)
measure_total limit f γ ys = record {
  rises = λ x x' h. total_le (λ y. f y x) (λ y. f y x') (λ y. (γ y).rises x x' h) ys;
  cuts = λ x. total_same (λ y. f y (min limit x)) (λ y. f y x) (λ y. (γ y).cuts x) ys;
}

count_within : (limit t : ℕ) (xs : List ℕ) → AllByRecursion (λ x. x ≤ limit) xs → total (λ x. reaches t (min limit x)) xs ≡ total (reaches t) xs
count_within limit t [] a = refl
count_within limit t (x ∷ xs) a =
    let e : min limit x ≡ x = omega arith in
    ap₂ ◌+◌ (ap (reaches t) e) (count_within limit t xs a.1)

joined : (k m m' n n' : ℕ) → min k m ≡ min k m' → min k n ≡ min k n' → min k (m + n) ≡ min k (m' + n')
joined k m m' n n' p q = omega arith

-- The two lists have the same k greatest.
pub record Same (k limit : ℕ) (xs ys : List ℕ) : Type 0 where
  pub sums : (g : ℕ → ℕ) → Measure limit g → min k (total g xs) ≡ min k (total g ys)

module _ {k limit : ℕ} where
  pub same_refl : {xs : List ℕ} → Same k limit xs xs
  same_refl = record { sums = λ g γ. refl }

  pub same_sym : {xs ys : List ℕ} → Same k limit xs ys → Same k limit ys xs
  same_sym s = record { sums = λ g γ. sym (s.sums g γ) }

  pub same_trans : {xs ys zs : List ℕ} → Same k limit xs ys → Same k limit ys zs → Same k limit xs zs
  same_trans s t = record { sums = λ g γ. s.sums g γ ∙ t.sums g γ }

  pub same_totals : {xs ys : List ℕ} → ((g : ℕ → ℕ) → total g xs ≡ total g ys) → Same k limit xs ys
  same_totals e = record { sums = λ g γ. ap (min k) (e g) }

  pub best_same : (xs : List ℕ) → Same k limit (best k limit xs).amounts xs
  best_same xs = record {
    sums = λ g γ.
        (let cuts = map (min limit) xs in
        total_front g γ.rises k (sorted cuts) (sorted_falling cuts)
        ∙ ap (min k) (total_sorted g cuts ∙ total_map g (min limit) xs ∙ total_same (λ x. g (min limit x)) g γ.cuts xs));
  }

  count_best : (a : Best k limit) (t : ℕ) → min k (total (λ x. reaches t (min limit x)) a.amounts) ≡ total (reaches t) a.amounts
  count_best a t = omega (arith, count_within limit t a.amounts a.within, count_le t a.amounts)

  best_known : (a b : Best k limit) → Same k limit a.amounts b.amounts → a ≡ b
  unfolding SameCounts
  best_known a b s =
      best_path a b
      (falling_known a.amounts b.amounts a.falling b.falling
      (λ t. sym (count_best a t) ∙ s.sums (λ x. reaches t (min limit x)) (cut_reaches limit t) ∙ count_best b t))

  -- lists with the same k greatest mean the same, and the other way round
  pub same_best : {xs ys : List ℕ} → Same k limit xs ys → best k limit xs ≡ best k limit ys
  same_best {xs} {ys} s =
      best_known (best k limit xs) (best k limit ys) (same_trans (best_same xs) (same_trans s (same_sym (best_same ys))))

  pub best_is_same : (xs ys : List ℕ) → best k limit xs ≡ best k limit ys → Same k limit xs ys
  best_is_same xs ys e = record {
    sums = λ g γ.
        sym ((best_same xs).sums g γ) ∙ ap (λ (b : Best k limit). min k (total g b.amounts)) e ∙ (best_same ys).sums g γ;
  }

  pub best_again : (a : Best k limit) → best k limit a.amounts ≡ a
  best_again a = best_known (best k limit a.amounts) a (best_same a.amounts)

  pub append_same : {xs xs' ys ys' : List ℕ} → Same k limit xs xs' → Same k limit ys ys' → Same k limit (xs ++ ys) (xs' ++ ys')
  append_same {xs} {xs'} {ys} {ys'} s t = record {
    sums = λ g γ.
        ap (min k) (total_append g xs ys)
        ∙ joined k (total g xs) (total g xs') (total g ys) (total g ys') (s.sums g γ) (t.sums g γ)
        ∙ sym (ap (min k) (total_append g xs' ys'));
  }

  pub pairs_first : {xs xs' : List ℕ} (ys : List ℕ) → Same k limit xs xs' → Same k limit (pair_sums xs ys) (pair_sums xs' ys)
  pairs_first {xs} {xs'} ys s = record {
    sums = λ g γ.
        ap (min k) (total_pairs g xs ys)
        ∙ s.sums (λ x. total (λ y. g (x + y)) ys) (measure_total limit (λ y x. g (x + y)) (measure_first limit g γ) ys)
        ∙ sym (ap (min k) (total_pairs g xs' ys));
  }

  pub pairs_second : (xs : List ℕ) {ys ys' : List ℕ} → Same k limit ys ys' → Same k limit (pair_sums xs ys) (pair_sums xs ys')
  pairs_second xs {ys} {ys'} s = record {
    sums = λ g γ.
        ap (min k) (total_pairs_second g xs ys)
        ∙ s.sums (λ y. total (λ x. g (x + y)) xs) (measure_total limit (λ x y. g (x + y)) (measure_second limit g γ) xs)
        ∙ sym (ap (min k) (total_pairs_second g xs ys'));
  }

pub keeps_greatest : KeepsGreatest
keeps_greatest k limit xs threshold =
    sym (count_best (best k limit xs) threshold)
    ∙ (best_same xs).sums (λ x. reaches threshold (min limit x)) (cut_reaches limit threshold)
    ∙ sym (ap (min k) (total_map (reaches threshold) (min limit) xs))

pub only_greatest : OnlyGreatest
unfolding SameCounts
only_greatest k limit xs b h =
    let a = best k limit xs in
    best_path b a (falling_known b.amounts a.amounts b.falling a.falling (λ threshold. h threshold ∙ sym (keeps_greatest k limit xs threshold)))

-- Lists joined, and their pair sums, up to order.

append_swap : (g : ℕ → ℕ) (xs ys : List ℕ) → total g (xs ++ ys) ≡ total g (ys ++ xs)
append_swap g xs ys = omega (arith, total_append g xs ys, total_append g ys xs)

pairs_swap : (g : ℕ → ℕ) (xs ys : List ℕ) → total g (pair_sums xs ys) ≡ total g (pair_sums ys xs)
pairs_swap g xs ys =
    total_pairs g xs ys
    ∙ total_same (λ x. total (λ y. g (x + y)) ys) (λ x. total (λ y. g (y + x)) ys)
    (λ x. total_same (λ y. g (x + y)) (λ y. g (y + x)) (λ y. ap g (add_comm x y)) ys) xs
    ∙ sym (total_pairs_second g ys xs)

pairs_assoc : (g : ℕ → ℕ) (xs ys zs : List ℕ) → total g (pair_sums (pair_sums xs ys) zs) ≡ total g (pair_sums xs (pair_sums ys zs))
pairs_assoc g xs ys zs =
    total_pairs g (pair_sums xs ys) zs ∙ total_pairs (λ w. total (λ z. g (w + z)) zs) xs ys
    ∙ total_same (λ x. total (λ y. total (λ z. g (x + y + z)) zs) ys) (λ x. total (λ w. g (x + w)) (pair_sums ys zs)) inner xs
    ∙ sym (total_pairs g xs (pair_sums ys zs))
  where
    inner : (x : ℕ) → total (λ y. total (λ z. g (x + y + z)) zs) ys ≡ total (λ w. g (x + w)) (pair_sums ys zs)
    inner x =
        total_same (λ y. total (λ z. g (x + y + z)) zs) (λ y. total (λ z. g (x + (y + z))) zs)
        (λ y. total_same (λ z. g (x + y + z)) (λ z. g (x + (y + z))) (λ z. ap g (add_assoc x y z)) zs) ys
        ∙ sym (total_pairs (λ w. g (x + w)) ys zs)

pub pairs_append : (g : ℕ → ℕ) (xs ys zs : List ℕ) → total g (pair_sums xs (ys ++ zs)) ≡ total g (pair_sums xs ys ++ pair_sums xs zs)
pairs_append g xs ys zs =
    total_pairs_second g xs (ys ++ zs) ∙ total_append (λ y. total (λ x. g (x + y)) xs) ys zs
    ∙ sym (total_append g (pair_sums xs ys) (pair_sums xs zs) ∙ ap₂ ◌+◌ (total_pairs_second g xs ys) (total_pairs_second g xs zs))

pairs_zero : (g : ℕ → ℕ) (xs : List ℕ) → total g (pair_sums (0 ∷ []) xs) ≡ total g xs
pairs_zero g xs =
    total_pairs g (0 ∷ []) xs ∙ omega (arith, total_same (λ y. g (0 + y)) g (λ y. ap g (omega arith)) xs)

module _ (k limit : ℕ) where
  abbrev B : Type 0
  B = Best k limit

  abbrev b : List ℕ → B
  b = best k limit

  idem : (xs : List ℕ) → Same k limit (b xs).amounts xs
  idem = best_same

  append_comm : (xs ys : List ℕ) → Same k limit (xs ++ ys) (ys ++ xs)
  append_comm xs ys = same_totals (λ g. append_swap g xs ys)

  sum_assoc : (xs ys zs : List ℕ) → Same k limit ((b (xs ++ ys)).amounts ++ zs) (xs ++ (b (ys ++ zs)).amounts)
  sum_assoc xs ys zs =
      same_trans (append_same (idem (xs ++ ys)) same_refl)
      (same_trans (same_totals (λ g. ap (total g) (append_assoc xs ys zs))) (append_same same_refl (same_sym (idem (ys ++ zs)))))

  product_assoc : (xs ys zs : List ℕ) → Same k limit (pair_sums (b (pair_sums xs ys)).amounts zs) (pair_sums xs (b (pair_sums ys zs)).amounts)
  product_assoc xs ys zs =
      same_trans (pairs_first zs (idem (pair_sums xs ys)))
      (same_trans (same_totals (λ g. pairs_assoc g xs ys zs)) (pairs_second xs (same_sym (idem (pair_sums ys zs)))))

  product_sum : (xs ys zs : List ℕ) → Same k limit (pair_sums xs (b (ys ++ zs)).amounts) ((b (pair_sums xs ys)).amounts ++ (b (pair_sums xs zs)).amounts)
  product_sum xs ys zs =
      same_trans (pairs_second xs (idem (ys ++ zs)))
      (same_trans (same_totals (λ g. pairs_append g xs ys zs))
      (append_same (same_sym (idem (pair_sums xs ys))) (same_sym (idem (pair_sums xs zs)))))

  product_unit : (xs : List ℕ) → Same k limit (pair_sums (b (0 ∷ [])).amounts xs) xs
  product_unit xs = same_trans (pairs_first xs (idem (0 ∷ []))) (same_totals (λ g. pairs_zero g xs))

  pub bests_laws : Laws (bests k limit)
  bests_laws = record {
    add_comm = λ x y. same_best (append_comm x.amounts y.amounts);
    add_assoc = λ x y z. same_best (sum_assoc x.amounts y.amounts z.amounts);
    add_nought = λ x. same_best (append_same (idem []) (same_refl {xs = x.amounts})) ∙ best_again x;
    mul_comm = λ x y. same_best (same_totals (λ g. pairs_swap g x.amounts y.amounts));
    mul_assoc = λ x y z. same_best (product_assoc x.amounts y.amounts z.amounts);
    mul_unit = λ x. same_best (product_unit x.amounts) ∙ best_again x;
    distrib = λ x y z. same_best (product_sum x.amounts y.amounts z.amounts);
    mul_nought = λ x. same_best (pairs_first x.amounts (idem []));
  }
