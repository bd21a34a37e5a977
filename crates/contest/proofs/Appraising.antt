-- The totals of a contest's own prices, over its clash-free sets.
use Rattle.std.proofs.Common.{◌≡◌, ℕ, ◌+◌, ◌<◌, min, max, eqb, ◌⊎◌, List, [], ◌∷◌, map, Some, None, sym, refl, ap, ◌∙◌, ap₂, inl, inr, zero-add, arith}
use Rattle.std.proofs.lemmas.Bool.{cases_order, cond-true, cond-false, eq-eqb, ne_eqb}
use Rattle.scales.specs.Cut.{cut, top_amount, top_count}
use Rattle.scales.specs.Count.{Counts, counts}
use Rattle.scales.specs.Revenue.{Revenues, revenues, revenue_of, revenue_worth, crowns}
use Rattle.scales.specs.Tied.{TiedOver, tie, tied_over, settled}
use Rattle.scales.specs.BestThree.{best_threes, best_three, best_of, best_worth}
use Rattle.scales.specs.Numbers.{upto_path}
use Rattle.scales.specs.TieLaws.{tie_below, add_less, add_more, add_same, mul_ties}
use Rattle.scales.specs.BestLaws.{same_trans, same_best, best_same, append_same, pairs_first, pairs_second}
use Rattle.contest.specs.Contest.{Contest, best_revenue}
use Rattle.contest.specs.Total.{sum_by, product_by, total_by}
use Rattle.contest.specs.Appraised.{sets, fetched, ways, tied_prices, WaysCounted, TopFetched}
use Rattle.contest.proofs.Revenues.{revenue_total}

-- the greatest amount that some sets fetch
abbrev greatest : Contest → List (List ℕ) → ℕ
greatest c [] = 0
greatest c (s ∷ ss) = max (fetched c s) (greatest c ss)

abbrev one : Counts
one = cut top_count 1

module _ (c : Contest) where
  -- in Revenue
  abbrev crowns_of : ℕ → Revenues
  crowns_of k = revenue_of (revenue_worth (c.price k))

  revenue_product : (s : List ℕ) → product_by revenues crowns_of s ≡ Some (cut top_amount (fetched c s))
  revenue_product [] = refl
  revenue_product (k ∷ ks) = ap (revenues.mul (crowns_of k)) (revenue_product ks) ∙ ap Some (upto_path _ _ (omega arith))

  revenue_sum : (s : List ℕ) (ss : List (List ℕ)) → sum_by revenues (product_by revenues crowns_of) (s ∷ ss) ≡ Some (cut top_amount (greatest c (s ∷ ss)))
  revenue_sum s [] = ap (λ v. revenues.add v None) (revenue_product s) ∙ ap Some (upto_path _ _ (omega arith))
  revenue_sum s (t ∷ ss) = ap₂ revenues.add (revenue_product s) (revenue_sum t ss) ∙ ap Some (upto_path _ _ (omega arith))

  greatest_is : (s : List ℕ) (ss : List (List ℕ)) → sets c ≡ s ∷ ss → best_revenue c < top_amount → greatest c (s ∷ ss) ≡ best_revenue c
  greatest_is s ss e below =
      let total : Some (cut top_amount (greatest c (s ∷ ss))) ≡ total_by revenues c crowns_of = sym (ap (sum_by revenues (product_by revenues crowns_of)) e ∙ revenue_sum s ss) in
      let number : Some (min top_amount (greatest c (s ∷ ss))) ≡ Some (best_revenue c) = ap crowns total ∙ revenue_total c below in
      let same : min top_amount (greatest c (s ∷ ss)) ≡ best_revenue c = cc in
      omega (arith, same)

  -- in Tied over Count
  tied_product : (s : List ℕ) → product_by (tied_over counts) (tied_prices c) s ≡ Some (tie top_amount (fetched c s) one)
  tied_product [] = refl
  tied_product (k ∷ ks) =
      ap ((tied_over counts).mul (tied_prices c k)) (tied_product ks)
      ∙ ap Some (mul_ties top_amount counts.mul (c.price k) (fetched c ks) one one ∙ ap (tie top_amount (c.price k + fetched c ks)) (upto_path (counts.mul one one) one refl))

  -- the sets that fetch m, among some that fetch no more
  ways_here : (m : ℕ) (s : List ℕ) (ss : List (List ℕ)) → fetched c s ≡ m → ways c m (s ∷ ss) ≡ 1 + ways c m ss
  ways_here m s ss e = ap (λ n. n + ways c m ss) (cond-true (eqb (fetched c s) m) 1 0 (eq-eqb (fetched c s) m e))

  ways_not : (m : ℕ) (s : List ℕ) (ss : List (List ℕ)) → (fetched c s ≡ m → ⊥) → ways c m (s ∷ ss) ≡ ways c m ss
  ways_not m s ss e = ap (λ n. n + ways c m ss) (cond-false (eqb (fetched c s) m) 1 0 (ne_eqb (fetched c s) m e)) ∙ zero-add (ways c m ss)

  ways_none : (m : ℕ) (ss : List (List ℕ)) → greatest c ss < m → ways c m ss ≡ 0
  ways_none m [] h = refl
  ways_none m (s ∷ ss) h = ways_not m s ss (λ e. omega arith) ∙ ways_none m ss (omega arith)

  abbrev best_of_sets : List (List ℕ) → TiedOver Counts
  best_of_sets ss = Some (tie top_amount (greatest c ss) (cut top_count (ways c (greatest c ss) ss)))

  count_path : (a b : ℕ) → a ≡ b → cut top_count a ≡ cut top_count b
  count_path a b e = ap (cut top_count) e

  one_more : (s : List ℕ) (ss : List (List ℕ)) → (fetched c s ≡ greatest c ss) ⊎ ((fetched c s < greatest c ss) ⊎ (greatest c ss < fetched c s))
      → (tied_over counts).add (Some (tie top_amount (fetched c s) one)) (best_of_sets ss) ≡ best_of_sets (s ∷ ss)
  one_more s ss (inl e) =
      let n : ℕ = greatest c ss in
      let m : ℕ = greatest c (s ∷ ss) in
      let f : n ≡ m = omega arith in
      let h : fetched c s ≡ m = omega arith in
      let k : counts.add one (cut top_count (ways c n ss)) ≡ cut top_count (ways c m (s ∷ ss)) = upto_path _ _ (omega (arith, ap (λ x. ways c x ss) f, ways_here m s ss h)) in
      ap Some (add_same top_amount counts.add (fetched c s) n one (cut top_count (ways c n ss)) e ∙ ap₂ (tie top_amount) h k)
  one_more s ss (inr (inl lt)) =
      let n : ℕ = greatest c ss in
      let m : ℕ = greatest c (s ∷ ss) in
      let f : n ≡ m = omega arith in
      let k : cut top_count (ways c n ss) ≡ cut top_count (ways c m (s ∷ ss)) = count_path _ _ (ap (λ x. ways c x ss) f ∙ sym (ways_not m s ss (λ e. omega arith))) in
      ap Some (add_less top_amount counts.add (fetched c s) n one (cut top_count (ways c n ss)) lt ∙ ap₂ (tie top_amount) f k)
  one_more s ss (inr (inr gt)) =
      let n : ℕ = greatest c ss in
      let m : ℕ = greatest c (s ∷ ss) in
      let f : fetched c s ≡ m = omega arith in
      let k : one ≡ cut top_count (ways c m (s ∷ ss)) = upto_path _ _ (omega (arith, ways_here m s ss f, ways_none m ss (omega arith))) in
      ap Some (add_more top_amount counts.add (fetched c s) n one (cut top_count (ways c n ss)) gt ∙ ap₂ (tie top_amount) f k)

  tied_sum : (s : List ℕ) (ss : List (List ℕ)) → sum_by (tied_over counts) (product_by (tied_over counts) (tied_prices c)) (s ∷ ss) ≡ best_of_sets (s ∷ ss)
  tied_sum s [] =
      let m : ℕ = greatest c (s ∷ []) in
      let f : fetched c s ≡ m = omega arith in
      ap (λ v. (tied_over counts).add v None) (tied_product s)
      ∙ ap Some (ap₂ (tie top_amount) f (upto_path one (cut top_count (ways c m (s ∷ []))) (omega (arith, ways_here m s [] f))))
  tied_sum s (t ∷ ss) = ap₂ (tied_over counts).add (tied_product s) (tied_sum t ss) ∙ one_more s (t ∷ ss) (cases_order (fetched c s) (greatest c (t ∷ ss)))

  counted_in : (ss : List (List ℕ)) → sets c ≡ ss → best_revenue c < top_amount → settled (total_by (tied_over counts) c (tied_prices c)) ≡ Some (best_revenue c, cut top_count (ways c (best_revenue c) (sets c)))
  counted_in [] e below =
      let none : None ≡ Some (best_revenue c) = sym (ap (λ ss. crowns (sum_by revenues (product_by revenues crowns_of) ss)) e) ∙ revenue_total c below in
      let z : ◌≡◌ {A = ℕ} 0 1 = cc in
      absurd (omega arith)
  counted_in (s ∷ ss) e below =
      let top = greatest_is s ss e below in
      let m : ℕ = greatest c (s ∷ ss) in
      let n : Counts = cut top_count (ways c m (s ∷ ss)) in
      ap settled (ap (sum_by (tied_over counts) (product_by (tied_over counts) (tied_prices c))) e ∙ tied_sum s ss ∙ ap Some (tie_below top_amount m n (omega (arith, top))))
      ∙ ap₂ (λ a b. Some (a, b)) top (ap₂ (λ a b. cut top_count (ways c a b)) top (sym e))

  -- in Best three
  best_product : (s : List ℕ) → product_by best_threes (λ k. best_of (best_worth (c.price k))) s ≡ best_three (fetched c s ∷ [])
  best_product [] = refl
  best_product (k ∷ ks) =
      ap (best_threes.mul (best_three (c.price k ∷ []))) (best_product ks)
      ∙ same_best (same_trans (pairs_first (best_three (fetched c ks ∷ [])).amounts (best_same (c.price k ∷ []))) (pairs_second (c.price k ∷ []) (best_same (fetched c ks ∷ []))))

  best_sum : (ss : List (List ℕ)) → sum_by best_threes (product_by best_threes (λ k. best_of (best_worth (c.price k)))) ss ≡ best_three (map (fetched c) ss)
  best_sum [] = refl
  best_sum (s ∷ ss) =
      ap₂ best_threes.add (best_product s) (best_sum ss)
      ∙ same_best (append_same (best_same (fetched c s ∷ [])) (best_same (map (fetched c) ss)))

pub ways_counted : WaysCounted
ways_counted c = counted_in c (sets c) refl

pub top_fetched : TopFetched
top_fetched c = best_sum c (sets c)
