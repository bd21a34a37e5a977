-- One amount passed down places: each keeps the greater and hands on the lesser, so that the least of all is dropped.
use Rattle.std.proofs.Common.{◌≡◌, ℕ, ◌+◌, ◌*◌, ◌<◌, ◌≤◌, min, max, List, [], ◌∷◌, ◌++◌, length, take, drop, Some, None, Option, ⊎_elim, ap, ap₂, subst, ◌∙◌, arith, le-mul_of_pos_right}
use Rattle.std.proofs.lemmas.Bool.{cases_lt}
use Rattle.std.proofs.lemmas.List.{take_all, drop_all, append-nil}
use Rattle.scales.specs.Adjoined.{add_some, mul_both}
use Rattle.scales.specs.Best.{total}
use Rattle.scales.specs.BestLaws.{Rising, ordered_pair, Same}
use Rattle.scales.specs.Places.{in_front, somes, ◌≼◌, Falls}
use Rattle.scales.proofs.Parts.{part, total_with}

-- the places once an amount is passed down them, and the amount that is dropped
abbrev pub passed : Option ℕ → List (Option ℕ) → List (Option ℕ)
passed a [] = []
passed a (p ∷ ps) = add_some max a p ∷ passed (mul_both min a p) ps

abbrev dropped : Option ℕ → List (Option ℕ) → Option ℕ
dropped a [] = a
dropped a (p ∷ ps) = dropped (mul_both min a p) ps

module _ (g : ℕ → ℕ) where
  -- the greater and the lesser of two places
  parts_kept : (a b : Option ℕ) → part g (add_some max a b) + part g (mul_both min a b) ≡ part g a + part g b
  parts_kept None b = omega arith
  parts_kept (Some x) None = omega arith
  parts_kept (Some x) (Some y) = ordered_pair g x y

  total_passed : (a : Option ℕ) (ps : List (Option ℕ)) → total g (somes (passed a ps)) + part g (dropped a ps) ≡ part g a + total g (somes ps)
  total_passed a [] = omega arith
  total_passed a (p ∷ ps) =
      omega (arith, total_passed (mul_both min a p) ps, parts_kept a p, total_with g (add_some max a p) (somes (passed (mul_both min a p) ps)), total_with g p (somes ps))

  module _ (up : Rising g) where
    lesser_first : (a b : Option ℕ) → part g (mul_both min a b) ≤ part g a
    lesser_first None b = omega arith
    lesser_first (Some x) None = omega arith
    lesser_first (Some x) (Some y) = up (min x y) x (omega arith)

    lesser_greater : (a b : Option ℕ) → part g (mul_both min a b) ≤ part g (add_some max a b)
    lesser_greater None b = omega arith
    lesser_greater (Some x) None = omega arith
    lesser_greater (Some x) (Some y) = up (min x y) (max x y) (omega arith)

    dropped_le : (a : Option ℕ) (ps : List (Option ℕ)) → part g (dropped a ps) ≤ part g a
    dropped_le a [] = omega arith
    dropped_le a (p ∷ ps) = omega (arith, dropped_le (mul_both min a p) ps, lesser_first a p)

    -- the places hold nothing less than what is dropped
    dropped_least : (a : Option ℕ) (ps : List (Option ℕ)) → length ps * part g (dropped a ps) ≤ total g (somes (passed a ps))
    dropped_least a [] = omega arith
    dropped_least a (p ∷ ps) =
        omega (arith, dropped_least (mul_both min a p) ps, dropped_le (mul_both min a p) ps, lesser_greater a p, total_with g (add_some max a p) (somes (passed (mul_both min a p) ps)))

-- so of all of them the places keep the greatest, as many as there are places
passed_same : (limit : ℕ) (a : Option ℕ) (ps : List (Option ℕ)) → Same (length ps) limit (somes (passed a ps)) (in_front a (somes ps))
passed_same limit a ps = record {
  sums = λ g γ.
      (let d = part g (dropped a ps) in
      let kept = total_passed g a ps in
      let least = dropped_least g γ.rises a ps in
      let all = total_with g a (somes ps) in
      ⊎_elim
      (λ (h : 0 < d). let k : length ps ≤ length ps * d = le-mul_of_pos_right (length ps) h in omega arith)
      (λ (h : d ≤ 0). ap (min (length ps)) (omega arith)) (cases_lt 0 d));
}

-- one amount passed down leaves the next place at most as great
lower_place : (a p q : Option ℕ) → q ≼ p → add_some max (mul_both min a p) q ≼ add_some max a p
lower_place None p q h = h
lower_place (Some x) None None h = tt
lower_place (Some x) None (Some z) h = absurd h
lower_place (Some x) (Some y) None h = omega arith
lower_place (Some x) (Some y) (Some z) h = omega arith

-- so places that fall still do
pub order_passed : (a : Option ℕ) (ps : List (Option ℕ)) → Falls ps → Falls (passed a ps)
order_passed a [] h = tt
order_passed a (p ∷ []) h = tt
order_passed a (p ∷ q ∷ ps) h = (lower_place a p q h.0, order_passed (mul_both min a p) (q ∷ ps) h.1)

-- where the loop is over the places
pub passed_all : (a rest : Option ℕ) (ps kept : List (Option ℕ)) (i : ℕ) → length kept ≤ i → passed a ps ≡ take i kept ++ passed rest (drop i kept) → passed a ps ≡ kept
passed_all a rest ps kept i h e = e ∙ ap₂ (λ x y. x ++ passed rest y) (take_all i kept h) (drop_all i kept h) ∙ append-nil kept

pub passed_down : (limit k : ℕ) (a rest : Option ℕ) (ps kept : List (Option ℕ)) (i : ℕ) → length ps ≡ k → length kept ≤ i
    → passed a ps ≡ take i kept ++ passed rest (drop i kept) → Same k limit (somes kept) (in_front a (somes ps))
passed_down limit k a rest ps kept i n h e =
    subst (λ m. Same m limit (somes kept) (in_front a (somes ps))) n
    (subst (λ qs. Same (length ps) limit (somes qs) (in_front a (somes ps))) (passed_all a rest ps kept i h e) (passed_same limit a ps))
