-- Amounts in places, taken one place after another.
use Rattle.std.proofs.Common.{◌≡◌, ℕ, ◌+◌, ◌<◌, List, [], ◌∷◌, ◌++◌, length, take, get_or, Some, None, Option, sym, refl, ap, ◌∙◌, zero-add, arith}
use Rattle.std.proofs.lemmas.List.{take_more}
use Rattle.scales.specs.Best.{total}
use Rattle.scales.specs.BestLaws.{Same, same_refl, same_trans, same_totals, append_same}
use Rattle.scales.specs.Places.{in_front, somes}
use Rattle.scales.specs.Totals.{total_append}

-- the part that an amount which may be there has in a sum
abbrev pub part : (ℕ → ℕ) → Option ℕ → ℕ
part g None = 0
part g (Some x) = g x

pub total_with : (g : ℕ → ℕ) (o : Option ℕ) (xs : List ℕ) → total g (in_front o xs) ≡ part g o + total g xs
total_with g None xs = sym (zero-add (total g xs))
total_with g (Some x) xs = refl

somes_append : (os ps : List (Option ℕ)) → somes (os ++ ps) ≡ somes os ++ somes ps
somes_append [] ps = refl
somes_append (None ∷ os) ps = somes_append os ps
somes_append (Some x ∷ os) ps = ap (λ xs. x ∷ xs) (somes_append os ps)

-- one place more
pub somes_more : (os : List (Option ℕ)) (i : ℕ) → i < length os → somes (take (i + 1) os) ≡ somes (take i os) ++ in_front (get_or os i None) []
somes_more os i h = ap somes (take_more os i None h) ∙ somes_append (take i os) (get_or os i None ∷ [])

module _ {k limit : ℕ} where
  pub with_both : {xs ys : List ℕ} (o : Option ℕ) → Same k limit xs ys → Same k limit (in_front o xs) (in_front o ys)
  with_both None e = e
  with_both (Some x) e = append_same (same_refl {xs = x ∷ []}) e

  -- one amount more, in front of a list or behind another
  pub one_more : (o : Option ℕ) (xs ys : List ℕ) {zs ws : List ℕ} → Same k limit ws (in_front o zs) → Same k limit zs (xs ++ ys) → Same k limit ws (xs ++ (ys ++ in_front o []))
  one_more o xs ys d e =
      same_trans d (same_trans (with_both o e) (same_totals (λ g. simp (total_append, total_with) (omega arith))))
