-- The sums of pairs, one pair after another.
use Rattle.std.proofs.Common.{◌≡◌, ℕ, ◌+◌, min, List, [], ◌++◌, Some, None, Option, sym, refl, ap, ap₂, ◌∙◌, add-zero, arith}
use Rattle.scales.specs.Adjoined.{mul_both}
use Rattle.scales.specs.Best.{total, pair_sums}
use Rattle.scales.specs.BestLaws.{Measure, Same, same_trans, same_totals, pairs_append}
use Rattle.scales.specs.Places.{in_front}
use Rattle.scales.specs.Totals.{total_append, total_pairs}
use Rattle.scales.proofs.Parts.{part, total_with, with_both}

-- an amount added to another, if both are there, is the sum of the one pair
one_pair : (limit : ℕ) (g : ℕ → ℕ) → Measure limit g → (a b : Option ℕ) → part g (mul_both (λ x y. min limit (x + y)) a b) ≡ total g (pair_sums (in_front a []) (in_front b []))
one_pair limit g γ None b = refl
one_pair limit g γ (Some x) None = refl
one_pair limit g γ (Some x) (Some y) = γ.cuts (x + y) ∙ sym (add-zero (g (x + y)))

pairs_joined : (g : ℕ → ℕ) (xs ys zs : List ℕ) → total g (pair_sums (xs ++ ys) zs) ≡ total g (pair_sums xs zs ++ pair_sums ys zs)
pairs_joined g xs ys zs =
    total_pairs g (xs ++ ys) zs ∙ total_append (λ x. total (λ y. g (x + y)) zs) xs ys
    ∙ sym (total_append g (pair_sums xs zs) (pair_sums ys zs) ∙ ap₂ ◌+◌ (total_pairs g xs zs) (total_pairs g ys zs))

module _ {k limit : ℕ} where
  -- one amount of the second list more
  pub one_paired : (a b : Option ℕ) (xs ys : List ℕ) {zs ws : List ℕ} → Same k limit ws (in_front (mul_both (λ x y. min limit (x + y)) a b) zs)
      → Same k limit zs (xs ++ pair_sums (in_front a []) ys) → Same k limit ws (xs ++ pair_sums (in_front a []) (ys ++ in_front b []))
  one_paired a b xs ys d e =
      let o = mul_both (λ x y. min limit (x + y)) a b in
      let bs = in_front b [] in
      let pairs : List ℕ → List ℕ = pair_sums (in_front a []) in
      record {
        sums = λ g γ.
            (same_trans d (with_both o e)).sums g γ
            ∙ ap (min k)
            (omega (
              arith,
              total_with g o (xs ++ pairs ys),
              total_append g xs (pairs ys),
              total_append g xs (pairs (ys ++ bs)),
              pairs_append g (in_front a []) ys bs,
              total_append g (pairs ys) (pairs bs),
              one_pair limit g γ a b,
            ));
      }

  -- one amount of the first list more
  pub all_paired : (a : Option ℕ) (xs ys : List ℕ) {zs : List ℕ} → Same k limit zs (pair_sums xs ys ++ pair_sums (in_front a []) ys) → Same k limit zs (pair_sums (xs ++ in_front a []) ys)
  all_paired a xs ys e = same_trans e (same_totals (λ g. sym (pairs_joined g xs (in_front a []) ys)))
