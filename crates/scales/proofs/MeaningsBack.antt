-- Each meaning of a scale is that of a value.
use Rattle.std.proofs.Common.{◌≡◌, ℕ, ◌≤◌, List, [], ◌∷◌, length, Some, None, refl, ap, ◌∙◌, arith}
use Rattle.std.specs.List.{slice_get}
use Rattle.scales.specs.BestThree.{best_three, best_of}
use Rattle.scales.specs.Count.{count_of}
use Rattle.scales.specs.Cut.{top_amount}
use Rattle.scales.specs.Meanings.{revenue_from, count_from, best_from, tied_from, MeansBack}
use Rattle.scales.specs.Places.{somes}
use Rattle.scales.specs.Revenue.{revenue_of}
use Rattle.scales.specs.Tied.{over, amount, tied_of}
use Rattle.scales.specs.BestLaws.{best_again}
use Rattle.scales.specs.Numbers.{upto_path}
use Rattle.scales.specs.TieLaws.{tie_below}

pub revenue_back : MeansBack revenue_from revenue_of
revenue_back None = refl
revenue_back (Some a) = ap Some (upto_path _ _ (omega arith))

pub count_back : MeansBack count_from count_of
count_back m = upto_path _ _ (omega arith)

three_places : (xs : List ℕ) → length xs ≤ 3 → somes (slice_get xs 0 ∷ slice_get xs 1 ∷ slice_get xs 2 ∷ []) ≡ xs
three_places [] h = refl
three_places (x ∷ []) h = refl
three_places (x ∷ y ∷ []) h = refl
three_places (x ∷ y ∷ z ∷ []) h = refl
three_places (x ∷ y ∷ z ∷ w ∷ xs) h = absurd (omega arith)

pub best_back : MeansBack best_from best_of
best_back m = ap best_three (three_places m.amounts m.few) ∙ best_again m

pub tied_back : {S M : Type 0} (meaning : S → M) (inner : M → S) → MeansBack inner meaning → MeansBack (tied_from inner) (tied_of meaning)
tied_back meaning inner e None = refl
tied_back meaning inner e (Some over) = refl
tied_back meaning inner e (Some (amount n h x)) =
    ap Some (tie_below top_amount n (meaning (inner x)) h ∙ ap (amount n h) (e x))
