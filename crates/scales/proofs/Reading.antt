-- Amounts that are sorted from the greatest down, and read cut.
use Rattle.std.proofs.Common.{◌≡◌, ℕ, min, false, List, [], ◌∷◌, map, length, get_or, Some, None, Option, sym, refl, ap, ◌∙◌, arith}
use denote.Ref.{Bor}
use denote.Param.Members.{Mut}
use Rattle.std.specs.Array.{IsMapOf}
use Rattle.std.specs.Fn.{Called}
use Rattle.std.specs.declared.cmp.Ordering.{Ordering}
use Rattle.std.specs.Cmp.Lexicographic.{options_total}
use Rattle.std.specs.List.{sum_by}
use Rattle.std.specs.List.Sorted.{IsPermutation, IsSortedBy, IsSortedByClosure}
use Rattle.std.specs.Option.{option_map, option_cmp}
use Rattle.std.specs.Ordering.{nat_cmp, is_lt}
use Rattle.std.proofs.lemmas.Bool.{true≢false}
use Rattle.std.proofs.lemmas.Cmp.{nat_cmp_total}
use Rattle.std.proofs.lemmas.Fn.{always_returns_same}
use Rattle.std.proofs.lemmas.Grind.{common_steps}
use Rattle.std.proofs.lemmas.List.{ext_get_or, get_or-map, length-map}
use Rattle.std.proofs.lemmas.List.Sorted.{ranks_by, IsStrictWeakOrder-flip, sum_by-IsPermutation}
use Rattle.std.proofs.lemmas.List.Sums.{sum_by-cons}
use Rattle.scales.specs.Best.{Best, best, total}
use Rattle.scales.specs.BestLaws.{Same, same_refl, same_sym, same_trans, same_totals, best_again, same_best}
use Rattle.scales.specs.Places.{somes, Packed, ◌≼◌}
use Rattle.scales.specs.PlacesLaws.{cut_same}
use Rattle.scales.proofs.Parts.{part, total_with, with_both}

-- amounts in another order mean the same

total_somes : (g : ℕ → ℕ) (os : List (Option ℕ)) → total g (somes os) ≡ sum_by (part g) os
total_somes g [] = refl
total_somes g (o ∷ os) = omega (arith, total_with g o (somes os), total_somes g os, sum_by-cons (part g) o os)

same_moved : {k limit : ℕ} (os ps : List (Option ℕ)) → IsPermutation os ps → Same k limit (somes ps) (somes os)
same_moved os ps moved = same_totals (λ g. total_somes g ps ∙ sum_by-IsPermutation (part g) os ps moved ∙ sym (total_somes g os))

-- each is at most as great as the one before it, after a sort by a closure that compares the other way round

abbrev pub Down : List (Option ℕ) → Type 0
Down = IsSortedBy (λ x y. is_lt (option_cmp nat_cmp y x))

pub sorted_down : {F : Type 0} {g : Mut F (Bor (Option ℕ) × (Bor (Option ℕ) × Unit {0})) Ordering} {f : F} (os : List (Option ℕ)) → IsSortedByClosure g f os
    → ((a : Bor (Option ℕ) × (Bor (Option ℕ) × Unit {0})) (r : Ordering) (f' : F) → Called g f a r f' → (r ≡ option_cmp nat_cmp a.1.0.now a.0.now) × (f' ≡ f))
    → Down os
sorted_down {g = g} {f = f} os up h =
    up (λ x y. is_lt (option_cmp nat_cmp y x)) (IsStrictWeakOrder-flip _ (ranks_by (options_total nat_cmp_total) (λ x. x)))
    (always_returns_same g (λ a r. is_lt r ≡ is_lt (option_cmp nat_cmp a.1.0.now a.0.now)) f (λ a r f' k. (ap is_lt (h a r f' k).0, (h a r f' k).1)))

not_above : (f s : Option ℕ) → is_lt (option_cmp nat_cmp f s) ≡ false → s ≼ f
not_above f None e = tt
not_above None (Some y) e = true≢false e
not_above (Some x) (Some y) e = grind (arith, common_steps)

-- the amounts of an array, each cut
pub mapped : {F : Type 0} {g : Mut F (Option ℕ × Unit {0}) (Option ℕ)} {f : F} (h : Option ℕ → Option ℕ) (os ps : List (Option ℕ)) (n : ℕ) → length os ≡ n → IsMapOf g f os ps n
    → ((a : Option ℕ) (r : Option ℕ) (p q : F) → Called g p (a, tt) r q → r ≡ h a) → ps ≡ map h os
mapped h os ps n long m each =
    ext_get_or None ps (map h os) (m.long ∙ sym (length-map os h ∙ long)) (λ i l.
    let called = m.at i None None (omega (arith, m.long)) in
    each (get_or os i None) (get_or ps i None) called.0 called.1 called.2 ∙ sym (get_or-map h os i None None (omega (arith, m.long))))

-- three places in falling order, each cut, are what they mean
module _ (limit : ℕ) where
  abbrev cuts : List (Option ℕ) → List (Option ℕ)
  cuts = map (option_map (min limit))

  cuts_same : {k : ℕ} (os : List (Option ℕ)) → Same k limit (somes (cuts os)) (somes os)
  cuts_same [] = same_refl
  cuts_same (o ∷ os) = same_trans (cut_same o (somes (cuts os))) (with_both o (cuts_same os))

  as_best : (f s t : Option ℕ) → s ≼ f → t ≼ s → (b : Best 3 limit) × (b.amounts ≡ somes (cuts (f ∷ s ∷ t ∷ [])))
  as_best None None None h k = (record { amounts = []; few = omega arith; within = tt; falling = tt }, refl)
  as_best None None (Some z) h k = absurd k
  as_best None (Some y) t h k = absurd h
  as_best (Some x) None None h k =
      (record { amounts = min limit x ∷ []; few = omega arith; within = (omega arith, tt); falling = (tt, tt) }, refl)
  as_best (Some x) None (Some z) h k = absurd k
  as_best (Some x) (Some y) None h k = (
    record {
      amounts = min limit x ∷ min limit y ∷ [];
      few = omega arith;
      within = (omega arith, (omega arith, tt));
      falling = ((omega arith, tt), (tt, tt));
    },
    refl,
  )
  as_best (Some x) (Some y) (Some z) h k = (
    record {
      amounts = min limit x ∷ min limit y ∷ min limit z ∷ [];
      few = omega arith;
      within = (omega arith, (omega arith, (omega arith, tt)));
      falling = ((omega arith, (omega arith, tt)), ((omega arith, tt), (tt, tt)));
    },
    refl,
  )

  -- amounts in falling order leave no empty place before one that is filled
  filled : (f s t : Option ℕ) → s ≼ f → t ≼ s → Packed (cuts (f ∷ s ∷ t ∷ []))
  filled None None None h k = refl
  filled None None (Some z) h k = absurd k
  filled None (Some y) t h k = absurd h
  filled (Some x) None None h k = refl
  filled (Some x) None (Some z) h k = absurd k
  filled (Some x) (Some y) None h k = refl
  filled (Some x) (Some y) (Some z) h k = refl

  -- the amounts that are read of places, once these are sorted
  pub amounts_read : (os ps : List (Option ℕ)) → IsPermutation os ps → length ps ≡ 3 → Down ps → (somes (cuts ps) ≡ (best 3 limit (somes os)).amounts) × Packed (cuts ps)
  amounts_read os [] moved n down = absurd (omega arith)
  amounts_read os (a ∷ []) moved n down = absurd (omega arith)
  amounts_read os (a ∷ b ∷ []) moved n down = absurd (omega arith)
  amounts_read os (f ∷ s ∷ t ∷ []) moved n down =
      let h = not_above f s (down 0 None (omega arith) (omega arith)) in
      let k = not_above s t (down 1 None (omega arith) (omega arith)) in
      let (b, e) = as_best f s t h k in
      let means : best 3 limit (somes os) ≡ b = same_best (same_sym (same_trans (cuts_same (f ∷ s ∷ t ∷ [])) (same_moved os (f ∷ s ∷ t ∷ []) moved))) ∙ ap (best 3 limit) (sym e) ∙ best_again b in
      (sym (ap (λ (d : Best 3 limit). d.amounts) means ∙ e), filled f s t h k)
  amounts_read os (a ∷ b ∷ c ∷ d ∷ ps) moved n down = absurd (omega arith)
