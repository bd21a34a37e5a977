-- The numbers that a range yields, and the values that are there of borrowed options.
use Rattle.std.proofs.Common.{Bor, IsTrue, ◌≡◌, ℕ, suc, ◌+◌, ◌-◌, Bool, true, false, cond, Some, None, Option, List, [], ◌∷◌, length, sym, refl, ap, ◌∙◌, subst, arith}
use Rattle.std.specs.declared.ops.RangeInclusive.{RangeInclusive}
use Rattle.std.specs.Bool.{MatchBool}
use Rattle.std.specs.Iterator.Adapters.{option_iter_item, option_iter_done, option_iter_steps}
use Rattle.std.specs.List.{flat_map}
use Rattle.std.specs.Option.{option_to_list, option_copied}
use Rattle.std.specs.Range.{range_inclusive_len}
use Rattle.std.proofs.iter.runs.Sources.{nat_range_inclusive_steps}
use Rattle.std.proofs.lemmas.Iterator.{YieldsList}
use Rattle.std.proofs.lemmas.Iterator.Consumers.{YieldsList-from_shown}
use Rattle.scales.specs.Places.{somes}
use Rattle.contest.specs.Total.{from}

-- how many numbers a range has left, and which
abbrev left : RangeInclusive ℕ → ℕ
left s = range_inclusive_len (λ x y. y - x) s.start s.end s.exhausted

abbrev shown : RangeInclusive ℕ → List ℕ
shown s = from s.start (left s)

next_shown : (s t : RangeInclusive ℕ) (spent : Bool) → t.exhausted ≡ spent → (t.exhausted ≡ false → t.start ≡ s.start + 1) → from (suc s.start) (left t) ≡ shown t
next_shown s t true is next =
    let none : left t ≡ 0 = ap (range_inclusive_len (λ x y. y - x) t.start t.end) is in
    ap (from (suc s.start)) none ∙ sym (ap (from t.start) none)
next_shown s t false is next = let e : suc s.start ≡ t.start = omega (arith, next is) in ap (λ k. from k (left t)) e

pub numbers_yielded : (s : RangeInclusive ℕ) (first last : ℕ) → s.start ≡ first → s.end ≡ last → s.exhausted ≡ false → YieldsList nat_range_inclusive_steps (λ x. x) s (from first (last + 1 - first))
numbers_yielded s first last a b e =
    let all : left s ≡ last + 1 - first = ap (range_inclusive_len (λ x y. y - x) s.start s.end) e ∙ omega (arith, a, b) in
    subst (YieldsList nat_range_inclusive_steps (λ x. x) s) (ap (from s.start) all ∙ ap (λ k. from k (last + 1 - first)) a)
    (YieldsList-from_shown nat_range_inclusive_steps (λ x. x) shown (λ u t h. ap (λ n. length (from u.start n)) h.1.0)
    (λ u x t h.
    let more : left u ≡ suc (left t) = omega (arith, h.1.1) in
    ap (from u.start) more ∙ ap (λ k. k ∷ from (suc u.start) (left t)) (sym h.1.0) ∙ ap (λ l. x ∷ l) (next_shown u t t.exhausted refl h.1.2)) s)

-- the value that is there, if any, which a borrowed option yields
left_none : {A : Type 0} (b : Bool) (i : Option A) → MatchBool b (◌≡◌ {A = Option (Bor A)} None None) (option_copied None ≡ i) → length (cond b [] (option_to_list i)) ≡ 0
left_none true i h = refl
left_none false i h = ap (λ k. length (option_to_list k)) (sym h)

left_some : {A : Type 0} (b d : Bool) (i j : Option A) (x : Bor A) → IsTrue d → MatchBool b (Some x ≡ None) (option_copied (Some x) ≡ i) → cond b [] (option_to_list i) ≡ x.now ∷ cond d [] (option_to_list j)
left_some true d i j x spent h = cc
left_some false true i j x spent h = ap option_to_list (sym h)
left_some false false i j x spent h = cc

pub option_yielded : {A : Type 0} {s : _} (o : Option A) → option_iter_item s ≡ o → option_iter_done s ≡ false → YieldsList option_iter_steps (λ y. y.now) s (option_to_list o)
option_yielded {A} {s} o item fresh =
    subst (YieldsList option_iter_steps (λ y. y.now) s) (ap (λ b. cond b [] (option_to_list (option_iter_item s))) fresh ∙ ap option_to_list item)
    (YieldsList-from_shown option_iter_steps (λ y. y.now) (λ u. cond (option_iter_done u) [] (option_to_list (option_iter_item u)))
    (λ u t h. left_none {A = A} (option_iter_done u) (option_iter_item u) h.1)
    (λ u x t h. left_some (option_iter_done u) (option_iter_done t) (option_iter_item u) (option_iter_item t) x h.0 h.1) s)

pub somes_flat : (os : List (Option ℕ)) → flat_map option_to_list os ≡ somes os
somes_flat [] = refl
somes_flat (None ∷ os) = somes_flat os
somes_flat (Some n ∷ os) = ap (λ l. n ∷ l) (somes_flat os)
