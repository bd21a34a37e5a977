-- Conflicts and containers among packages that are joined from two lists, and along a loop.
use Rattle.std.proofs.Common.{◌≡◌, ℕ, zero, suc, ◌+◌, ◌<◌, ◌≤◌, ◌⊎◌, List, [], ◌∷◌, ◌++◌, map, length, get_or, take, drop, Some, None, Ok, Err, Option, sym, refl, ap, ◌∙◌, ap₂, inl, inr, add-zero, add-suc, suc-add, arith, take-append-drop}
use mathlib.Core.List.{map-append}
use Rattle.std.proofs.lemmas.List.{map_more, drop_more, length-map, length-take-le}
use Rattle.std.specs.Option.{option_or}
use Rattle.packages.specs.declared.relation.Relation.{Relation}
use Rattle.packages.specs.declared.relation.Relation.TheVariants.{Equal, Inside, Around, Apart, Crossing}
use Rattle.packages.specs.declared.place.Conflict.{Conflict}
use Rattle.packages.specs.Lots.{Lots}
use Rattle.packages.specs.Nest.{relation_of, objection, conflict_from, container, innermost_from, settle, place_of}

or_none : {X : Type 0} (a : Option X) → option_or a None ≡ a
or_none None = refl
or_none (Some x) = refl

or_assoc : {X : Type 0} (a b c : Option X) → option_or (option_or a b) c ≡ option_or a (option_or b c)
or_assoc None b c = refl
or_assoc (Some x) b c = refl

pub conflict_append : (n : ℕ) (s : Lots) (xs ys : List Lots)
    → conflict_from n s (xs ++ ys) ≡ option_or (conflict_from n s xs) (conflict_from (n + length xs) s ys)
conflict_append n s [] ys = ap (λ k. conflict_from k s ys) (sym (add-zero n))
conflict_append n s (x ∷ xs) ys =
    ap (option_or (objection (relation_of s x) n)) (conflict_append (suc n) s xs ys)
    ∙ sym (or_assoc (objection (relation_of s x) n) (conflict_from (suc n) s xs) (conflict_from (suc n + length xs) s ys))
    ∙ ap (λ k. option_or (conflict_from n s (x ∷ xs)) (conflict_from k s ys)) (suc-add n (length xs) ∙ sym (add-suc n (length xs)))

pub innermost_append : (n : ℕ) (s : Lots) (xs ys : List Lots)
    → innermost_from n s (xs ++ ys) ≡ option_or (innermost_from (n + length xs) s ys) (innermost_from n s xs)
innermost_append n s [] ys = ap (λ k. innermost_from k s ys) (sym (add-zero n)) ∙ sym (or_none (innermost_from (n + 0) s ys))
innermost_append n s (x ∷ xs) ys =
    ap (λ o. option_or o (container (relation_of s x) n)) (innermost_append (suc n) s xs ys)
    ∙ or_assoc (innermost_from (suc n + length xs) s ys) (innermost_from (suc n) s xs) (container (relation_of s x) n)
    ∙ ap (λ k. option_or (innermost_from k s ys) (innermost_from n s (x ∷ xs))) (suc-add n (length xs) ∙ sym (add-suc n (length xs)))

-- a loop over packages, at the package x with the index i
module _ {P : Type 0} (m : P → Lots) (s : Lots) (xs : List P) (i : ℕ) (x : P) (within : i < length xs) (read : x ≡ get_or xs i x) where
  abbrev front : List Lots
  front = map m (take i xs)

  number : 1 + length front ≡ i + 1
  number = let short : i ≤ length xs = omega arith in omega (arith, length-map (take i xs) m, length-take-le i xs short)

  more : map m (take (i + 1) xs) ≡ front ++ (m x ∷ [])
  more = map_more m xs i x within ∙ ap (λ y. front ++ (m y ∷ [])) (sym read)

  split : map m xs ≡ front ++ (m x ∷ map m (drop (i + 1) xs))
  split =
      ap (map m) (sym (take-append-drop i xs))
      ∙ map-append m (take i xs) (drop i xs)
      ∙ ap (λ ys. front ++ map m ys) (drop_more xs i x within)
      ∙ ap (λ y. front ++ (m y ∷ map m (drop (i + 1) xs))) (sym read)

  -- one package more, without a conflict before it
  pub next : (r : Relation) (inner : Option ℕ) → r ≡ relation_of s (m x) → conflict_from 1 s front ≡ None → innermost_from 1 s front ≡ inner
      → (conflict_from 1 s (map m (take (i + 1) xs)) ≡ objection r (i + 1)) × (innermost_from 1 s (map m (take (i + 1) xs)) ≡ option_or (container r (i + 1)) inner)
  next r inner e free is = (
    ap (conflict_from 1 s) more ∙ conflict_append 1 s front (m x ∷ [])
        ∙ ap₂ (λ o k. option_or o (conflict_from k s (m x ∷ []))) free number
        ∙ or_none (objection (relation_of s (m x)) (i + 1))
        ∙ ap (λ q. objection q (i + 1)) (sym e),
    ap (innermost_from 1 s) more ∙ innermost_append 1 s front (m x ∷ [])
        ∙ ap₂ (λ k o. option_or (innermost_from k s (m x ∷ [])) o) number is
        ∙ ap (λ q. option_or (container q (i + 1)) inner) (sym e),
  )

  -- the first conflict settles the place
  pub refused_here : (c : Conflict) → conflict_from 1 s front ≡ None → objection (relation_of s (m x)) (i + 1) ≡ Some c → Err c ≡ place_of s (map m xs)
  unfolding place_of
  refused_here c before here =
      let rest = map m (drop (i + 1) xs) in
      let found : conflict_from 1 s (map m xs) ≡ Some c =
      ap (conflict_from 1 s) split ∙ conflict_append 1 s front (m x ∷ rest)
      ∙ ap (λ o. option_or o (conflict_from (1 + length front) s (m x ∷ rest))) before
      ∙ ap (λ k. conflict_from k s (m x ∷ rest)) number
      ∙ ap (λ o. option_or o (conflict_from (suc (i + 1)) s rest)) here in
      ap (λ o. settle o (innermost_from 1 s (map m xs))) (sym found)

pub settled : (s : Lots) (ts : List Lots) (inner : Option ℕ) → conflict_from 1 s ts ≡ None → innermost_from 1 s ts ≡ inner → Ok inner ≡ place_of s ts
unfolding place_of
settled s ts inner none is = sym (ap₂ settle none is)

settle_ok : (o : Option Conflict) (i inner : Option ℕ) → Ok inner ≡ settle o i → (o ≡ None) × (i ≡ inner)
settle_ok None i inner e = (refl, cc)
settle_ok (Some c) i inner e = cc

settle_err : (o : Option Conflict) (i : Option ℕ) (c : Conflict) → Err c ≡ settle o i → o ≡ Some c
settle_err None i c e = cc
settle_err (Some d) i c e = cc

pub placed : (s : Lots) (ts : List Lots) (inner : Option ℕ) → Ok inner ≡ place_of s ts → (conflict_from 1 s ts ≡ None) × (innermost_from 1 s ts ≡ inner)
unfolding place_of
placed s ts inner e = settle_ok (conflict_from 1 s ts) (innermost_from 1 s ts) inner e

pub displaced : (s : Lots) (ts : List Lots) (c : Conflict) → Err c ≡ place_of s ts → conflict_from 1 s ts ≡ Some c
unfolding place_of
displaced s ts c e = settle_err (conflict_from 1 s ts) (innermost_from 1 s ts) c e

-- what conflicts and containers say of each package

pub objection_none : (r : Relation) (n : ℕ) → objection r n ≡ None → (r ≡ Inside) ⊎ (r ≡ Apart)
objection_none Equal n e = cc
objection_none Inside n e = inl refl
objection_none Around n e = cc
objection_none Apart n e = inr refl
objection_none Crossing n e = cc

or_none_parts : {X : Type 0} (a b : Option X) → option_or a b ≡ None → (a ≡ None) × (b ≡ None)
or_none_parts None b e = (refl, e)
or_none_parts (Some x) b e = cc

-- without a conflict each package has s inside it or apart from it
pub no_conflict : (n : ℕ) (s : Lots) (ts : List Lots) (d : Lots) → conflict_from n s ts ≡ None → (j : ℕ) → j < length ts
    → (relation_of s (get_or ts j d) ≡ Inside) ⊎ (relation_of s (get_or ts j d) ≡ Apart)
no_conflict n s [] d e j h = absurd (omega arith)
no_conflict n s (t ∷ ts) d e zero h = objection_none (relation_of s t) n (or_none_parts (objection (relation_of s t) n) (conflict_from (suc n) s ts) e).0
no_conflict n s (t ∷ ts) d e (suc j) h = no_conflict (suc n) s ts d (or_none_parts (objection (relation_of s t) n) (conflict_from (suc n) s ts) e).1 j (omega arith)

no_objection : (r : Relation) (n : ℕ) → (r ≡ Inside) ⊎ (r ≡ Apart) → objection r n ≡ None
no_objection r n (inl e) = ap (λ x. objection x n) e
no_objection r n (inr e) = ap (λ x. objection x n) e

-- and where each package has s inside it or apart from it there is no conflict
pub conflict_free : (n : ℕ) (s : Lots) (ts : List Lots) (d : Lots) → ((j : ℕ) → j < length ts → (relation_of s (get_or ts j d) ≡ Inside) ⊎ (relation_of s (get_or ts j d) ≡ Apart)) → conflict_from n s ts ≡ None
conflict_free n s [] d h = refl
conflict_free n s (t ∷ ts) d h =
    ap (λ o. option_or o (conflict_from (suc n) s ts)) (no_objection (relation_of s t) n (h 0 (omega arith)))
    ∙ conflict_free (suc n) s ts d (λ j l. h (suc j) (omega arith))

inside_container : (r : Relation) (n : ℕ) → r ≡ Inside → container r n ≡ Some n
inside_container r n e = ap (λ x. container x n) e

container_some : (r : Relation) (n f : ℕ) → container r n ≡ Some f → (r ≡ Inside) × (f ≡ n)
container_some Equal n f e = cc
container_some Inside n f e = (refl, cc)
container_some Around n f e = cc
container_some Apart n f e = cc
container_some Crossing n f e = cc

pub no_container : (n : ℕ) (s : Lots) (ts : List Lots) (d : Lots) → innermost_from n s ts ≡ None → (j : ℕ) → j < length ts → relation_of s (get_or ts j d) ≡ Inside → ⊥
no_container n s [] d e j h i = omega arith
no_container n s (t ∷ ts) d e zero h i =
    let none = (or_none_parts (innermost_from (suc n) s ts) (container (relation_of s t) n) e).1 in
    let some = inside_container (relation_of s t) n i in
    cc
no_container n s (t ∷ ts) d e (suc j) h i = no_container (suc n) s ts d (or_none_parts (innermost_from (suc n) s ts) (container (relation_of s t) n) e).0 j (omega arith) i

-- the innermost container: s is inside it, and inside no later package
pub record Innermost (n : ℕ) (s : Lots) (ts : List Lots) (d : Lots) (f : ℕ) : Type 0 where
  pub index : ℕ
  pub number : f ≡ n + index
  pub short : index < length ts
  pub inside : relation_of s (get_or ts index d) ≡ Inside
  pub last : (k : ℕ) → index < k → k < length ts → relation_of s (get_or ts k d) ≡ Inside → ⊥

pub innermost_is : (n : ℕ) (s : Lots) (ts : List Lots) (d : Lots) (f : ℕ) → innermost_from n s ts ≡ Some f → Innermost n s ts d f
innermost_is n s [] d f e = cc
innermost_is n s (t ∷ ts) d f e = go (innermost_from (suc n) s ts) refl (innermost_is (suc n) s ts d f)
  where
    later : (k : ℕ) → 0 < k → k < suc (length ts) → relation_of s (get_or (t ∷ ts) k d) ≡ Inside → innermost_from (suc n) s ts ≡ None → ⊥
    later zero l h i none = omega arith
    later (suc k) l h i none = no_container (suc n) s ts d none k (omega arith) i

    beyond : Innermost (suc n) s ts d f → Innermost n s (t ∷ ts) d f
    beyond r = record {
      index = suc r.index;
      number = omega (arith, r.number);
      short = omega (arith, r.short);
      inside = r.inside;
      last = λ k. past r k;
    }
      where
        past : (r : Innermost (suc n) s ts d f) (k : ℕ) → suc r.index < k → k < suc (length ts) → relation_of s (get_or (t ∷ ts) k d) ≡ Inside → ⊥
        past r zero l h i = omega arith
        past r (suc k) l h i = r.last k (omega arith) (omega arith) i

    go : (o : Option ℕ) → innermost_from (suc n) s ts ≡ o → (innermost_from (suc n) s ts ≡ Some f → Innermost (suc n) s ts d f) → Innermost n s (t ∷ ts) d f
    go None none rest =
        let here = container_some (relation_of s t) n f (sym (ap (λ o. option_or o (container (relation_of s t) n)) none) ∙ e) in
        record {
          index = 0;
          number = omega (arith, here.1);
          short = omega arith;
          inside = here.0;
          last = λ k l h i. later k l h i none;
        }
    go (Some x) some rest = beyond (rest (some ∙ sym (ap (λ o. option_or o (container (relation_of s t) n)) some) ∙ e))
