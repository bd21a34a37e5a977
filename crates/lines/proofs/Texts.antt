-- Lists of bytes taken apart.
use Rattle.std.proofs.Common.{◌≡◌, ℕ, suc, ◌+◌, ◌-◌, ◌<◌, ◌≤◌, List, [], ◌∷◌, ◌++◌, length, get_or, take, drop, position, ◌==◌, nat_lt, cond, Some, None, sym, refl, ap, ◌∙◌, ⊎_elim, arith, length-append, length-drop}
use Rattle.std.proofs.lemmas.List.{take_all, take-append-drop, get_or_append_left, get_or_at, take_at, drop_at, drop-drop, drop_more, length-take-le}
use Rattle.std.proofs.lemmas.List.Sums.{position_or_len_is, fails_before_first}
use Rattle.std.proofs.lemmas.List.Quantifiers.{position-Some}
use Rattle.std.specs.List.{position_or_len}
use Rattle.std.proofs.lemmas.Bool.{ne_eqb, eq-eqb, eqb-true, eqb-false, cond-true, lt-ltb, ltb-false, cases_Bool}
use Rattle.lines.specs.Kinds.{Numeral, Spells, bid}

-- the first two bytes, and the rest as a slice pattern has it
first_two : (s : List ℕ) (a b : ℕ) → 0 < b → get_or s 0 0 ≡ a → get_or s 1 0 ≡ b → s ≡ a ∷ b ∷ take (length s - 2) (drop 2 s)
first_two [] a b h e f = absurd (omega arith)
first_two (x ∷ []) a b h e f = absurd (omega arith)
first_two (x ∷ y ∷ s) a b h e f = let t : take (suc (suc (length s)) - 2) s ≡ s = take_all _ s (omega arith) in cc

-- in a text b, x, p with no x in b the first x stands after b
pub first_at : (s b p : List ℕ) (x : ℕ) → s ≡ b ++ (x ∷ p) → ((k : ℕ) → k < length b → get_or b k 0 ≡ x → ⊥) → position (λ y. y == x) s ≡ Some (length b)
first_at s b p x e none =
    let long : length s ≡ length b + suc (length p) = ap length e ∙ length-append b (x ∷ p) in
    let at : position_or_len (λ y. y == x) s ≡ length b =
    position_or_len_is (λ y. y == x) s (length b) 0 (omega arith)
    (λ k lt. ne_eqb _ x (λ z. none k lt (sym (get_or_append_left b (x ∷ p) 0 k lt) ∙ ap (λ l. get_or l k 0) (sym e) ∙ z)))
    (λ lt. eq-eqb _ x (ap (λ l. get_or l (length b) 0) e ∙ get_or_at b x p 0 (length b) refl)) in
    ap (λ n. cond (nat_lt n (length s)) (Some n) None) at ∙ cond-true _ _ _ (lt-ltb (length b) (length s) (omega arith))

pub first_found : (s : List ℕ) (x n : ℕ) → position (λ y. y == x) s ≡ Some n → (n < length s) × (get_or s n 0 ≡ x) × ((k : ℕ) → k < n → get_or s k 0 ≡ x → ⊥)
first_found s x n e =
    let h = position-Some (λ y. y == x) s n 0 e in
    (h.0, eqb-true _ x h.1, λ k lt. eqb-false _ x (h.2 k lt))

pub none_found : (s : List ℕ) (x : ℕ) → position (λ y. y == x) s ≡ None → (k : ℕ) → k < length s → get_or s k 0 ≡ x → ⊥
none_found s x e k lt is =
    let n : ℕ = position_or_len (λ y. y == x) s in
    ⊎_elim
    (λ t. let some : position (λ y. y == x) s ≡ Some n = cond-true _ _ _ t in cc)
    (λ f. let past : length s ≤ n = ltb-false n (length s) f in eqb-false _ x (fails_before_first (λ y. y == x) s k 0 (omega arith)) is)
    (cases_Bool (nat_lt n (length s)))

-- what stands after the two bytes of a text
after_two : (t s : List ℕ) (a b : ℕ) → t ≡ a ∷ b ∷ s → take (length t - 2) (drop 2 t) ≡ s
after_two t s a b e = ap (λ l. take (length l - 2) (drop 2 l)) e ∙ take_all _ s (omega arith)

-- a numeral has no space
pub no_space : (ds : List ℕ) → Numeral ds → (k : ℕ) → k < length ds → get_or ds k 0 ≡ 32 → ⊥
no_space ds h k lt e = omega (arith, h.digits k lt)

-- what follows the two bytes `B ` of a bid
abbrev pub numbers : List ℕ → List ℕ
numbers t = take (length t - 2) (drop 2 t)

-- its first space stands after the buyer
pub bid_space : (t b p : List ℕ) → Spells t (bid b p) → position (λ y. y == 32) (numbers t) ≡ Some (length b)
bid_space t b p h = first_at (numbers t) b p 32 (after_two t _ 66 32 h.0) (no_space b h.1.0)

-- the two parts around the first space, as the slices have them
module _ (t : List ℕ) (n : ℕ) (at : position (λ y. y == 32) (numbers t) ≡ Some n) where
  abbrev pub front : List ℕ
  front = take n (numbers t)

  abbrev pub back : List ℕ
  back = take (length (numbers t) - (n + 1)) (drop (n + 1) (numbers t))

  back_is : back ≡ drop (n + 1) (numbers t)
  back_is = take_all _ _ (omega (arith, length-drop (n + 1) (numbers t)))

  pub bid_parts : (b p : List ℕ) → Spells t (bid b p) → (front ≡ b) × (back ≡ p)
  bid_parts b p h =
      let spaced = bid_space t b p h in
      let place : n ≡ length b = cc in
      let whole : numbers t ≡ b ++ (32 ∷ p) = after_two t _ 66 32 h.0 in
      (ap (take n) whole ∙ take_at b (32 ∷ p) n (sym place), back_is ∙ sym (drop-drop 1 n (numbers t)) ∙ ap (λ l. drop 1 (drop n l)) whole ∙ ap (drop 1) (drop_at b (32 ∷ p) n (sym place)))

  space : (n < length (numbers t)) × (get_or (numbers t) n 0 ≡ 32)
  space = let h = first_found (numbers t) 32 n at in (h.0, h.1)

  pub front_length : length front ≡ n
  front_length = length-take-le n (numbers t) (omega (arith, space.0))

  pub bid_whole : get_or t 0 0 ≡ 66 → get_or t 1 0 ≡ 32 → t ≡ 66 ∷ 32 ∷ (front ++ (32 ∷ back))
  bid_whole e f =
      let cut : drop n (numbers t) ≡ 32 ∷ back = drop_more (numbers t) n 0 space.0 ∙ (λ i. space.1 i ∷ sym back_is i) in
      first_two t 66 32 (omega arith) e f ∙ ap (λ l. 66 ∷ 32 ∷ l) (sym (take-append-drop n (numbers t)) ∙ ap (λ l. front ++ l) cut)

-- a part that stands after `pre` in what follows the offset at
pub part_at : (file : List ℕ) (at n : ℕ) (pre x post : List ℕ) → length pre ≡ n → drop at file ≡ pre ++ (x ++ post) → x ≡ take (length x) (drop (at + n) file)
part_at file at n pre x post e h =
    sym (ap (take (length x)) (sym (drop-drop n at file) ∙ ap (drop n) h ∙ drop_at pre (x ++ post) n e) ∙ take_at x post (length x) refl)
