-- A file split into rows, and a row read.
use Rattle.std.proofs.Common.{◌≡◌, ℕ, suc, ◌+◌, ◌-◌, ◌<◌, true, false, eqb, List, [], ◌∷◌, ◌++◌, length, get_or, take, drop, position, ◌==◌, Some, None, Ok, Err, sym, refl, ap, ◌∙◌, subst, ⊎_elim, append_assoc, append-nil, arith, length-append, length-drop}
use Rattle.std.proofs.lemmas.List.{take_all, drop_more, take-append-drop, get_or-take, length-take-le, drop-drop}
use Rattle.std.proofs.lemmas.Bool.{cases_Bool, cond-false, cond-true, ne_eqb, false≢true}
use Rattle.lines.specs.Kinds.{Kind, Spells}
use Rattle.lines.specs.Rows.{lengthen, rows_of, content}
use Rattle.lines.specs.Reader.{kind_of, Placed, Stands, Next}
use Rattle.lines.specs.declared.line.Line.{Line}
use Rattle.lines.specs.declared.line.Line.TheVariants.{Bid, Remark}
use Rattle.lines.proofs.Texts.{first_found, none_found, part_at}

-- no byte of the list is a 10
abbrev pub NoEnd : List ℕ → Type 0
NoEnd bs = (k : ℕ) → k < length bs → get_or bs k 0 ≡ 10 → ⊥

no_end_rest : (b : ℕ) (bs : List ℕ) → NoEnd (b ∷ bs) → NoEnd bs
no_end_rest b bs h k lt e = h (suc k) (omega arith) e

pub rows_line : (bs rest : List ℕ) → NoEnd bs → rows_of (bs ++ (10 ∷ rest)) ≡ (record { bytes = bs; ended = true }) ∷ rows_of rest
rows_line [] rest h = refl
rows_line (b ∷ bs) rest h = cond-false _ _ _ (ne_eqb b 10 (h 0 (omega arith))) ∙ ap (lengthen b) (rows_line bs rest (no_end_rest b bs h))

pub rows_last : (b : ℕ) (bs : List ℕ) → NoEnd (b ∷ bs) → rows_of (b ∷ bs) ≡ (record { bytes = b ∷ bs; ended = false }) ∷ []
rows_last b [] h = cond-false _ _ _ (ne_eqb b 10 (h 0 (omega arith)))
rows_last b (c ∷ bs) h = cond-false _ _ _ (ne_eqb b 10 (h 0 (omega arith))) ∙ ap (lengthen b) (rows_last c bs (no_end_rest b (c ∷ bs) h))

-- the content is the front of the line
pub content_front : (bs : List ℕ) → (t : List ℕ) × (bs ≡ content bs ++ t)
content_front bs =
    ⊎_elim
    (λ e. (drop (length bs - 1) bs, sym (ap (λ l. l ++ drop (length bs - 1) bs) (cond-true _ _ _ e) ∙ take-append-drop (length bs - 1) bs)))
    (λ e. ([], sym (ap (λ l. l ++ []) (cond-false _ _ _ e) ∙ append-nil bs)))
    (cases_Bool (eqb (get_or bs (length bs - 1) 0) 13))

-- the parts of a line stand in the file
pub placed : (file : List ℕ) (at : ℕ) (text tail : List ℕ) (l : Line) → drop at file ≡ text ++ tail → Spells text (kind_of l) → Stands at l → Placed file at l
placed file at text tail (Bid b p) e s h =
    let x : List ℕ = b.part.bytes.now in
    let y : List ℕ = p.part.bytes.now in
    let all : drop at file ≡ (66 ∷ 32 ∷ (x ++ (32 ∷ y))) ++ tail = e ∙ ap (λ l. l ++ tail) s.0 in
    let one : drop at file ≡ (66 ∷ 32 ∷ []) ++ (x ++ ((32 ∷ y) ++ tail)) = all ∙ ap (λ l. 66 ∷ 32 ∷ l) (append_assoc x (32 ∷ y) tail) in
    let two : drop at file ≡ (66 ∷ 32 ∷ (x ++ (32 ∷ []))) ++ (y ++ tail) = one ∙ ap (λ l. 66 ∷ 32 ∷ l) (sym (append_assoc x (32 ∷ []) (y ++ tail))) in
    let long : length (x ++ (32 ∷ [])) ≡ length x + 1 = length-append x (32 ∷ []) in (
      (h.0, part_at file at 2 (66 ∷ 32 ∷ []) x _ refl one),
      (h.1, part_at file at (3 + length x) (66 ∷ 32 ∷ (x ++ (32 ∷ []))) y tail (omega arith) two ∙ ap (λ i. take (length y) (drop i file)) (omega arith)),
    )
placed file at text tail (Remark w) e s h = (h, part_at file at 1 (42 ∷ []) w.bytes.now tail refl (e ∙ ap (λ l. l ++ tail) s.0))
placed file at text tail _ e s h = tt

-- a line of n bytes before its byte 10
module _ (rest : List ℕ) (n : ℕ) (at : position (λ y. y == 10) rest ≡ Some n) where
  pub line_split : rest ≡ take n rest ++ (10 ∷ drop (n + 1) rest)
  line_split =
      let here = first_found rest 10 n at in
      sym (take-append-drop n rest) ∙ ap (λ l. take n rest ++ l) (drop_more rest n 0 here.0 ∙ ap (λ b. b ∷ drop (n + 1) rest) here.1)

  pub line_length : length (take n rest) ≡ n
  line_length = let here = first_found rest 10 n at in length-take-le n rest (omega arith)

  pub line_rows : rows_of rest ≡ (record { bytes = take n rest; ended = true }) ∷ rows_of (drop (n + 1) rest)
  line_rows =
      let here = first_found rest 10 n at in
      ap rows_of line_split ∙ rows_line (take n rest) (drop (n + 1) rest) (λ k lt e. let long = line_length in here.2 k (omega arith) (sym (get_or-take n rest k 0 (omega arith)) ∙ e))

-- the bytes from the offset at on, as a slice has them
abbrev pub Rest : List ℕ → ℕ → List ℕ
Rest file at = take (length file - at) (drop at file)

pub rest_is : (file : List ℕ) (at : ℕ) → Rest file at ≡ drop at file
rest_is file at = take_all _ _ (omega (arith, length-drop at file))

-- one call of the reader, by what it finds
module _ (file : List ℕ) (number at : ℕ) where
  unended : (l : List ℕ) → NoEnd l → 0 < length l → Next file (rows_of l) number at (Err (record { line = number + 1 })) (number + 1) (length file)
  unended [] h some = absurd (omega arith)
  unended (b ∷ bs) h some = rw (rows_last b bs h) ((refl, (λ k t. absurd (false≢true t.0)), refl), refl)

  pub next_unended : 0 < length (Rest file at) → position (λ y. y == 10) (Rest file at) ≡ None → Next file (rows_of (drop at file)) number at (Err (record { line = number + 1 })) (number + 1) (length file)
  next_unended some none = subst (λ l. Next file (rows_of l) number at (Err (record { line = number + 1 })) (number + 1) (length file)) (rest_is file at) (unended _ (none_found _ 10 none) some)

  module _ (n : ℕ) (found : position (λ y. y == 10) (Rest file at) ≡ Some n) (text : List ℕ) (is : text ≡ content (take n (Rest file at))) where
    rows_here : rows_of (drop at file) ≡ (record { bytes = take n (Rest file at); ended = true }) ∷ rows_of (drop (n + 1) (Rest file at))
    rows_here = ap rows_of (sym (rest_is file at)) ∙ line_rows (Rest file at) n found

    pub next_bad : ((k : Kind) → Spells text k → ⊥) → Next file (rows_of (drop at file)) number at (Err (record { line = number + 1 })) (number + 1) (length file)
    next_bad bad = rw rows_here ((refl, (λ k t. bad k (subst (λ x. Spells x k) (sym is) t.1)), refl), refl)

    pub next_line : (l : Line) → Spells text (kind_of l) → Stands at l → Next file (rows_of (drop at file)) number at (Ok (Some (record { number = number + 1; line = l }))) (number + 1) (at + n + 1)
    next_line l spells stands =
        let long = line_length (Rest file at) n found in
        let front = content_front (take n (Rest file at)) in
        let tail : List ℕ = front.0 ++ (10 ∷ drop (n + 1) (Rest file at)) in
        let whole : drop at file ≡ text ++ tail =
        sym (rest_is file at) ∙ line_split (Rest file at) n found ∙ ap (λ x. x ++ (10 ∷ drop (n + 1) (Rest file at))) (front.1 ∙ ap (λ x. x ++ front.0) (sym is)) ∙ append_assoc text front.0 (10 ∷ drop (n + 1) (Rest file at)) in
        let onward : rows_of (drop (at + n + 1) file) ≡ rows_of (drop (n + 1) (Rest file at)) =
        ap rows_of (ap (λ i. drop i file) (omega arith) ∙ sym (drop-drop (n + 1) at file) ∙ ap (drop (n + 1)) (sym (rest_is file at))) in
        rw rows_here ((refl, (refl, subst (λ x. Spells x (kind_of l)) is spells), placed file at text tail l whole spells stands, omega arith, onward), refl)
