-- A file's rows are the file, split in the only way.
use Rattle.std.proofs.Common.{◌≡◌, ℕ, zero, suc, ◌<◌, true, false, eqb, List, [], ◌∷◌, ◌++◌, length, sym, refl, ap, ◌∙◌, subst, inl, inr, ⊎_elim, append_assoc, append-nil, arith}
use Rattle.std.proofs.lemmas.Bool.{cases_Bool, cond-true, cond-false, eqb-true, eqb-false}
use Rattle.std.specs.List.{flat_map}
use Rattle.lines.specs.Rows.{Row, lengthen, rows_of}
use Rattle.lines.specs.Split.{spelled, Unbroken, Tidy, Splits}
use Rattle.lines.proofs.Rowing.{rows_line, rows_last}

joined_lengthen : (b : ℕ) (rows : List Row) → flat_map spelled (lengthen b rows) ≡ b ∷ flat_map spelled rows
joined_lengthen b [] = refl
joined_lengthen b (row ∷ rows) = refl

joined_rows : (file : List ℕ) → flat_map spelled (rows_of file) ≡ file
joined_rows [] = refl
joined_rows (b ∷ bs) =
    ⊎_elim
    (λ e. ap (flat_map spelled) (cond-true _ _ _ e) ∙ (λ i. sym (eqb-true b 10 e) i ∷ joined_rows bs i))
    (λ e. ap (flat_map spelled) (cond-false _ _ _ e) ∙ joined_lengthen b (rows_of bs) ∙ ap (λ l. b ∷ l) (joined_rows bs))
    (cases_Bool (eqb b 10))

unbroken_more : (b : ℕ) (bs : List ℕ) → (b ≡ 10 → ⊥) → Unbroken bs → Unbroken (b ∷ bs)
unbroken_more b bs h g zero lt e = h e
unbroken_more b bs h g (suc k) lt e = g k (omega arith) e

none_broken : Unbroken []
none_broken k lt e = omega arith

tidy_end : (rows : List Row) → Tidy rows → Tidy ((record { bytes = []; ended = true }) ∷ rows)
tidy_end [] h = (none_broken, inl refl)
tidy_end (row ∷ rows) h = (none_broken, refl, h)

tidy_lengthen : (b : ℕ) (rows : List Row) → (b ≡ 10 → ⊥) → Tidy rows → Tidy (lengthen b rows)
tidy_lengthen b [] h t = (unbroken_more b [] h none_broken, inr (refl, omega arith))
tidy_lengthen b (row ∷ []) h t = (unbroken_more b row.bytes h t.0, ⊎_elim inl (λ r. inr (r.0, omega arith)) t.1)
tidy_lengthen b (row ∷ next ∷ rows) h t = (unbroken_more b row.bytes h t.0, t.1, t.2)

tidy_rows : (file : List ℕ) → Tidy (rows_of file)
tidy_rows [] = tt
tidy_rows (b ∷ bs) =
    ⊎_elim
    (λ e. subst Tidy (sym (cond-true _ _ _ e)) (tidy_end (rows_of bs) (tidy_rows bs)))
    (λ e. subst Tidy (sym (cond-false _ _ _ e)) (tidy_lengthen b (rows_of bs) (eqb-false b 10 e) (tidy_rows bs)))
    (cases_Bool (eqb b 10))

-- a row that is ended, before other rows
ended_row : (row : Row) (rest : List ℕ) → Unbroken row.bytes → row.ended ≡ true → rows_of (spelled row ++ rest) ≡ row ∷ rows_of rest
ended_row row rest h e =
    ap rows_of (ap (λ l. (row.bytes ++ l) ++ rest) (cond-true _ _ _ e) ∙ append_assoc row.bytes (10 ∷ []) rest)
    ∙ rows_line row.bytes rest h
    ∙ (λ i. (record { bytes = row.bytes; ended = sym e i }) ∷ rows_of rest)

open_row : (bs : List ℕ) → Unbroken bs → 0 < length bs → rows_of bs ≡ (record { bytes = bs; ended = false }) ∷ []
open_row [] h some = absurd (omega arith)
open_row (b ∷ bs) h some = rows_last b bs h

rows_joined : (rows : List Row) → Tidy rows → rows_of (flat_map spelled rows) ≡ rows
rows_joined [] t = refl
rows_joined (row ∷ []) t =
    ⊎_elim
    (λ e. ended_row row [] t.0 e)
    (λ r.
    ap rows_of (append-nil (spelled row) ∙ ap (λ l. row.bytes ++ l) (cond-false _ _ _ r.0) ∙ append-nil row.bytes)
    ∙ open_row row.bytes t.0 r.1
    ∙ (λ i. (record { bytes = row.bytes; ended = sym r.0 i }) ∷ []))
    t.1
rows_joined (row ∷ next ∷ rows) t =
    ended_row row (flat_map spelled (next ∷ rows)) t.0 t.1 ∙ ap (λ l. row ∷ l) (rows_joined (next ∷ rows) t.2)

pub splits : Splits
splits = ((λ file. (joined_rows file, tidy_rows file)), rows_joined)
