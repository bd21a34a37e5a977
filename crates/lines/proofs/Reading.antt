-- Calls made one after another read the whole file.
use Rattle.std.proofs.Common.{◌≡◌, ℕ, zero, suc, ◌+◌, ◌<◌, ◌≤◌, Bool, true, false, cond, ◌⊎◌, List, [], ◌∷◌, length, get_or, take, drop, Some, None, Ok, Err, sym, refl, ap, ◌∙◌, subst, inl, inr, ⊎_elim, arith, length-append}
use Rattle.std.proofs.lemmas.List.{drop_all}
use Rattle.std.proofs.lemmas.Bool.{cases_Bool, cond-true, cond-false}
use Rattle.std.specs.List.{flat_map}
use Rattle.lines.specs.declared.line.Unreadable.{Unreadable}
use Rattle.lines.specs.Rows.{Row, rows_of, Illegible}
use Rattle.lines.specs.Reader.{kind_of, Next}
use Rattle.lines.specs.Split.{spelled}
use Rattle.lines.specs.Decode.{legible}
use Rattle.lines.specs.Whole.{Reply, Calls, readable, start, no_row, TellsLine, ReadsWhole}
use Rattle.lines.proofs.Decoding.{legible_tells, tells_legible}

illegible_false : (row : Row) → Illegible row → legible row ≡ false
illegible_false row h = ⊎_elim (λ e. absurd (h _ (legible_tells row e))) (λ e. e) (cases_Bool (legible row))

-- the answers from a place on, of which the rows `rows` follow
record From (file : List ℕ) (number at : ℕ) (rows : List Row) (rs : List Reply) : Type 0 where
  lines : (k : ℕ) → k < length rs → k < readable rows
      → TellsLine file (number + k + 1) (get_or rows k no_row) (at + start rows k) (get_or rs k (Ok None))
  fault : (k : ℕ) → k < length rs → k ≡ readable rows → k < length rows → get_or rs k (Ok None) ≡ Err (record { line = number + k + 1 })
  over : (k : ℕ) → k < length rs → (readable rows < k) ⊎ (length rows ≤ k) → get_or rs k (Ok None) ≡ Ok None

moved : (file : List ℕ) (row : Row) (r : Reply) (n m a b : ℕ) → n ≡ m → a ≡ b → TellsLine file n row a r → TellsLine file m row b r
moved file row r n m a b p q h = subst (λ x. TellsLine file x row b r) p (subst (λ x. TellsLine file n row x r) q h)

module _ (file : List ℕ) (number at : ℕ) (rs : List Reply) where
  over_again : From file number at [] rs → From file number at [] (Ok None ∷ rs)
  over_again later =
      record {
        lines = λ k lt h. absurd (omega arith);
        fault = λ k lt e h. absurd (omega arith);
        over = λ k. elim k as (λ k. k < suc (length rs) → (0 < k) ⊎ (0 ≤ k) → get_or (Ok None ∷ rs) k (Ok None) ≡ Ok None) [ zero ↦ λ lt h. refl | suc j ↦ λ lt h. later.over j (omega arith) (inr (omega arith)) ];
      }

  -- the first row is no line
  fault_here : (row : Row) (rows : List Row) (e : Unreadable) → legible row ≡ false → e.line ≡ number + 1 → (n a : ℕ) → From file n a [] rs → From file number at (row ∷ rows) (Err e ∷ rs)
  fault_here row rows e bad line n a later =
      let none : readable (row ∷ rows) ≡ 0 = cond-false _ _ _ bad in
      record {
        lines = λ k lt h. absurd (omega (arith, none));
        fault = λ k lt is h. let z : k ≡ 0 = is ∙ none in let l : e.line ≡ number + 0 + 1 = omega arith in subst (λ j. get_or (Err e ∷ rs) j (Ok None) ≡ Err (record { line = number + j + 1 })) (sym z) (λ i. Err (record { line = l i }));
        over = λ k. elim k as (λ k. k < suc (length rs) → (readable (row ∷ rows) < k) ⊎ (suc (length rows) ≤ k) → get_or (Err e ∷ rs) k (Ok None) ≡ Ok None) [
          | zero ↦ λ lt h. absurd (⊎_elim (λ l. omega (arith, none)) (λ l. omega arith) h)
          | suc j ↦ λ lt h. later.over j (omega arith) (inr (omega arith))
        ];
      }

  -- the first row is a line
  line_here : (row : Row) (rows : List Row) (r : Reply) → legible row ≡ true → TellsLine file (number + 1) row at r
      → (n a : ℕ) → n ≡ number + 1 → a ≡ at + length (spelled row) → From file n a rows rs → From file number at (row ∷ rows) (r ∷ rs)
  line_here row rows r good told n a next onward later =
      let more : readable (row ∷ rows) ≡ suc (readable rows) = cond-true _ _ _ good in
      record {
        lines = λ k. elim k as (λ k. k < suc (length rs) → k < readable (row ∷ rows) → TellsLine file (number + k + 1) (get_or (row ∷ rows) k no_row) (at + start (row ∷ rows) k) (get_or (r ∷ rs) k (Ok None))) [
          | zero ↦ λ lt h. moved file row r (number + 1) (number + 0 + 1) at (at + 0) (omega arith) (omega arith) told
          | suc j ↦ λ lt h.
              moved file (get_or rows j no_row) (get_or rs j (Ok None)) (n + j + 1) (number + suc j + 1) (a + start rows j) (at + start (row ∷ rows) (suc j))
              (omega arith) (omega (arith, length-append (spelled row) (flat_map spelled (take j rows)))) (later.lines j (omega arith) (omega (arith, more)))
        ];
        fault = λ k. elim k as (λ k. k < suc (length rs) → k ≡ readable (row ∷ rows) → k < suc (length rows) → get_or (r ∷ rs) k (Ok None) ≡ Err (record { line = number + k + 1 })) [
          | zero ↦ λ lt e h. absurd (omega (arith, more))
          | suc j ↦ λ lt e h. later.fault j (omega arith) (omega (arith, more)) (omega arith) ∙ (let l : n + j + 1 ≡ number + suc j + 1 = omega arith in λ i. Err (record { line = l i }))
        ];
        over = λ k. elim k as (λ k. k < suc (length rs) → (readable (row ∷ rows) < k) ⊎ (suc (length rows) ≤ k) → get_or (r ∷ rs) k (Ok None) ≡ Ok None) [
          | zero ↦ λ lt h. absurd (⊎_elim (λ l. omega arith) (λ l. omega arith) h)
          | suc j ↦ λ lt h. later.over j (omega arith) (⊎_elim (λ l. inl (omega (arith, more))) (λ l. inr (omega arith)) h)
        ];
      }

abbrev line_end : Bool → List ℕ
line_end ended = cond ended (10 ∷ []) []

-- one call, and what later calls answer from where it leaves the reader
one_call : (file : List ℕ) (rs : List Reply) (number at n a : ℕ) (rows : List Row) (r : Reply) → rows_of (drop at file) ≡ rows → Next file rows number at r n a
    → ((rows' : List Row) → rows_of (drop a file) ≡ rows' → From file n a rows' rs) → From file number at rows (r ∷ rs)
one_call file rs number at n a [] r e next later =
    let stays : rows_of (drop a file) ≡ [] = ap (λ x. rows_of (drop x file)) next.2 ∙ e in
    let rest : From file number at [] rs = subst (λ x. From file x at [] rs) next.1 (subst (λ x. From file n x [] rs) next.2 (later [] stays)) in
    subst (λ x. From file number at [] (x ∷ rs)) (sym next.0) (over_again file number at rs rest)
one_call file rs number at n a (row ∷ rows) (Ok None) e next later = absurd next.0
one_call file rs number at n a (row ∷ rows) (Ok (Some m)) e next later =
    let h = next.0 in
    let good : legible row ≡ true = tells_legible row (kind_of m.line) h.1 in
    let long : length (spelled row) ≡ length row.bytes + 1 = length-append row.bytes (cond row.ended (10 ∷ []) []) ∙ ap (λ x. length row.bytes + length (line_end x)) h.1.0 in
    line_here file number at rs row rows (Ok (Some m)) good (h.0, h.1, h.2) n a next.1 (omega (arith, long, h.3)) (later rows h.4)
one_call file rs number at n a (row ∷ rows) (Err u) e next later =
    let h = next.0 in
    let stop : rows_of (drop a file) ≡ [] = ap (λ x. rows_of (drop x file)) h.2 ∙ ap rows_of (drop_all (length file) file (omega arith)) in
    fault_here file number at rs row rows u (illegible_false row h.1) h.0 n a (later [] stop)

reads_on : (file : List ℕ) (rs : List Reply) (number at : ℕ) (rows : List Row) → rows_of (drop at file) ≡ rows → Calls file number at rs → From file number at rows rs
reads_on file [] number at rows e calls =
    record { lines = λ k lt h. absurd (omega arith); fault = λ k lt is h. absurd (omega arith); over = λ k lt h. absurd (omega arith) }
reads_on file (r ∷ rs) number at rows e calls =
    one_call file rs number at calls.0 calls.1 rows r e (subst (λ x. Next file x number at r calls.0 calls.1) e calls.2)
    (λ rows' e'. reads_on file rs calls.0 calls.1 rows' e' calls.3)

pub reads_whole : ReadsWhole
reads_whole file rs calls =
    let h = reads_on file rs 0 0 (rows_of file) refl calls in
    record {
      lines = λ k lt r. moved file (get_or (rows_of file) k no_row) (get_or rs k (Ok None)) (0 + k + 1) (k + 1) (0 + start (rows_of file) k) (start (rows_of file) k) (omega arith) (omega arith) (h.lines k lt r);
      fault = λ k lt is r. h.fault k lt is r ∙ (let l : 0 + k + 1 ≡ k + 1 = omega arith in λ i. Err (record { line = l i }));
      over = h.over;
    }
