-- A file read line by line.
use Rattle.std.proofs.Common.{◌≡◌, ℕ, ◌+◌, ◌<◌, ◌≤◌, List, [], ◌∷◌, ◌++◌, length, drop, Some, None, Ok, Err, Option, Result, sym, refl, ap, ◌∙◌, subst, inl, inr, ⊎_elim, arith, length-append}
use Rattle.salefile.specs.Limits.{max_bytes}
use Rattle.salefile.specs.FileContents.{FileContents}
use Rattle.salefile.specs.declared.fault.Fault.{Fault}
use Rattle.salefile.specs.declared.fault.Fault.TheVariants.{AfterEnd}
use Rattle.lines.specs.declared.line.Numbered.{Numbered}
use Rattle.lines.specs.declared.line.Unreadable.{Unreadable}
use Rattle.lines.specs.Kinds.{Kind, header, lot, ending}
use Rattle.lines.specs.Rows.{Row, rows_of, Tells}
use Rattle.lines.specs.Reader.{kind_of, Next}
use Rattle.salefile.specs.Files.{Begins, BeginsWith, Item, over, illegible, line, Sound, Clear, Fails, order, Refused, Rejects, Outcome, Accepted, Describes, no_header}
use Rattle.lines.specs.declared.reader.LineReader.{LineReader}
use Rattle.salefile.specs.declared.draft.Draft.{Draft}
use Rattle.lines.specs.declared.line.Line.{Line}
use Rattle.lines.specs.declared.line.Line.TheVariants.{Header, End}
use Rattle.salefile.specs.Blocks.{is_lot, lots, NoneOpen}
use Rattle.salefile.specs.Draft.{Reached, Loading, Ending, Keeps, RefusedBy}
use Rattle.salefile.proofs.Nesting.{split_last, no_cons}
use Rattle.salefile.proofs.Checks.{clear_first, clear_end, clear_over, reject_after}

pub begins_more : (rows : List Row) (ks : List Kind) (k : Kind) (row : Row) (rest : List Row) → Begins rows ks (row ∷ rest) → Tells row k → Begins rows (ks ++ (k ∷ [])) rest
begins_more rows [] k row rest h t = subst (λ l. Begins l (k ∷ []) rest) (sym h) (t, refl)
begins_more [] (j ∷ ks) k row rest h t = absurd h
begins_more (r ∷ rows) (j ∷ ks) k row rest h t = (h.0, begins_more rows ks k row rest h.1 t)

-- what an answer of the reader stands for
abbrev pub sight : Result (Option Numbered) Unreadable → Item
sight (Ok None) = over
sight (Ok (Some n)) = line (kind_of n.line)
sight (Err u) = illegible

sees_over : (r : Result (Option Numbered) Unreadable) → sight r ≡ over → r ≡ Ok None
sees_over (Ok None) e = refl
sees_over (Ok (Some n)) e = cc
sees_over (Err u) e = cc

-- one line more that passes every check
pub sound_more : (space : ℕ) (ks : List Kind) (k : Kind) → Sound space ks → Clear (Fails space ks (line k)) order → Sound space (ks ++ (k ∷ []))
sound_more space ks k h g b x a e =
    ⊎_elim
    (λ r. subst (λ y. Clear (Fails space b (line y)) order) r.1 (subst (λ l. Clear (Fails space l (line k)) order) r.0 g))
    (λ r. h b x r.0 r.1)
    (split_last ks k b x a e)

-- a line that the reader shows after the lines ks
pub record Shown (file : List ℕ) (ks : List Kind) (n : Numbered) (s s' : LineReader) : Type 0 where
  pub reached : Reached file (ks ++ (kind_of n.line ∷ [])) s'
  pub numbered : n.number ≡ length ks + 1
  pub shows : BeginsWith file ks (line (kind_of n.line))
  pub onward : s.at < s'.at

-- what a call of the reader shows after the lines ks
module _ {file : List ℕ} {ks : List Kind} {s : LineReader} (s' : LineReader) (reached : Reached file ks s) (same : s'.file.now ≡ s.file.now) where
  abbrev pub Told : Result (Option Numbered) Unreadable → Type 0
  Told r = Next s.file.now (rows_of (drop s.at s.file.now)) s.number s.at r s'.number s'.at

  told : {r a : Result (Option Numbered) Unreadable} → r ≡ a → Told r → Next file (rows_of (drop s.at file)) s.number s.at a s'.number s'.at
  told {r} {a} is h = subst (λ f. Next f (rows_of (drop s.at f)) s.number s.at a s'.number s'.at) reached.same (subst Told is h)

  shown_by : (rows : List Row) → rows_of (drop s.at file) ≡ rows → (n : Numbered) → Next file rows s.number s.at (Ok (Some n)) s'.number s'.at → Shown file ks n s s'
  shown_by [] e n h = cc
  shown_by (row ∷ rest) e n h =
      record {
        reached = record {
          same = same ∙ reached.same;
          begins = subst (λ l. Begins (rows_of file) (ks ++ (kind_of n.line ∷ [])) l) (sym h.0.4) (begins_more (rows_of file) ks (kind_of n.line) row rest (subst (λ l. Begins (rows_of file) ks l) e reached.begins) h.0.1);
          counted = omega (arith, h.1, reached.counted, length-append ks (kind_of n.line ∷ []));
        };
        numbered = omega (arith, h.0.0, reached.counted);
        shows = (rows_of (drop s.at file), reached.begins, (row, rest, e, h.0.1));
        onward = omega (arith, h.0.3);
      }

  pub line_shown : {r : Result (Option Numbered) Unreadable} {n : Numbered} → r ≡ Ok (Some n) → Told r → Shown file ks n s s'
  line_shown {r} {n} is h = shown_by (rows_of (drop s.at file)) refl n (told is h)

  over_by : (rows : List Row) → rows_of (drop s.at file) ≡ rows → Next file rows s.number s.at (Ok None) s'.number s'.at → BeginsWith file ks over × (s'.number ≡ length ks)
  over_by [] e h = ((rows_of (drop s.at file), reached.begins, e), h.1 ∙ reached.counted)
  over_by (row ∷ rest) e h = absurd h.0

  pub over_shown : {r : Result (Option Numbered) Unreadable} → r ≡ Ok None → Told r → BeginsWith file ks over × (s'.number ≡ length ks)
  over_shown is h = over_by (rows_of (drop s.at file)) refl (told is h)

  illegible_by : (rows : List Row) → rows_of (drop s.at file) ≡ rows → (u : Unreadable) → Next file rows s.number s.at (Err u) s'.number s'.at → BeginsWith file ks illegible × (u.line ≡ length ks + 1)
  illegible_by [] e u h = cc
  illegible_by (row ∷ rest) e u h = ((rows_of (drop s.at file), reached.begins, (row, rest, e, h.0.1)), omega (arith, h.0.0, reached.counted))

  pub illegible_shown : {r : Result (Option Numbered) Unreadable} {u : Unreadable} → r ≡ Err u → Told r → BeginsWith file ks illegible × (u.line ≡ length ks + 1)
  illegible_shown {r} {u} is h = illegible_by (rows_of (drop s.at file)) refl u (told is h)

  -- whatever the reader answers, it is a sight
  some_sight : (r : Result (Option Numbered) Unreadable) → Told r → (x : Item) × BeginsWith file ks x × (x ≡ sight r)
  some_sight (Ok None) h = (over, (over_shown refl h).0, refl)
  some_sight (Ok (Some n)) h = (line (kind_of n.line), (line_shown refl h).shows, refl)
  some_sight (Err u) h = (illegible, (illegible_shown refl h).0, refl)

  -- an answer that is not the end of the file
  pub seen_more : (r : Result (Option Numbered) Unreadable) → Told r → (r ≡ Ok None → ⊥) → (x : Item) × BeginsWith file ks x × (x ≡ over → ⊥)
  seen_more r h other = let seen = some_sight r h in (seen.0, seen.1, λ e. other (sees_over r (sym seen.2 ∙ e)))

-- the first line

pub reject_first : (file : List ℕ) (space : ℕ) (x : Item) → length file ≤ max_bytes → BeginsWith file [] x → (x ≡ line header → ⊥) → Refused file space 2 1
reject_first file space x fits shows other =
    inr (fits, ([], x, shows, (λ b k a e. absurd (no_cons b k a e)), (no_header, inr ((λ q w. no_cons w.0.0 ending [] w.0.1), inl (refl, (refl, other, refl))), refl)))

pub sound_first : (space : ℕ) → Sound space (header ∷ [])
sound_first space = sound_more space [] header (λ b k a e. absurd (no_cons b k a e)) (clear_first space)

is_header : (l : Line) → line (kind_of l) ≡ line header → l ≡ Header
is_header Header e = refl
is_header _ e = cc

sees_header : (r : Result (Option Numbered) Unreadable) → sight r ≡ line header → (n : Numbered) × (r ≡ Ok (Some n)) × (n.line ≡ Header)
sees_header (Ok None) e = cc
sees_header (Ok (Some n)) e = (n, refl, is_header n.line e)
sees_header (Err u) e = cc

-- an answer that is not the header
pub refuse_first : {file : List ℕ} (space : ℕ) {s : LineReader} (s' : LineReader) → length file ≤ max_bytes → (reached : Reached file [] s) (same : s'.file.now ≡ s.file.now) (r : Result (Option Numbered) Unreadable) → Told s' reached same r
    → ((n : Numbered) → r ≡ Ok (Some n) → n.line ≡ Header → ⊥) → Refused file space 2 1
refuse_first {file} space s' fits reached same r h other =
    let seen = some_sight s' reached same r h in
    reject_first file space seen.0 fits seen.1 (λ e. let h = sees_header r (sym seen.2 ∙ e) in other h.0 h.1 h.2)

-- a line of the body

pub not_ending : (l : Line) → (l ≡ End → ⊥) → kind_of l ≡ ending → ⊥
not_ending End h e = h refl
not_ending _ h e = cc

lot_le : (k : Kind) → is_lot k ≤ 1
lot_le lot = omega arith
lot_le _ = omega arith

pub lots_le : (ks : List Kind) → lots ks ≤ length ks
lots_le [] = omega arith
lots_le (k ∷ ks) = omega (arith, lot_le k, lots_le ks)

module _ {file : List ℕ} {space : ℕ} {s : LineReader} {d : Draft} (now : Loading file space s d) where
  pub refuse : (x : Item) (n p : ℕ) → BeginsWith file now.lines x → Rejects space now.lines x n p → Refused file space n p
  refuse x n p shows rejects = inr (now.fits, (now.lines, x, shows, now.sound, rejects))

  pub few_lots : d.lots < 65535
  few_lots = omega (arith, now.fits, now.keeps.lot_count, lots_le now.lines, now.reached.counted, ap length now.reached.same, s.within, s.counted)

-- the start and the end of a load

pub start : (file : List ℕ) (s : LineReader) → s.file.now ≡ file → s.at ≡ 0 → s.number ≡ 0 → Reached file [] s
start file s e f g = record { same = e; begins = ap (λ n. rows_of (drop n file)) (sym f); counted = g }

pub loading : (file : List ℕ) (s : LineReader) (d : Draft) → length file ≤ max_bytes → Reached file (header ∷ []) s → Sound d.space (header ∷ []) → Keeps (header ∷ []) d → Loading s.file.now d.space s d
loading file s d fits reached sound keeps =
    subst (λ f. Loading f d.space s d) (sym reached.same) (record { fits = fits; spaced = refl; lines = header ∷ []; reached = reached; keeps = keeps; sound = sound })

module _ {file : List ℕ} {space : ℕ} {s : LineReader} {d : Draft} (now : Ending file space s d) where
  pub refuse_end : (f : Fault) → RefusedBy space now.lines (line ending) f → Outcome file space (Err f)
  refuse_end f told = inr (now.fits, (now.lines, line ending, now.shows, now.sound, told))

  sound_end : NoneOpen now.lines → Sound space (now.lines ++ (ending ∷ []))
  sound_end shut = sound_more space now.lines ending now.sound (clear_end space now.lines now.keeps.begun now.keeps.going shut)

  pub refuse_after : NoneOpen now.lines → (x : Item) (f : Fault) → BeginsWith file (now.lines ++ (ending ∷ [])) x → (x ≡ over → ⊥) → f ≡ AfterEnd (length (now.lines ++ (ending ∷ [])) + 1) → Outcome file space (Err f)
  refuse_after shut x f shows some e =
      subst (λ y. Outcome file space (Err y)) (sym e) (inr (now.fits, (now.lines ++ (ending ∷ []), x, shows, sound_end shut, reject_after space now.lines x _ some refl)))

  pub accept : (c : FileContents) → NoneOpen now.lines → BeginsWith file (now.lines ++ (ending ∷ [])) over → Describes (now.lines ++ (ending ∷ [])) c → Accepted file space c
  accept c shut shows describes =
      (now.fits, (now.lines ++ (ending ∷ []), shows, sound_end shut, clear_over space now.lines, describes))
