-- The computed reading of a file is the one that the rules define.
use Rattle.std.proofs.Common.{◌≡◌, ℕ, zero, suc, ◌+◌, ◌<◌, ◌≤◌, Bool, true, false, cond, ◌&&◌, eqb, ltb, leb, List, [], ◌∷◌, ◌++◌, reverse, length, get_or, drop, set, Ok, Err, Result, sym, refl, ap, ◌∙◌, subst, inl, inr, ⊎_elim, arith, length-append}
use mathlib.Core.List.{reverse-cons}
use Rattle.std.proofs.lemmas.Bool.Decides.{nat_tests}
use Rattle.std.proofs.lemmas.Bool.{leb-true, leb-false, ltb-true, ltb-false, or_cases}
use Rattle.packages.specs.declared.run.Run.{Run}
use Rattle.lines.specs.Kinds.{Kind, header, opening, closing, lot, bid, remark, ending, value}
use Rattle.lines.specs.Rows.{Row, rows_of, Tells}
use Rattle.lines.specs.Decode.{kind, legible}
use Rattle.lines.proofs.Decoding.{legible_tells, not_legible}
use Rattle.bids.specs.Limits.{is_buyer, is_price, max_bids}
use Rattle.bids.specs.Bids.{new_bid}
use Rattle.salefile.specs.Limits.{max_bytes}
use Rattle.salefile.specs.declared.draft.Opened.{Opened}
use Rattle.salefile.specs.Blocks.{NoneOpen}
use Rattle.salefile.specs.Files.{Item, over, illegible, line, Begins, FirstIs, BeginsWith, Sound, Clear, Fails, order, Rejects, InRange, Refused}
use Rattle.salefile.specs.Draft.{Kept}
use Rattle.salefile.specs.Reading.{Reading, says, refuses, State, some_is, close, offer, add, finish, ends, further, walk, begins, from_first, reading, Reads, Exact}
use Rattle.salefile.proofs.Checks.{clear_remark, clear_lot, clear_open, clear_close, clear_bid, clear_end, clear_over, reject_open, reject_close_none, reject_bid_none, reject_range, reject_bids, reject_no_lots, reject_same_lots, reject_end, reject_header, reject_illegible, reject_over, reject_after}
use Rattle.salefile.proofs.Steps.{after, after_is, kept_start, kept_remark, kept_lot, open_top, top, close_top, bid_top, nothing_open, lots_inside, again, afresh, ended_lots, ended_packaged, ended_lodged}
use Rattle.salefile.proofs.Reading.{begins_more, sound_more, reject_first, sound_first}
use Rattle.salefile.proofs.Uniqueness.{unique}
use Rattle.salefile.proofs.Runs.{same_run}

abbrev Keeps : List Kind → State → Type 0
Keeps ks s = Kept ks s.lots s.packages (reverse s.unclosed) s.bids

-- a run among others

found : (r : Run) (xs : List Run) → some_is r xs ≡ true → (m : ℕ) × (m < length xs) × ((d : Run) → get_or xs m d ≡ r)
unfolding some_is
found r [] e = cc
found r (x ∷ xs) e =
    ⊎_elim
    (λ h. (0, omega arith, λ d. same_run x r h))
    (λ h. let w = found r xs h in (suc w.0, omega (arith, w.1), w.2))
    (or_cases (eqb x.first r.first && eqb x.last r.last) (some_is r xs) e)

met : (r : Run) (xs : List Run) (m : ℕ) (d : Run) → m < length xs → get_or xs m d ≡ r → some_is r xs ≡ true
unfolding some_is
met r [] m d lt e = absurd (omega arith)
met r (x ∷ xs) zero d lt e = let first = ap (λ y. y.first) e in let last = ap (λ y. y.last) e in grind (arith, nat_tests)
met r (x ∷ xs) (suc m) d lt e = let later = met r xs m d (omega arith) e in grind (arith, nat_tests)

-- one line more

-- the line k, of the number n, after the lines ks: it is taken up, or refused
abbrev Adds : ℕ → List Kind → Kind → ℕ → Result State ℕ → Type 0
Adds space ks k n (Ok s') = Clear (Fails space ks (line k)) order × Keeps (ks ++ (k ∷ [])) s'
Adds space ks k n (Err check) = Rejects space ks (line k) check n

module _ (space : ℕ) (ks : List Kind) (n : ℕ) (at : n ≡ length ks + 1) where
  opened : (s : State) → Keeps ks s → (t : Bool) → ltb (length s.packages) space ≡ t
      → Adds space ks opening n (cond t (Ok (record {
        lots = s.lots;
        packages = s.packages ++ ((record { first = s.lots + 1; last = 0 }) ∷ []);
        unclosed = (record { «package» = length s.packages; line = n; first = s.lots + 1 }) ∷ s.unclosed;
        bids = s.bids;
      })) (Err 22))
  opened s h true e = (
    clear_open space ks h.begun h.going (omega (arith, h.packaged.many, ltb-true (length s.packages) space e)),
    open_top h _ _ _ _ refl (reverse-cons _ s.unclosed) (h.packaged.many, at, ap (λ m. m + 1) h.lot_count),
  )
  opened s h false e = reject_open space ks h.begun h.going n at (omega (arith, h.packaged.many, ltb-false (length s.packages) space e))

  module _ (s : State) (h : Keeps ks s) (o : Opened) (os : List Opened) (is : s.unclosed ≡ o ∷ os) where
    stack : reverse s.unclosed ≡ reverse os ++ (o ∷ [])
    stack = ap reverse is ∙ reverse-cons o os

    closed_new : (t : Bool) → o.first ≤ s.lots → some_is (record { first = o.first; last = s.lots }) (drop (o.«package» + 1) s.packages) ≡ t
        → Adds space ks closing n (cond t (Err 7) (Ok (record { lots = s.lots; packages = set s.packages o.«package» (record { first = o.first; last = s.lots }); unclosed = os; bids = s.bids })))
    closed_new true le e =
        let t = top h (reverse os) o stack in
        let l = lots_inside h t.0 t.1 t.2 in
        let e' = ap (some_is (record { first = o.first; last = s.lots })) (after_is s.packages o.«package») ∙ e in
        let f = found (record { first = o.first; last = s.lots }) (after s.packages o.«package») e' in
        reject_same_lots space ks h.begun h.going n t.0 t.1 at t.2 (omega (arith, t.3.2))
        (again h t.0 t.1 t.2 s.packages refl o.«package» t.3.0 (record { first = o.first; last = s.lots }) t.3.2 refl f.0 f.1 f.2)
    closed_new false le e =
        let t = top h (reverse os) o stack in
        let l = lots_inside h t.0 t.1 t.2 in
        let e' = ap (some_is (record { first = o.first; last = s.lots })) (after_is s.packages o.«package») ∙ e in (
          clear_close space ks h.begun h.going t.0 t.1 t.2 (omega (arith, t.3.2))
              (afresh h t.0 t.1 t.2 s.packages refl o.«package» t.3.0 (record { first = o.first; last = s.lots }) t.3.2 refl
              (λ m d lt g. let some = met (record { first = o.first; last = s.lots }) (after s.packages o.«package») m d lt g in cc)),
          close_top h (reverse os) o stack,
        )

    closed_some : (t : Bool) → leb o.first s.lots ≡ t
        → Adds space ks closing n (cond t
        (cond (some_is (record { first = o.first; last = s.lots }) (drop (o.«package» + 1) s.packages))
        (Err 7)
        (Ok (record { lots = s.lots; packages = set s.packages o.«package» (record { first = o.first; last = s.lots }); unclosed = os; bids = s.bids })))
        (Err 6))
    closed_some true e = closed_new (some_is (record { first = o.first; last = s.lots }) (drop (o.«package» + 1) s.packages)) (leb-true o.first s.lots e) refl
    closed_some false e =
        let t = top h (reverse os) o stack in
        let l = lots_inside h t.0 t.1 t.2 in
        reject_no_lots space ks h.begun h.going n t.0 t.1 at t.2 (omega (arith, l, t.3.2, leb-false o.first s.lots e))

    module _ (buyer price : List ℕ) where
      offered_room : (t : Bool) → InRange (value buyer) (value price) → ltb (length s.bids) max_bids ≡ t
          → Adds space ks (bid buyer price) n (cond t
          (Ok (record { lots = s.lots; packages = s.packages; unclosed = s.unclosed; bids = s.bids ++ (new_bid (value buyer) (value price) (o.«package» + 1) ∷ []) }))
          (Err 23))
      offered_room true inside e =
          let t = top h (reverse os) o stack in (
            clear_bid space ks h.begun h.going buyer price t.0 t.1 t.2 inside (omega (arith, h.lodged.many, ltb-true (length s.bids) max_bids e)),
            bid_top h (reverse os) o stack _ _ _ _ _ buyer price refl refl refl refl refl,
          )
      offered_room false inside e =
          let t = top h (reverse os) o stack in
          reject_bids space ks h.begun h.going buyer price n t.0 t.1 at t.2 inside (omega (arith, h.lodged.many, ltb-false (length s.bids) max_bids e))

      offered_range : (t : Bool) → (is_buyer (value buyer) && is_price (value price)) ≡ t
          → Adds space ks (bid buyer price) n (cond t
          (cond (ltb (length s.bids) max_bids)
          (Ok (record { lots = s.lots; packages = s.packages; unclosed = s.unclosed; bids = s.bids ++ (new_bid (value buyer) (value price) (o.«package» + 1) ∷ []) }))
          (Err 23))
          (Err 4))
      offered_range true e = offered_room (ltb (length s.bids) max_bids) (grind (arith, nat_tests)) refl
      offered_range false e =
          let t = top h (reverse os) o stack in
          reject_range space ks h.begun h.going buyer price n t.0 t.1 at t.2 (λ h. grind (arith, nat_tests))

  shut : (s : State) → Keeps ks s → s.unclosed ≡ [] → NoneOpen ks
  shut s h is = nothing_open h (ap (λ l. length (reverse l)) is)

  closed : (s : State) → Keeps ks s → (os : List Opened) → s.unclosed ≡ os → Adds space ks closing n (close s os)
  closed s h [] is = reject_close_none space ks h.begun h.going n at (shut s h is)
  closed s h (o ∷ os) is = closed_some s h o os is (leb o.first s.lots) refl

  offered : (s : State) → Keeps ks s → (buyer price : List ℕ) (os : List Opened) → s.unclosed ≡ os → Adds space ks (bid buyer price) n (offer s (value buyer) (value price) os)
  offered s h buyer price [] is = reject_bid_none space ks h.begun h.going buyer price n at (shut s h is)
  offered s h buyer price (o ∷ os) is = offered_range s h o os is buyer price (is_buyer (value buyer) && is_price (value price)) refl

  added : (s : State) → Keeps ks s → (k : Kind) → ends k ≡ false → Adds space ks k n (add space n s k)
  added s h header e = reject_header space ks h.begun h.going n at
  added s h opening e = opened s h (ltb (length s.packages) space) refl
  added s h closing e = closed s h s.unclosed refl
  added s h lot e = (clear_lot space ks h.begun h.going, kept_lot h)
  added s h (bid b p) e = offered s h b p s.unclosed refl
  added s h (remark w) e = (clear_remark space ks h.begun h.going w, kept_remark h w)
  added s h ending e = cc

-- all lines

is_ending : (k : Kind) → ends k ≡ true → k ≡ ending
is_ending ending e = refl
is_ending _ e = cc

is_header : (k : Kind) → begins k ≡ true → k ≡ header
is_header header e = refl
is_header _ e = cc

not_header : (k : Kind) → begins k ≡ false → line k ≡ line header → ⊥
not_header header e is = cc
not_header _ e is = cc

-- what stands at the first of the rows
first_sight : (row : Row) (rest : List Row) → (x : Item) × ((rows : List Row) → rows ≡ row ∷ rest → FirstIs rows x) × (x ≡ over → ⊥)
first_sight row rest = first (legible row) refl
  where
    first : (t : Bool) → legible row ≡ t → (x : Item) × ((rows : List Row) → rows ≡ row ∷ rest → FirstIs rows x) × (x ≡ over → ⊥)
    first true e = (line (kind row), (λ rows is. (row, rest, is, legible_tells row e)), λ is. cc)
    first false e = (illegible, (λ rows is. (row, rest, is, not_legible row e)), λ is. cc)

module _ (file : List ℕ) (space : ℕ) (fits : length file ≤ max_bytes) where
  refuse : (ks : List Kind) (x : Item) (n p : ℕ) → BeginsWith file ks x → Sound space ks → Rejects space ks x n p → Refused file space n p
  refuse ks x n p shows sound r = inr (fits, (ks, x, shows, sound, r))

  module _ (ks : List Kind) (s : State) (h : Keeps ks s) (sound : Sound space ks) (n : ℕ) (at : n ≡ length ks + 1) (row : Row) (rest : List Row) (here : Begins (rows_of file) ks (row ∷ rest)) where
    finished : Tells row ending → (os : List Opened) → s.unclosed ≡ os → (rows : List Row) → rest ≡ rows → Reads file space (finish n s os rows)
    finished t (o ∷ os) is rows e =
        let w = top h (reverse os) o (ap reverse is ∙ reverse-cons o os) in
        refuse ks (line ending) 8 o.line (row ∷ rest, here, (row, rest, refl, t)) sound (reject_end space ks h.begun h.going o.line w.0 w.1 w.3.1 w.2)
    finished t [] is (next ∷ rows) e =
        let shut' = shut space ks n at s h is in
        let x = first_sight next rows in
        let more = begins_more (rows_of file) ks ending row rest here t in
        refuse (ks ++ (ending ∷ [])) x.0 10 (n + 1) (rest, more, x.1 rest e)
        (sound_more space ks ending sound (clear_end space ks h.begun h.going shut'))
        (reject_after space ks x.0 (n + 1) x.2 (omega (arith, length-append ks (ending ∷ []))))
    finished t [] is [] e =
        let shut' = shut space ks n at s h is in
        let more = begins_more (rows_of file) ks ending row rest here t in (
          fits,
          (
            ks ++ (ending ∷ []),
            (rest, more, e),
            sound_more space ks ending sound (clear_end space ks h.begun h.going shut'),
            clear_over space ks,
            record {
              lot_count = ended_lots h;
              packaged = ended_packaged h;
              lodged = ended_lodged h;
            },
          ),
        )

    -- the lines after this one are read as the rules say
    abbrev Onward : Type 0
    Onward = (ks' : List Kind) (s' : State) → Keeps ks' s' → Sound space ks' → (n' : ℕ) → n' ≡ length ks' + 1 → Begins (rows_of file) ks' rest → Reads file space (walk space n' s' rest)

    gone : Onward → (k : Kind) → Tells row k → (r : Result State ℕ) → Adds space ks k n r → Reads file space (further n (λ s'. walk space (n + 1) s' rest) r)
    gone onward k t (Ok s') a =
        onward (ks ++ (k ∷ [])) s' a.1 (sound_more space ks k sound a.0) (n + 1) (omega (arith, length-append ks (k ∷ []))) (begins_more (rows_of file) ks k row rest here t)
    gone onward k t (Err check) a = refuse ks (line k) check n (row ∷ rest, here, (row, rest, refl, t)) sound a

    line_read : Onward → (k : Kind) → Tells row k → (b : Bool) → ends k ≡ b → Reads file space (cond b (finish n s s.unclosed rest) (further n (λ s'. walk space (n + 1) s' rest) (add space n s k)))
    line_read onward k t true e = finished (subst (Tells row) (is_ending k e) t) s.unclosed refl rest refl
    line_read onward k t false e = gone onward k t (add space n s k) (added space ks n at s h k e)

    row_read : Onward → (b : Bool) → legible row ≡ b
        → Reads file space (cond b (cond (ends (kind row)) (finish n s s.unclosed rest) (further n (λ s'. walk space (n + 1) s' rest) (add space n s (kind row)))) (refuses 3 n))
    row_read onward true e = line_read onward (kind row) (legible_tells row e) (ends (kind row)) refl
    row_read onward false e = refuse ks illegible 3 n (row ∷ rest, here, (row, rest, refl, not_legible row e)) sound (reject_illegible space ks h.begun h.going n at)

  walked : (rows : List Row) (ks : List Kind) (s : State) → Keeps ks s → Sound space ks → (n : ℕ) → n ≡ length ks + 1 → Begins (rows_of file) ks rows → Reads file space (walk space n s rows)
  unfolding walk
  walked [] ks s h sound n at here = refuse ks over 9 n ([], here, refl) sound (reject_over space ks h.begun h.going n at)
  walked (row ∷ rest) ks s h sound n at here = row_read ks s h sound n at row rest here (walked rest) (legible row) refl

  started : (row : Row) (rest : List Row) → rows_of file ≡ row ∷ rest → (b c : Bool) → legible row ≡ b → begins (kind row) ≡ c
      → Reads file space (cond (b && c) (walk space 2 (record { lots = 0; packages = []; unclosed = []; bids = [] }) rest) (refuses 2 1))
  started row rest is true true e f =
      let t : Tells row header = subst (Tells row) (is_header (kind row) f) (legible_tells row e) in
      walked rest (header ∷ []) (record { lots = 0; packages = []; unclosed = []; bids = [] }) (kept_start [] [] [] refl refl refl) (sound_first space) 2 refl
      (subst (λ l. Begins l (header ∷ []) rest) (sym is) (t, refl))
  started row rest is true false e f = reject_first file space (line (kind row)) fits (row ∷ rest, is, (row, rest, refl, legible_tells row e)) (not_header (kind row) f)
  started row rest is false true e f = reject_first file space illegible fits (row ∷ rest, is, (row, rest, refl, not_legible row e)) (λ is. cc)
  started row rest is false false e f = reject_first file space illegible fits (row ∷ rest, is, (row, rest, refl, not_legible row e)) (λ is. cc)

  first_read : (rows : List Row) → rows_of file ≡ rows → Reads file space (from_first space rows)
  unfolding from_first
  first_read [] is = reject_first file space over fits ([], is, refl) (λ is. cc)
  first_read (row ∷ rest) is = started row rest is (legible row) (begins (kind row)) refl refl

pub reads_right : (file : List ℕ) (space : ℕ) → Reads file space (reading space file)
unfolding reading
reads_right file space = sized (leb (length file) max_bytes) refl
  where
    sized : (t : Bool) → leb (length file) max_bytes ≡ t → Reads file space (cond t (from_first space (rows_of file)) (refuses 1 0))
    sized true e = first_read file space (leb-true (length file) max_bytes e) (rows_of file) refl
    sized false e = inl (leb-false (length file) max_bytes e, refl, refl)

reads_one : (file : List ℕ) (space : ℕ) (r r' : Reading) → Reads file space r → Reads file space r' → r ≡ r'
reads_one file space (says c) (says c') h h' = ap says ((unique file space).0 c c' h h')
reads_one file space (says c) (refuses n p) h h' = absurd ((unique file space).1 c n p h h')
reads_one file space (refuses n p) (says c) h h' = absurd ((unique file space).1 c n p h' h)
reads_one file space (refuses n p) (refuses n' p') h h' = let e = (unique file space).2 n p n' p' h h' in λ i. refuses (e.0 i) (e.1 i)

pub exact : Exact
exact = record { right = reads_right; only = λ file space r h. reads_one file space r (reading space file) h (reads_right file space) }
