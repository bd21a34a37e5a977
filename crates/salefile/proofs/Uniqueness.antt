-- The rules fix one outcome for each file.
use Rattle.std.proofs.Common.{◌≡◌, ℕ, ◌+◌, ◌-◌, ◌<◌, ◌⊎◌, List, [], ◌∷◌, ◌++◌, length, get_or, sym, refl, ap, ◌∙◌, subst, inl, inr, ⊎_elim, append_assoc, append-nil, arith}
use mathlib.Core.List.{head-eq_of_cons-eq}
use Rattle.std.proofs.lemmas.Bool.{cases_lt}
use Rattle.std.proofs.lemmas.List.{same_lists}
use Rattle.packages.specs.declared.run.Run.{Run}
use Rattle.bids.specs.declared.bid.Bid.{Bid}
use Rattle.salefile.specs.FileContents.{FileContents}
use Rattle.lines.specs.Kinds.{Kind, opening, closing, bid, ending}
use Rattle.lines.specs.Rows.{Row, rows_of, Tells}
use Rattle.salefile.specs.Blocks.{is_bid, bids, Balanced, none, plain, block, Innermost}
use Rattle.salefile.specs.Files.{Item, over, illegible, line, Begins, FirstIs, BeginsWith, Check, after_end, no_header, bad_line, none_open, out_of_range, no_space, too_many_bids, no_lots, same_lots, unclosed, no_end, number, order, Ended, Fails, First, Clear, Sound, Rejects, Packaged, Lodged, Describes, Accepted, Refused}
use Rattle.salefile.specs.Unique.{Unique}
use Rattle.lines.proofs.Decoding.{tells_one}
use Rattle.salefile.proofs.Nesting.{no_cons, split_last, balanced_append, balanced_none_open, innermost_one, nth_block}

-- one sight at some rows

no_row : (row : Row) (rows : List Row) → [] ≡ row ∷ rows → ⊥
no_row row rows e = omega (arith, ap length e)

sees_one : (rows : List Row) (x x' : Item) → FirstIs rows x → FirstIs rows x' → x ≡ x'
sees_one rows over over h h' = refl
sees_one rows over illegible h h' = absurd (no_row _ _ (sym h ∙ h'.2))
sees_one rows over (line k) h h' = absurd (no_row _ _ (sym h ∙ h'.2))
sees_one rows illegible over h h' = absurd (no_row _ _ (sym h' ∙ h.2))
sees_one rows illegible illegible h h' = refl
sees_one rows illegible (line k) h h' = absurd (h.3 k (subst (λ r. Tells r k) (head-eq_of_cons-eq (sym h'.2 ∙ h.2)) h'.3))
sees_one rows (line k) over h h' = absurd (no_row _ _ (sym h' ∙ h.2))
sees_one rows (line k) illegible h h' = absurd (h'.3 k (subst (λ r. Tells r k) (head-eq_of_cons-eq (sym h.2 ∙ h'.2)) h.3))
sees_one rows (line k) (line k') h h' = ap line (tells_one h'.0 k k' (subst (λ r. Tells r k) (head-eq_of_cons-eq (sym h.2 ∙ h'.2)) h.3) h'.3)

-- two readings of a file: the same, or one goes on where the other stops

begins_compare : (rows : List Row) (ks ks' : List Kind) (rest rest' : List Row) → Begins rows ks rest → Begins rows ks' rest' → ((m : List Kind) × (ks' ≡ ks ++ m) × Begins rest m rest') ⊎ ((m : List Kind) × (ks ≡ ks' ++ m) × Begins rest' m rest)
begins_compare rows [] ks' rest rest' h h' = inl (ks', refl, subst (λ r. Begins r ks' rest') h h')
begins_compare rows (k ∷ ks) [] rest rest' h h' = inr (k ∷ ks, refl, subst (λ r. Begins r (k ∷ ks) rest) h' h)
begins_compare [] (k ∷ ks) (k' ∷ ks') rest rest' h h' = absurd h
begins_compare (row ∷ rows) (k ∷ ks) (k' ∷ ks') rest rest' h h' =
    let same = tells_one row k k' h.0 h'.0 in
    ⊎_elim
    (λ r. inl (r.0, (λ i. sym same i ∷ r.1 i), r.2))
    (λ r. inr (r.0, (λ i. same i ∷ r.1 i), r.2))
    (begins_compare rows ks ks' rest rest' h.1 h'.1)

goes_on : (rows : List Row) (k : Kind) (m : List Kind) (rest : List Row) (x : Item) → Begins rows (k ∷ m) rest → FirstIs rows x → x ≡ line k
goes_on [] k m rest x h s = absurd h
goes_on (row ∷ rows) k m rest x h s = sees_one (row ∷ rows) x (line k) s (row, rows, refl, h.0)

-- the second reading goes on with a line where the first sees x
abbrev Longer : List Kind → Item → List Kind → Type 0
Longer ks x ks' = (k : Kind) × (m : List Kind) × (ks' ≡ ks ++ (k ∷ m)) × (x ≡ line k)

one_way : (ks ks' : List Kind) (x x' : Item) (rest rest' : List Row) (m : List Kind) → ks' ≡ ks ++ m → Begins rest m rest' → FirstIs rest x → FirstIs rest' x' → ((ks ≡ ks') × (x ≡ x')) ⊎ Longer ks x ks'
one_way ks ks' x x' rest rest' [] e h s s' = inl (sym (e ∙ append-nil ks), sees_one rest x x' s (subst (λ r. FirstIs r x') (sym h) s'))
one_way ks ks' x x' rest rest' (k ∷ m) e h s s' = inr (k, m, e, goes_on rest k m rest' x h s)

shows_compare : (file : List ℕ) (ks ks' : List Kind) (x x' : Item) → BeginsWith file ks x → BeginsWith file ks' x' → ((ks ≡ ks') × (x ≡ x')) ⊎ (Longer ks x ks' ⊎ Longer ks' x' ks)
shows_compare file ks ks' x x' h h' =
    ⊎_elim
    (λ r. ⊎_elim inl (λ l. inr (inl l)) (one_way ks ks' x x' h.0 h'.0 r.0 r.1 r.2 h.2 h'.2))
    (λ r. ⊎_elim (λ e. inl (sym e.0, sym e.1)) (λ l. inr (inr l)) (one_way ks' ks x' x h'.0 h.0 r.0 r.1 r.2 h'.2 h.2))
    (begins_compare (rows_of file) ks ks' h.0 h'.0 h.1 h'.1)

-- the lines of a whole file
pub shows_whole : (file : List ℕ) (ks ks' : List Kind) → BeginsWith file ks over → BeginsWith file ks' over → ks ≡ ks'
shows_whole file ks ks' h h' =
    ⊎_elim
    (λ e. e.0)
    (⊎_elim (λ l. cc) (λ l. cc))
    (shows_compare file ks ks' over over h h')

-- one check and one place

first_not_clear : (F : Check → ℕ → Type 0) (cs : List Check) (c : Check) (p : ℕ) → First F cs c p → Clear F cs → ⊥
first_not_clear F [] c p f g = f
first_not_clear F (d ∷ ds) c p f g = ⊎_elim (λ h. g.0 p h.1) (λ h. first_not_clear F ds c p h.1 g.1) f

first_one : (F : Check → ℕ → Type 0) (cs : List Check) (c c' : Check) (p p' : ℕ) → First F cs c p → First F cs c' p' → (c ≡ c') × F c p × F c p'
first_one F [] c c' p p' f f' = absurd f
first_one F (d ∷ ds) c c' p p' f f' =
    ⊎_elim
    (λ h.
    ⊎_elim
    (λ h'. (h.0 ∙ sym h'.0, subst (λ e. F e p) (sym h.0) h.1, subst (λ e. F e p') (sym h.0) h'.1))
    (λ h'. absurd (h'.0 p h.1))
    f')
    (λ h.
    ⊎_elim
    (λ h'. absurd (h.0 p' h'.1))
    (λ h'. first_one F ds c c' p p' h.1 h'.1)
    f')
    f

place_one : (space : ℕ) (ks : List Kind) (x : Item) (c : Check) (p p' : ℕ) → Fails space ks x c p → Fails space ks x c p' → p ≡ p'
place_one space ks x after_end p p' h h' = h.2 ∙ sym h'.2
place_one space ks x no_header p p' h h' = h.2 ∙ sym h'.2
place_one space ks x bad_line p p' h h' = h.1 ∙ sym h'.1
place_one space ks x none_open p p' h h' = h.2 ∙ sym h'.2
place_one space ks x out_of_range p p' h h' = h.4 ∙ sym h'.4
place_one space ks x no_space p p' h h' = h.2 ∙ sym h'.2
place_one space ks x too_many_bids p p' h h' = h.2 ∙ sym h'.2
place_one space ks x no_lots p p' h h' = h.2 ∙ sym h'.2
place_one space ks x same_lots p p' h h' = h.2 ∙ sym h'.2
place_one space ks x unclosed p p' h h' =
    let same = innermost_one h.1.0 h.1.1 h'.1.0 h'.1.1 (sym h.1.2.0 ∙ h'.1.2.0) h.1.2.1 h'.1.2.1 in
    h.1.3 ∙ ap (λ l. length l + 1) same.0 ∙ sym h'.1.3
place_one space ks x no_end p p' h h' = h.2 ∙ sym h'.2

rejects_one : (space : ℕ) (ks : List Kind) (x : Item) (n p n' p' : ℕ) → Rejects space ks x n p → Rejects space ks x n' p' → (n ≡ n') × (p ≡ p')
rejects_one space ks x n p n' p' h h' =
    let r = first_one (Fails space ks x) order h.0 h'.0 p p' h.1 h'.1 in
    (h.2 ∙ ap number r.0 ∙ sym h'.2, place_one space ks x h.0 p p' r.1 r.2)

-- what is read further is not refused
not_refused : (space : ℕ) (ks ks' : List Kind) (x : Item) (n p : ℕ) → Longer ks x ks' → Sound space ks' → Rejects space ks x n p → ⊥
not_refused space ks ks' x n p l sound r =
    first_not_clear (Fails space ks (line l.0)) order r.0 p (subst (λ y. First (Fails space ks y) order r.0 p) l.3 r.1) (sound ks l.0 l.1 l.2)

-- an accepted file is balanced

pub data Chain : List Kind → Type 0 where
  ground : {ks : List Kind} → Balanced ks → Chain ks
  above : {ks : List Kind} (b i : List Kind) → Innermost ks b i → Chain b → Chain ks

chain_append : (ks m : List Kind) → Chain ks → Balanced m → Chain (ks ++ m)
chain_append ks m (ground h) g = ground (balanced_append h g)
chain_append ks m (above b i inn c) g = above b (i ++ m) (ap (λ l. l ++ m) inn.0 ∙ append_assoc b (opening ∷ i) m, balanced_append inn.1 g) c

chain_close : (space : ℕ) (ks : List Kind) → Chain ks → Clear (Fails space ks (line closing)) order → Chain (ks ++ (closing ∷ []))
chain_close space ks (ground h) g = absurd (g.1.1.1.0 (length ks + 1) (inl refl, balanced_none_open ks h, refl))
chain_close space ks (above b i inn c) g =
    subst Chain (sym (append_assoc b (opening ∷ i) (closing ∷ [])) ∙ ap (λ l. l ++ (closing ∷ [])) (sym inn.0)) (chain_append b _ c (block inn.1 none))

chain_more : (space : ℕ) (ks : List Kind) (k : Kind) → Chain ks → Clear (Fails space ks (line k)) order → Chain (ks ++ (k ∷ []))
chain_more space ks opening c g = above ks [] (refl, none) c
chain_more space ks closing c g = chain_close space ks c g
chain_more space ks _ c g = chain_append ks _ c (plain (refl, refl) none)

chain_along : (space : ℕ) (b a : List Kind) → Chain b → Sound space (b ++ a) → Chain (b ++ a)
chain_along space b [] c h = subst Chain (sym (append-nil b)) c
chain_along space b (k ∷ a) c h =
    let join : (b ++ (k ∷ [])) ++ a ≡ b ++ (k ∷ a) = append_assoc b (k ∷ []) a in
    subst Chain join (chain_along space (b ++ (k ∷ [])) a (chain_more space b k c (h b k a refl)) (subst (Sound space) (sym join) h))

pub chained : (space : ℕ) (ks : List Kind) → Sound space ks → Chain ks
chained space ks h = chain_along space [] ks (ground none) h

pub sound_front : (space : ℕ) (b a : List Kind) → Sound space (b ++ a) → Sound space b
sound_front space b a h s k t e = h s k (t ++ a) (ap (λ l. l ++ a) e ∙ append_assoc s (k ∷ t) a)

last_of : (ks : List Kind) → (ks ≡ []) ⊎ ((b : List Kind) × (k : Kind) × (ks ≡ b ++ (k ∷ [])))
last_of [] = inl refl
last_of (j ∷ ks) =
    ⊎_elim
    (λ e. inr ([], j, ap (λ l. j ∷ l) e))
    (λ r. inr (j ∷ r.0, r.1, ap (λ l. j ∷ l) r.2))
    (last_of ks)

is_ending : (k : Kind) → (k ≡ ending) ⊎ (k ≡ ending → ⊥)
is_ending ending = inl refl
is_ending _ = inr (λ e. cc)

same_last : (b : List Kind) (k : Kind) (b' : List Kind) → b ++ (k ∷ []) ≡ b' ++ (ending ∷ []) → k ≡ ending
same_last b k b' e = ⊎_elim (λ r. r.1) (λ r. absurd (no_cons r.0 k [] r.2)) (split_last b k b' ending [] e)

is_ended : (ks : List Kind) → Ended ks ⊎ (Ended ks → ⊥)
is_ended ks =
    ⊎_elim
    (λ e. inr (λ w. no_cons w.0 ending [] (sym e ∙ w.1)))
    (λ r.
    ⊎_elim
    (λ e. inl (r.0, r.2 ∙ ap (λ k. r.0 ++ (k ∷ [])) e))
    (λ no_end_here. inr (λ w. no_end_here (same_last r.0 r.1 w.0 (sym r.2 ∙ w.1))))
    (is_ending r.1))
    (last_of ks)

shut : (ks : List Kind) → Chain ks → ((b i : List Kind) → Innermost ks b i → ⊥) → Balanced ks
shut ks (ground h) g = h
shut ks (above b i inn c) g = absurd (g b i inn)

balanced_end : (space : ℕ) (ks : List Kind) → Sound space ks → Ended ks → Balanced ks
balanced_end space ks h w =
    let all : Sound space (w.0 ++ (ending ∷ [])) = subst (Sound space) w.1 h in
    let g = all w.0 ending [] refl in
    let front = shut w.0 (chained space w.0 (sound_front space w.0 (ending ∷ []) all)) (λ b i inn. g.1.1.1.1.1.1.1.1.1.0 (length b + 1) (refl, (b, i, inn, refl))) in
    subst Balanced (sym w.1) (balanced_append front (plain (refl, refl) none))

pub accepted_balanced : (space : ℕ) (ks : List Kind) → Sound space ks → Clear (Fails space ks over) order → Balanced ks
accepted_balanced space ks h g =
    ⊎_elim
    (balanced_end space ks h)
    (λ open_end. absurd (g.1.1.1.1.1.1.1.1.1.1.0 (length ks + 1) (refl, open_end, refl)))
    (is_ended ks)

-- one list of packages and one of bids

packages_one : (ks : List Kind) (rs rs' : List Run) → Balanced ks → Packaged ks rs → Packaged ks rs' → rs ≡ rs'
packages_one ks rs rs' bal h h' =
    same_lists rs rs' (h.many ∙ sym h'.many)
    (λ k d lt.
    let t = nth_block bal k (omega (arith, h.many)) in
    ap (λ j. get_or rs j d) (sym t.4) ∙ h.each t.0 t.1 t.2 t.3 d ∙ sym (h'.each t.0 t.1 t.2 t.3 d) ∙ ap (λ j. get_or rs' j d) t.4)

-- the bid of the number j
abbrev pub NthBid : List Kind → ℕ → Type 0
NthBid ks j = (s : List Kind) × (n : List ℕ) × (q : List ℕ) × (a : List Kind) × (ks ≡ s ++ (bid n q ∷ a)) × (bids s ≡ j)

nth_after : (k : Kind) (ks : List Kind) (j : ℕ) → is_bid k ≡ 0 → NthBid ks j → NthBid (k ∷ ks) j
nth_after k ks j z t = (k ∷ t.0, t.1, t.2, t.3, ap (λ l. k ∷ l) t.4, omega (arith, z, t.5))

pub nth_bid : (ks : List Kind) (j : ℕ) → j < bids ks → NthBid ks j
nth_bid [] j lt = absurd (omega arith)
nth_bid (bid n q ∷ ks) j lt =
    ⊎_elim
    (λ first. ([], n, q, ks, refl, omega arith))
    (λ later.
    let t = nth_bid ks (j - 1) (omega arith) in
    (bid n q ∷ t.0, t.1, t.2, t.3, ap (λ l. bid n q ∷ l) t.4, omega (arith, t.5)))
    (cases_lt j 1)
nth_bid (k ∷ ks) j lt = nth_after k ks j refl (nth_bid ks j (omega arith))

pub open_at : (space : ℕ) (s : List Kind) (n q : List ℕ) → Chain s → Clear (Fails space s (line (bid n q))) order → (b : List Kind) × (i : List Kind) × Innermost s b i
open_at space s n q (ground h) g = absurd (g.1.1.1.0 (length s + 1) (inr (n, q, refl), balanced_none_open s h, refl))
open_at space s n q (above b i inn c) g = (b, i, inn)

bids_one : (space : ℕ) (ks : List Kind) (bs bs' : List Bid) → Sound space ks → Lodged ks bs → Lodged ks bs' → bs ≡ bs'
bids_one space ks bs bs' sound h h' =
    same_lists bs bs' (h.many ∙ sym h'.many)
    (λ k d lt.
    let t = nth_bid ks k (omega (arith, h.many)) in
    let all : Sound space (t.0 ++ (bid t.1 t.2 ∷ t.3)) = subst (Sound space) t.4 sound in
    let o = open_at space t.0 t.1 t.2 (chained space t.0 (sound_front space t.0 _ all)) (all t.0 (bid t.1 t.2) t.3 refl) in
    ap (λ j. get_or bs j d) (sym t.5) ∙ h.each t.0 t.1 t.2 t.3 t.4 o.0 o.1 o.2 d ∙ sym (h'.each t.0 t.1 t.2 t.3 t.4 o.0 o.1 o.2 d) ∙ ap (λ j. get_or bs' j d) t.5)

describes_one : (space : ℕ) (ks : List Kind) (c c' : FileContents) → Sound space ks → Clear (Fails space ks over) order → Describes ks c → Describes ks c' → c ≡ c'
describes_one space ks c c' sound clear h h' =
    let number : c.lots ≡ c'.lots = h.lot_count ∙ sym h'.lot_count in
    let runs : c.packages ≡ c'.packages = packages_one ks _ _ (accepted_balanced space ks sound clear) h.packaged h'.packaged in
    let offers : c.bids ≡ c'.bids = bids_one space ks _ _ sound h.lodged h'.lodged in
    λ i. record { lots = number i; packages = runs i; bids = offers i }

-- the theorem

module _ (file : List ℕ) (space : ℕ) where
  accepted_one : (c c' : FileContents) → Accepted file space c → Accepted file space c' → c ≡ c'
  accepted_one c c' h h' =
      ⊎_elim
      (λ e. describes_one space h.1.0 c c' h.1.2 h.1.3 h.1.4 (subst (λ l. Describes l c') (sym e.0) h'.1.4))
      (⊎_elim (λ l. cc) (λ l. cc))
      (shows_compare file h.1.0 h'.1.0 over over h.1.1 h'.1.1)

  not_both : (c : FileContents) (n p : ℕ) → Accepted file space c → Refused file space n p → ⊥
  not_both c n p h r =
      ⊎_elim
      (λ long. omega (arith, h.0, long.0))
      (λ q.
      let ks : List Kind = h.1.0 in
      let ks' : List Kind = q.1.0 in
      ⊎_elim
      (λ e.
      let there = subst (λ y. First (Fails space ks' y) order q.1.4.0 p) (sym e.1) q.1.4.1 in
      first_not_clear (Fails space ks over) order q.1.4.0 p (subst (λ l. First (Fails space l over) order q.1.4.0 p) (sym e.0) there) h.1.3)
      (⊎_elim (λ l. cc) (λ l. not_refused space ks' ks q.1.1 n p l h.1.2 q.1.4))
      (shows_compare file ks ks' over q.1.1 h.1.1 q.1.2))
      r

  refused_one : (n p n' p' : ℕ) → Refused file space n p → Refused file space n' p' → (n ≡ n') × (p ≡ p')
  refused_one n p n' p' r r' =
      ⊎_elim
      (λ long. ⊎_elim (λ long'. (long.1 ∙ sym long'.1, long.2 ∙ sym long'.2)) (λ q. absurd (omega (arith, long.0, q.0))) r')
      (λ q.
      ⊎_elim
      (λ long. absurd (omega (arith, long.0, q.0)))
      (λ q'.
      let ks : List Kind = q.1.0 in
      let ks' : List Kind = q'.1.0 in
      let x : Item = q.1.1 in
      let x' : Item = q'.1.1 in
      ⊎_elim
      (λ e. rejects_one space ks x n p n' p' q.1.4 (subst (λ l. Rejects space l x n' p') (sym e.0) (subst (λ y. Rejects space ks' y n' p') (sym e.1) q'.1.4)))
      (⊎_elim (λ l. absurd (not_refused space ks ks' x n p l q'.1.3 q.1.4)) (λ l. absurd (not_refused space ks' ks x' n' p' l q.1.3 q'.1.4)))
      (shows_compare file ks ks' x x' q.1.2 q'.1.2))
      r')
      r

pub unique : Unique
unique file space = (accepted_one file space, not_both file space, refused_one file space)
