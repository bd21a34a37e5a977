-- What is kept of the lines, with one line more.
use Rattle.std.proofs.Common.{◌≡◌, ℕ, ◌+◌, ◌-◌, ◌<◌, ◌≤◌, ◌⊎◌, List, [], ◌∷◌, ◌++◌, reverse, length, get_or, take, drop, set, sym, refl, ap, ◌∙◌, subst, inl, inr, ⊎_elim, append_assoc, arith, length-append, length-drop, length-set}
use Rattle.std.proofs.lemmas.List.{get_or_append_left, get_or_at, get_or-set_same, get_or-set_other, reverse-append, take_all, take_more, get_or-drop}
use Rattle.packages.specs.declared.run.Run.{Run}
use Rattle.bids.specs.declared.bid.Bid.{Bid}
use Rattle.bids.specs.Bids.{new_bid}
use Rattle.salefile.specs.declared.draft.Opened.{Opened}
use Rattle.lines.specs.Kinds.{Kind, header, opening, closing, lot, bid, remark, ending, value}
use Rattle.salefile.specs.Blocks.{is_opening, is_closing, is_bid, lots, opens, bids, Plain, Balanced, none, plain, block, Block, Innermost, NoneOpen}
use Rattle.salefile.specs.Files.{Ended, Packaged, Lodged, Repeated}
use Rattle.salefile.specs.Draft.{Opens, Nest, Kept}
use Rattle.salefile.proofs.Nesting.{lots_append, opens_append, bids_append, split_last, balanced_append, innermost_one, opening_one, no_close_inside, nth_block, no_cons, balanced_none_open}

begun_more : (ks : List Kind) (k : Kind) → ks ++ (k ∷ []) ≡ [] → ⊥
begun_more ks k e = omega (arith, ap length e, length-append ks (k ∷ []))

going_more : (ks : List Kind) (k : Kind) → (k ≡ ending → ⊥) → Ended (ks ++ (k ∷ [])) → ⊥
going_more ks k h w =
    ⊎_elim (λ r. h r.1) (λ r. begun_more r.0 k (sym r.2)) (split_last ks k w.0 ending [] w.1)

-- the opening of a block is counted
opens_within : (ks b x : List Kind) → ks ≡ b ++ (opening ∷ x) → opens b < opens ks
opens_within ks b x e = omega (arith, ap opens e, opens_append b (opening ∷ x))

-- the blocks of one line more: one that the line closes, or one that was closed before
block_more : (ks : List Kind) (k : Kind) (b i a : List Kind) → Block (ks ++ (k ∷ [])) b i a → (Innermost ks b i × (k ≡ closing)) ⊎ ((a' : List Kind) × Block ks b i a')
block_more ks k b i a w =
    ⊎_elim
    (λ r. inl ((r.0, w.1), r.1))
    (λ r. inr (r.0, (r.1 ∙ append_assoc b (opening ∷ i) (closing ∷ r.0), w.1)))
    (split_last ks k (b ++ (opening ∷ i)) closing a (w.0 ∙ sym (append_assoc b (opening ∷ i) (closing ∷ a))))

packaged_plain : (ks : List Kind) (k : Kind) (runs : List Run) → Plain k → Packaged ks runs → Packaged (ks ++ (k ∷ [])) runs
packaged_plain ks k runs p h =
    let none : is_opening k ≡ 0 = p.0 in
    record {
      many = omega (arith, h.many, opens_append ks (k ∷ []), none);
      each = λ b i a w d. ⊎_elim (λ r. absurd (omega (arith, p.1, ap is_closing r.1))) (λ r. h.each b i r.0 r.1 d) (block_more ks k b i a w);
    }

pub packaged_open : (ks : List Kind) (runs : List Run) (x : Run) → Packaged ks runs → Packaged (ks ++ (opening ∷ [])) (runs ++ (x ∷ []))
packaged_open ks runs x h =
    record {
      many = omega (arith, h.many, opens_append ks (opening ∷ []), length-append runs (x ∷ []));
      each = λ b i a w d.
          ⊎_elim
          (λ r. let z = ap is_closing r.1 in absurd (omega arith))
          (λ r. get_or_append_left runs (x ∷ []) d (opens b) (omega (arith, h.many, opens_within ks b _ r.1.0)) ∙ h.each b i r.0 r.1 d)
          (block_more ks opening b i a w);
    }

pub packaged_close : (ks : List Kind) (runs : List Run) (b i : List Kind) → Innermost ks b i → Packaged ks runs → Packaged (ks ++ (closing ∷ [])) (set runs (opens b) (record { first = lots b + 1; last = lots b + lots i }))
packaged_close ks runs b i inn h =
    let x : Run = record { first = lots b + 1; last = lots b + lots i } in
    record {
      many = omega (arith, h.many, opens_append ks (closing ∷ []), length-set runs (opens b) x);
      each = λ b' i' a w d.
          ⊎_elim
          (λ r.
          let same = innermost_one b i b' i' (sym inn.0 ∙ r.0.0) inn.1 r.0.1 in
          ap (λ n. get_or (set runs (opens b) x) n d) (ap opens (sym same.0))
          ∙ get_or-set_same runs (opens b) x d (omega (arith, h.many, opens_within ks b i inn.0))
          ∙ (λ j. record { first = lots (same.0 j) + 1; last = lots (same.0 j) + lots (same.1 j) }))
          (λ r.
          get_or-set_other runs (opens b) (opens b') x d
          (λ e.
          let same = opening_one b i b' (i' ++ (closing ∷ r.0)) (sym inn.0 ∙ r.1.0) (sym e) in
          no_close_inside i i' r.0 inn.1 same.1 r.1.1)
          ∙ h.each b' i' r.0 r.1 d)
          (block_more ks closing b' i' a w);
    }

lodged_other : (ks : List Kind) (k : Kind) (all : List Bid) → is_bid k ≡ 0 → Lodged ks all → Lodged (ks ++ (k ∷ [])) all
lodged_other ks k all z h =
    record {
      many = omega (arith, h.many, bids_append ks (k ∷ []), z);
      each = λ s n q a e b i inn d.
          ⊎_elim (λ r. absurd (omega (arith, z, ap is_bid r.1))) (λ r. h.each s n q r.0 r.1 b i inn d) (split_last ks k s (bid n q) a e);
    }

lodged_bid : (ks : List Kind) (all : List Bid) (n q : List ℕ) (b i : List Kind) → Innermost ks b i → Lodged ks all → Lodged (ks ++ (bid n q ∷ [])) (all ++ (new_bid (value n) (value q) (opens b + 1) ∷ []))
lodged_bid ks all n q b i inn h =
    let x : Bid = new_bid (value n) (value q) (opens b + 1) in
    record {
      many = omega (arith, h.many, bids_append ks (bid n q ∷ []), length-append all (x ∷ []));
      each = λ s n' q' a e b' i' inn' d.
          ⊎_elim
          (λ r.
          let same = innermost_one b i b' i' (sym inn.0 ∙ r.0 ∙ inn'.0) inn.1 inn'.1 in
          let buyers : n ≡ n' = cc r.1 in
          let prices : q ≡ q' = cc r.1 in
          get_or_at all x [] d (bids s) (h.many ∙ ap bids r.0)
          ∙ (λ j. new_bid (value (buyers j)) (value (prices j)) (opens (same.0 j) + 1)))
          (λ r.
          let before : bids s < bids ks = omega (arith, ap bids r.1, bids_append s (bid n' q' ∷ r.0)) in
          get_or_append_left all (x ∷ []) d (bids s) (omega (arith, h.many)) ∙ h.each s n' q' r.0 r.1 b' i' inn' d)
          (split_last ks (bid n q) s (bid n' q') a e);
    }

-- what is open

same_run : (a b c d : ℕ) → a ≡ c → b ≡ d → ◌≡◌ {A = Run} (record { first = a; last = b }) (record { first = c; last = d })
same_run a b c d p q = λ i. record { first = p i; last = q i }

pub nest_append : (os : List Opened) (ks m : List Kind) → Nest os ks → Balanced m → Nest os (ks ++ m)
nest_append [] ks m h g = balanced_append h g
nest_append (o ∷ os) ks m h g =
    (h.0, h.1 ++ m, (ap (λ l. l ++ m) h.2.0 ∙ append_assoc h.0 (opening ∷ h.1) m, balanced_append h.2.1 g), h.3, h.4)

pub nest_close : (os : List Opened) (ks b i : List Kind) → Innermost ks b i → Nest os b → Nest os (ks ++ (closing ∷ []))
nest_close os ks b i inn h =
    subst (Nest os) (sym (append_assoc b (opening ∷ i) (closing ∷ [])) ∙ ap (λ l. l ++ (closing ∷ [])) (sym inn.0)) (nest_append os b _ h (block inn.1 none))

-- one line more

-- the packages after the index p, as a slice has them
abbrev pub after : List Run → ℕ → List Run
after R p = take (length R - (p + 1)) (drop (p + 1) R)

pub after_is : (R : List Run) (p : ℕ) → after R p ≡ drop (p + 1) R
after_is R p = take_all _ _ (omega (arith, length-drop (p + 1) R))

length_after : (R : List Run) (p : ℕ) → length (after R p) ≡ length R - (p + 1)
length_after R p = ap length (after_is R p) ∙ length-drop (p + 1) R

get_d_after : (R : List Run) (p m : ℕ) (d : Run) → get_or (after R p) m d ≡ get_or R (p + 1 + m) d
get_d_after R p m d = ap (λ l. get_or l m d) (after_is R p) ∙ get_or-drop (p + 1) R m d

empty : {A : Type 0} (l : List A) → length l ≡ 0 → l ≡ []
empty [] e = refl
empty (x ∷ l) e = absurd (omega arith)

-- the last of a list
pub last_split : {A : Type 0} (l : List A) (x : A) → 0 < length l → x ≡ get_or l (length l - 1) x → l ≡ take (length l - 1) l ++ (x ∷ [])
last_split l x h e =
    let back : length l ≤ length l - 1 + 1 = omega arith in
    sym (take_all (length l - 1 + 1) l back) ∙ take_more l (length l - 1) x (omega arith) ∙ ap (λ y. take (length l - 1) l ++ (y ∷ [])) (sym e)

-- the lines of a file that is just begun
pub kept_start : (runs : List Run) (st : List Opened) (all : List Bid) → runs ≡ [] → st ≡ [] → all ≡ [] → Kept (header ∷ []) 0 runs st all
kept_start runs st all e f g =
    record {
      begun = begun_more [] header;
      going = going_more [] header (λ e. cc);
      lot_count = refl;
      packaged = packaged_plain [] header runs (refl, refl) (record { many = ap length e; each = λ b i a w d. absurd (no_cons b opening _ w.0) });
      nest = subst (λ l. Nest (reverse l) (header ∷ [])) (sym f) (plain (refl, refl) none);
      lodged = lodged_other [] header all refl (record { many = ap length g; each = λ s n q a w b i inn d. absurd (no_cons s (bid n q) a w) });
    }

module _ {ks : List Kind} {n : ℕ} {runs : List Run} {st : List Opened} {all : List Bid} (h : Kept ks n runs st all) where
  pub kept_remark : (w : List ℕ) → Kept (ks ++ (remark w ∷ [])) n runs st all
  kept_remark w =
      record {
        begun = begun_more ks (remark w);
        going = going_more ks (remark w) (λ e. cc);
        lot_count = omega (arith, h.lot_count, lots_append ks (remark w ∷ []));
        packaged = packaged_plain ks (remark w) runs (refl, refl) h.packaged;
        nest = nest_append (reverse st) ks _ h.nest (plain (refl, refl) none);
        lodged = lodged_other ks (remark w) all refl h.lodged;
      }

  pub kept_lot : Kept (ks ++ (lot ∷ [])) (n + 1) runs st all
  kept_lot =
      record {
        begun = begun_more ks lot;
        going = going_more ks lot (λ e. cc);
        lot_count = omega (arith, h.lot_count, lots_append ks (lot ∷ []));
        packaged = packaged_plain ks lot runs (refl, refl) h.packaged;
        nest = nest_append (reverse st) ks _ h.nest (plain (refl, refl) none);
        lodged = lodged_other ks lot all refl h.lodged;
      }

  pub kept_open : (x : Run) (o : Opened) → Opens o ks → Kept (ks ++ (opening ∷ [])) n (runs ++ (x ∷ [])) (st ++ (o ∷ [])) all
  kept_open x o op =
      record {
        begun = begun_more ks opening;
        going = going_more ks opening (λ e. cc);
        lot_count = omega (arith, h.lot_count, lots_append ks (opening ∷ []));
        packaged = packaged_open ks runs x h.packaged;
        nest = subst (λ l. Nest l (ks ++ (opening ∷ []))) (sym (reverse-append st (o ∷ []))) (ks, [], (refl, none), op, h.nest);
        lodged = lodged_other ks opening all refl h.lodged;
      }

  pub kept_bid : (k m : List ℕ) (b i : List Kind) → Innermost ks b i → Kept (ks ++ (bid k m ∷ [])) n runs st (all ++ (new_bid (value k) (value m) (opens b + 1) ∷ []))
  kept_bid k m b i inn =
      record {
        begun = begun_more ks (bid k m);
        going = going_more ks (bid k m) (λ e. cc);
        lot_count = omega (arith, h.lot_count, lots_append ks (bid k m ∷ []));
        packaged = packaged_plain ks (bid k m) runs (refl, refl) h.packaged;
        nest = nest_append (reverse st) ks _ h.nest (plain (refl, refl) none);
        lodged = lodged_bid ks all k m b i inn h.lodged;
      }

  -- the package that is open innermost, where the stack is st' and then o
  pub top : (st' : List Opened) (o : Opened) → st ≡ st' ++ (o ∷ []) → Nest (o ∷ reverse st') ks
  top st' o e = subst (λ l. Nest l ks) (ap reverse e ∙ reverse-append st' (o ∷ [])) h.nest

  pub kept_close : (st' : List Opened) (b i : List Kind) → Innermost ks b i → Nest (reverse st') b → Kept (ks ++ (closing ∷ [])) n (set runs (opens b) (record { first = lots b + 1; last = lots b + lots i })) st' all
  kept_close st' b i inn under =
      record {
        begun = begun_more ks closing;
        going = going_more ks closing (λ e. cc);
        lot_count = omega (arith, h.lot_count, lots_append ks (closing ∷ []));
        packaged = packaged_close ks runs b i inn h.packaged;
        nest = nest_close (reverse st') ks b i inn under;
        lodged = lodged_other ks closing all refl h.lodged;
      }

  -- a package inside the innermost open one with its run has all its lots
  pub repeated : (b i : List Kind) (m : ℕ) (d : Run) → Innermost ks b i → opens b < m → m < length runs → get_or runs m d ≡ (record { first = lots b + 1; last = lots b + lots i }) → Repeated i
  repeated b i m d inn low high e =
      let all_opens : opens ks ≡ opens b + (1 + opens i) = ap opens inn.0 ∙ opens_append b (opening ∷ i) in
      let t = nth_block inn.1 (m - opens b - 1) (omega (arith, h.packaged.many)) in
      let u : List Kind = t.0 in
      let v : List Kind = t.1 in
      let w : List Kind = t.2 in
      let there : ks ≡ (b ++ (opening ∷ u)) ++ (opening ∷ (v ++ (closing ∷ w))) = inn.0 ∙ ap (λ l. b ++ (opening ∷ l)) t.3.0 ∙ sym (append_assoc b (opening ∷ u) _) in
      let at : opens (b ++ (opening ∷ u)) ≡ m = opens_append b (opening ∷ u) ∙ omega (arith, t.4) in
      let run = sym (h.packaged.each (b ++ (opening ∷ u)) v w (there, t.3.1) d) ∙ ap (λ j. get_or runs j d) at ∙ e in
      let lots_u : lots (b ++ (opening ∷ u)) ≡ lots b + (0 + lots u) = lots_append b (opening ∷ u) in
      (u, v, w, t.3, omega (arith, ap (λ x. x.first) run, ap (λ x. x.last) run, lots_u))

  -- where no package after its number has its run, none inside it has all its lots
  pub not_repeated : (b i : List Kind) → Innermost ks b i → ((m : ℕ) (d : Run) → opens b < m → m < length runs → get_or runs m d ≡ (record { first = lots b + 1; last = lots b + lots i }) → ⊥) → Repeated i → ⊥
  not_repeated b i inn free r =
      let u : List Kind = r.0 in
      let v : List Kind = r.1 in
      let w : List Kind = r.2 in
      let there : ks ≡ (b ++ (opening ∷ u)) ++ (opening ∷ (v ++ (closing ∷ w))) = inn.0 ∙ ap (λ l. b ++ (opening ∷ l)) r.3.0 ∙ sym (append_assoc b (opening ∷ u) _) in
      let at : opens (b ++ (opening ∷ u)) ≡ opens b + (1 + opens u) = opens_append b (opening ∷ u) in
      let lots_u : lots (b ++ (opening ∷ u)) ≡ lots b + (0 + lots u) = lots_append b (opening ∷ u) in
      let lots_i : lots i ≡ lots u + (0 + lots (v ++ (closing ∷ w))) = ap lots r.3.0 ∙ lots_append u _ in
      let lots_v : lots (v ++ (closing ∷ w)) ≡ lots v + (0 + lots w) = lots_append v (closing ∷ w) in
      let none_u : lots u ≡ 0 = omega (arith, r.4) in
      let d : Run = record { first = 0; last = 0 } in
      free (opens (b ++ (opening ∷ u))) d (omega arith) (omega (arith, h.packaged.many, opens_within ks (b ++ (opening ∷ u)) _ there))
      (h.packaged.each (b ++ (opening ∷ u)) v w (there, r.3.1) d ∙ same_run _ _ _ _ (omega arith) (omega (arith, r.4)))

  -- with the innermost open package o on the stack

  pub nothing_open : length st ≡ 0 → NoneOpen ks
  nothing_open e = balanced_none_open ks (subst (λ l. Nest l ks) (ap reverse (empty st e)) h.nest)

  -- the lots of the innermost open package
  pub lots_inside : (b i : List Kind) → Innermost ks b i → n ≡ lots b + lots i
  lots_inside b i inn = h.lot_count ∙ ap lots inn.0 ∙ lots_append b (opening ∷ i) ∙ omega arith

  pub top_within : (st' : List Opened) (o : Opened) → st ≡ st' ++ (o ∷ []) → o.«package» < length runs
  top_within st' o e = let t = top st' o e in omega (arith, t.3.0, opens_within ks t.0 t.1 t.2.0, h.packaged.many)

  pub close_top : (st' : List Opened) (o : Opened) → st ≡ st' ++ (o ∷ []) → Kept (ks ++ (closing ∷ [])) n (set runs o.«package» (record { first = o.first; last = n })) st' all
  close_top st' o e =
      let t = top st' o e in
      let made = kept_close st' t.0 t.1 t.2 t.4 in
      let last : lots t.0 + lots t.1 ≡ n = sym (lots_inside t.0 t.1 t.2) in
      let F : ℕ → ℕ → ℕ → Type 0 = λ p x y. Kept (ks ++ (closing ∷ [])) n (set runs p (record { first = x; last = y })) st' all in
      subst (λ p. F p o.first n) (sym t.3.0) (subst (λ x. F (opens t.0) x n) (sym t.3.2) (subst (λ y. F (opens t.0) (lots t.0 + 1) y) last made))

  pub ended_lots : n ≡ lots (ks ++ (ending ∷ []))
  ended_lots = omega (arith, h.lot_count, lots_append ks (ending ∷ []))

  pub ended_packaged : Packaged (ks ++ (ending ∷ [])) runs
  ended_packaged = packaged_plain ks ending runs (refl, refl) h.packaged

  pub ended_lodged : Lodged (ks ++ (ending ∷ [])) all
  ended_lodged = lodged_other ks ending all refl h.lodged

  pub open_top : (runs' : List Run) (st' : List Opened) (x : Run) (o : Opened) → runs' ≡ runs ++ (x ∷ []) → st' ≡ st ++ (o ∷ []) → Opens o ks → Kept (ks ++ (opening ∷ [])) n runs' st' all
  open_top runs' st' x o e f op =
      subst (λ l. Kept (ks ++ (opening ∷ [])) n l st' all) (sym e) (subst (λ l. Kept (ks ++ (opening ∷ [])) n (runs ++ (x ∷ [])) l all) (sym f) (kept_open x o op))

  pub bid_top : (st' : List Opened) (o : Opened) → st ≡ st' ++ (o ∷ []) → (all' : List Bid) (x : Bid) (buyer price on : ℕ) (k m : List ℕ) → all' ≡ all ++ (x ∷ []) → x ≡ new_bid buyer price on → buyer ≡ value k → price ≡ value m → on ≡ o.«package» + 1 → Kept (ks ++ (bid k m ∷ [])) n runs st all'
  bid_top st' o e all' x buyer price on k m f made by for at =
      let t = top st' o e in
      let is : x ≡ new_bid (value k) (value m) (opens t.0 + 1) = made ∙ (λ j. new_bid (by j) (for j) ((at ∙ ap (λ p. p + 1) t.3.0) j)) in
      subst (λ l. Kept (ks ++ (bid k m ∷ [])) n runs st l) (sym (f ∙ ap (λ y. all ++ (y ∷ [])) is)) (kept_bid k m t.0 t.1 t.2)

  module _ (b i : List Kind) (inn : Innermost ks b i) (R : List Run) (same : R ≡ runs) (p : ℕ) (at : p ≡ opens b) (x : Run) (first : x.first ≡ lots b + 1) (last : x.last ≡ n) where
    is_run : x ≡ (record { first = lots b + 1; last = lots b + lots i })
    is_run = same_run x.first x.last _ _ first (last ∙ lots_inside b i inn)

    pub again : (m : ℕ) → m < length (after R p) → ((d : Run) → get_or (after R p) m d ≡ x) → Repeated i
    again m lt found =
        let d : Run = record { first = 0; last = 0 } in
        let long : length (after R p) ≡ length R - (p + 1) = length_after R p in
        let size = ap length same in
        repeated b i (p + 1 + m) d inn (omega (arith, at)) (omega arith)
        (ap (λ l. get_or l (p + 1 + m) d) (sym same) ∙ sym (get_d_after R p m d) ∙ found d ∙ is_run)

    pub afresh : ((m : ℕ) (d : Run) → m < length (after R p) → get_or (after R p) m d ≡ x → ⊥) → Repeated i → ⊥
    afresh free =
        let long : length (after R p) ≡ length R - (p + 1) = length_after R p in
        let size = ap length same in
        not_repeated b i inn
        (λ m d low high e.
        let back : p + 1 + (m - (p + 1)) ≡ m = omega (arith, at) in
        free (m - (p + 1)) d (omega (arith, at))
        (get_d_after R p (m - (p + 1)) d ∙ ap (λ j. get_or R j d) back ∙ ap (λ l. get_or l m d) same ∙ e ∙ sym is_run))
