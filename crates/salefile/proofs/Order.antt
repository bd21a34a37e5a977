-- Every accepted file is orderly.
use Rattle.std.proofs.Common.{◌≡◌, ℕ, suc, ◌+◌, ◌<◌, ◌≤◌, Bool, true, false, cond, eqb, ◌⊎◌, List, [], ◌∷◌, ◌++◌, length, get_or, sym, refl, ap, ◌∙◌, subst, inl, inr, ⊎_elim, append_assoc, append-nil, arith}
use mathlib.Core.List.{head-eq_of_cons-eq, tail-eq_of_cons-eq}
use Rattle.lines.specs.Rows.{Row, lengthen, rows_of}
use Rattle.bids.specs.Limits.{highest_buyer, highest_price, max_bids}
use Rattle.salefile.specs.Limits.{max_bytes}
use Rattle.salefile.proofs.Reading.{lots_le}
use Rattle.std.proofs.lemmas.Bool.{cases_lt, cases_order}
use Rattle.packages.specs.declared.run.Run.{Run}
use Rattle.bids.specs.declared.bid.Bid.{Bid}
use Rattle.salefile.specs.FileContents.{FileContents}
use Rattle.lines.specs.Kinds.{Kind, header, opening, closing, lot, bid, remark, ending, value}
use Rattle.salefile.specs.Blocks.{is_opening, lots, opens, closes, bids, Balanced, Block}
use Rattle.salefile.specs.Files.{Begins, line, order, Fails, Clear, Sound, InRange, Repeated, Describes}
use Rattle.salefile.specs.Orderly.{Fits, Nests, Orderly, AllOrderly}
use Rattle.salefile.proofs.Nesting.{lots_append, opens_append, closes_append, bids_append, balanced_even, heavy_all, heavy_end, balanced_heavy, Heavy, no_open_end, nth_block}
use Rattle.salefile.proofs.Uniqueness.{chained, accepted_balanced, nth_bid, open_at, sound_front}

-- two places in one list
abbrev pub Places : List Kind → Kind → List Kind → List Kind → Kind → List Kind → Type 0
Places a x b a' x' b' =
    ((a ≡ a') × (x ≡ x') × (b ≡ b'))
    ⊎ (((m : List Kind) × (a' ≡ a ++ (x ∷ m)) × (b ≡ m ++ (x' ∷ b')))
    ⊎ ((m : List Kind) × (a ≡ a' ++ (x' ∷ m)) × (b' ≡ m ++ (x ∷ b))))

pub two_places : (a : List Kind) (x : Kind) (b a' : List Kind) (x' : Kind) (b' : List Kind) → a ++ (x ∷ b) ≡ a' ++ (x' ∷ b') → Places a x b a' x' b'
two_places [] x b [] x' b' e = inl (refl, head-eq_of_cons-eq e, tail-eq_of_cons-eq e)
two_places [] x b (y ∷ a') x' b' e = inr (inl (a', ap (λ z. z ∷ a') (sym (head-eq_of_cons-eq e)), tail-eq_of_cons-eq e))
two_places (y ∷ a) x b [] x' b' e = inr (inr (a, ap (λ z. z ∷ a) (head-eq_of_cons-eq e), sym (tail-eq_of_cons-eq e)))
two_places (y ∷ a) x b (z ∷ a') x' b' e =
    let h = head-eq_of_cons-eq e in
    ⊎_elim
    (λ r. inl ((λ i. h i ∷ r.0 i), r.1, r.2))
    (⊎_elim
    (λ r. inr (inl (r.0, (λ i. sym h i ∷ r.1 i), r.2)))
    (λ r. inr (inr (r.0, (λ i. h i ∷ r.1 i), r.2))))
    (two_places a x b a' x' b' (tail-eq_of_cons-eq e))

-- what the checks say of a closed package

module _ (space : ℕ) (ks : List Kind) (sound : Sound space ks) (b i a : List Kind) (here : Block ks b i a) where
  closed : Clear (Fails space (b ++ (opening ∷ i)) (line closing)) order
  closed = sound (b ++ (opening ∷ i)) closing a (here.0 ∙ sym (append_assoc b (opening ∷ i) (closing ∷ a)))

  pub some_lots : 0 < lots i
  some_lots =
      ⊎_elim
      (λ z. absurd (closed.1.1.1.1.1.1.1.0 (length (b ++ (opening ∷ i)) + 1) (refl, (b, i, (refl, here.1), z), refl)))
      (⊎_elim (λ lt. absurd (omega arith)) (λ gt. gt))
      (cases_order (lots i) 0)

  pub not_again : Repeated i → ⊥
  not_again r = closed.1.1.1.1.1.1.1.1.0 (length (b ++ (opening ∷ i)) + 1) (refl, (b, i, (refl, here.1), r), refl)

  pub lots_all : lots b + lots i ≤ lots ks
  lots_all =
      let one : lots ks ≡ lots b + (0 + lots (i ++ (closing ∷ a))) = ap lots here.0 ∙ lots_append b _ in
      let two : lots (i ++ (closing ∷ a)) ≡ lots i + (0 + lots a) = lots_append i (closing ∷ a) in
      omega arith

-- a block that opens inside another closes inside it
inner_closes : (i m r i' a a' : List Kind) → Balanced i → i ≡ m ++ (opening ∷ r) → Balanced i' → r ++ (closing ∷ a) ≡ i' ++ (closing ∷ a') → (w : List Kind) × Block i m i' w
inner_closes i m r i' a a' bal e bal' f =
    let heavy = heavy_all (opening ∷ r) (heavy_end m (opening ∷ r) (subst Heavy e (balanced_heavy bal))) in
    ⊎_elim
    (λ s. absurd (no_open_end i m i' bal (e ∙ ap (λ l. m ++ (opening ∷ l)) s.0) bal'))
    (⊎_elim
    (λ s.
    let light = heavy_all s.0 (heavy_end (r ++ (closing ∷ [])) s.0 (subst Heavy (s.1 ∙ sym (append_assoc r (closing ∷ []) s.0)) (balanced_heavy bal'))) in
    let x : opens i' ≡ opens r + (0 + opens s.0) = ap opens s.1 ∙ opens_append r (closing ∷ s.0) in
    let y : closes i' ≡ closes r + (1 + closes s.0) = ap closes s.1 ∙ closes_append r (closing ∷ s.0) in
    absurd (omega (arith, heavy, light, x, y, balanced_even bal')))
    (λ s. (s.0, (e ∙ ap (λ l. m ++ (opening ∷ l)) s.1, bal'))))
    (two_places r closing a i' closing a' f)

module _ (space : ℕ) (ks : List Kind) (sound : Sound space ks) (b i a b' i' a' : List Kind) (one : Block ks b i a) (two : Block ks b' i' a') (before : opens b < opens b') where
  later : (m : List Kind) → b' ≡ b ++ (opening ∷ m) → i ++ (closing ∷ a) ≡ m ++ (opening ∷ (i' ++ (closing ∷ a'))) → Nests (record { first = lots b + 1; last = lots b + lots i }) (record { first = lots b' + 1; last = lots b' + lots i' })
  later m e f =
      let size : lots b' ≡ lots b + (0 + lots m) = ap lots e ∙ lots_append b (opening ∷ m) in
      ⊎_elim
      (λ s. let z = ap is_opening s.1 in absurd (omega arith))
      (⊎_elim
      (λ s. let all : lots m ≡ lots i + (0 + lots s.0) = ap lots s.1 ∙ lots_append i (closing ∷ s.0) in inl (omega arith))
      (λ s.
      let w = inner_closes i m s.0 i' a a' one.1 s.1 two.1 (sym s.2) in
      let all : lots i ≡ lots m + (0 + lots (i' ++ (closing ∷ w.0))) = ap lots w.1.0 ∙ lots_append m _ in
      let parts : lots (i' ++ (closing ∷ w.0)) ≡ lots i' + (0 + lots w.0) = lots_append i' (closing ∷ w.0) in
      inr (
        omega arith,
        omega arith,
        λ same.
            let firsts = ap (λ r. r.first) same in
            let lasts = ap (λ r. r.last) same in
            not_again space ks sound b i a one (m, i', w.0, w.1, omega arith),
      )))
      (two_places i closing a m opening (i' ++ (closing ∷ a')) f)

  pub nested : Nests (record { first = lots b + 1; last = lots b + lots i }) (record { first = lots b' + 1; last = lots b' + lots i' })
  nested =
      ⊎_elim
      (λ s. absurd (omega (arith, before, ap opens s.0)))
      (⊎_elim
      (λ s. later s.0 s.1 s.2)
      (λ s. absurd (omega (arith, before, ap opens s.1, opens_append b' (opening ∷ s.0)))))
      (two_places b opening (i ++ (closing ∷ a)) b' opening (i' ++ (closing ∷ a')) (sym one.0 ∙ two.0))

-- counts within their limits

opens_of : (space : ℕ) (b : List Kind) (k : Kind) → opens b ≤ space → Clear (Fails space b (line k)) order → opens (b ++ (k ∷ [])) ≤ space
opens_of space b header h g = omega (arith, opens_append b (header ∷ []))
opens_of space b opening h g =
    ⊎_elim
    (λ lt. omega (arith, opens_append b (opening ∷ [])))
    (λ full. absurd (g.1.1.1.1.1.0 (length b + 1) (refl, full, refl)))
    (cases_lt (opens b) space)
opens_of space b closing h g = omega (arith, opens_append b (closing ∷ []))
opens_of space b lot h g = omega (arith, opens_append b (lot ∷ []))
opens_of space b (bid n p) h g = omega (arith, opens_append b (bid n p ∷ []))
opens_of space b (remark w) h g = omega (arith, opens_append b (remark w ∷ []))
opens_of space b ending h g = omega (arith, opens_append b (ending ∷ []))

bids_of : (space : ℕ) (b : List Kind) (k : Kind) → bids b ≤ max_bids → Clear (Fails space b (line k)) order → bids (b ++ (k ∷ [])) ≤ max_bids
bids_of space b header h g = omega (arith, bids_append b (header ∷ []))
bids_of space b opening h g = omega (arith, bids_append b (opening ∷ []))
bids_of space b closing h g = omega (arith, bids_append b (closing ∷ []))
bids_of space b lot h g = omega (arith, bids_append b (lot ∷ []))
bids_of space b (bid n p) h g =
    ⊎_elim
    (λ lt. omega (arith, bids_append b (bid n p ∷ [])))
    (λ full. absurd (g.1.1.1.1.1.1.0 (length b + 1) ((n, p, refl), full, refl)))
    (cases_lt (bids b) max_bids)
bids_of space b (remark w) h g = omega (arith, bids_append b (remark w ∷ []))
bids_of space b ending h g = omega (arith, bids_append b (ending ∷ []))

-- what each line keeps, all lines keep
along : (space : ℕ) (P : List Kind → Type 0) → ((b : List Kind) (k : Kind) → P b → Clear (Fails space b (line k)) order → P (b ++ (k ∷ []))) → (b a : List Kind) → P b → Sound space (b ++ a) → P (b ++ a)
along space P step b [] c h = subst P (sym (append-nil b)) c
along space P step b (k ∷ a) c h =
    let join : (b ++ (k ∷ [])) ++ a ≡ b ++ (k ∷ a) = append_assoc b (k ∷ []) a in
    subst P join (along space P step (b ++ (k ∷ [])) a (step b k c (h b k a refl)) (subst (Sound space) (sym join) h))

-- a buyer and a price that are not beyond the limits are within them
in_range_from : (x y : ℕ) → ((InRange x y → ⊥) → ⊥) → InRange x y
in_range_from x y h = (
  ⊎_elim (λ lt. absurd (h (λ r. omega (arith, r.0)))) (λ le. le) (cases_lt x 1),
  ⊎_elim (λ lt. absurd (h (λ r. omega (arith, r.1)))) (λ le. le) (cases_lt highest_buyer x),
  ⊎_elim (λ lt. absurd (h (λ r. omega (arith, r.2)))) (λ le. le) (cases_lt y 1),
  ⊎_elim (λ lt. absurd (h (λ r. omega (arith, r.3)))) (λ le. le) (cases_lt highest_price y),
)

-- the theorem

-- a file has no more lines than bytes
lengthen_count : (b : ℕ) (rows : List Row) → length (lengthen b rows) ≤ length rows + 1
lengthen_count b [] = omega arith
lengthen_count b (row ∷ rows) = omega arith

rows_count : (file : List ℕ) → length (rows_of file) ≤ length file
rows_count [] = omega arith
rows_count (b ∷ bs) = counted (eqb b 10) (rows_count bs)
  where
    counted : (t : Bool) → length (rows_of bs) ≤ length bs → length (cond t ((record { bytes = []; ended = true }) ∷ rows_of bs) (lengthen b (rows_of bs))) ≤ suc (length bs)
    counted true h = omega (arith, h)
    counted false h = omega (arith, h, lengthen_count b (rows_of bs))

lines_count : (rows : List Row) (ks : List Kind) (rest : List Row) → Begins rows ks rest → length ks ≤ length rows
lines_count rows [] rest h = omega arith
lines_count [] (k ∷ ks) rest h = absurd h
lines_count (row ∷ rows) (k ∷ ks) rest h = omega (arith, lines_count rows ks rest h.1)

module _ (space : ℕ) (ks : List Kind) (c : FileContents) (few : lots ks ≤ max_bytes) (sound : Sound space ks) (bal : Balanced ks) (says : Describes ks c) where
  few_opens : opens ks ≤ space
  few_opens = along space (λ l. opens l ≤ space) (opens_of space) [] ks (omega arith) sound

  few_bids_in : bids ks ≤ max_bids
  few_bids_in = along space (λ l. bids l ≤ max_bids) (bids_of space) [] ks (omega arith) sound

  fits_at : (k : ℕ) (d : Run) → k < length c.packages → Fits c.lots (get_or c.packages k d)
  fits_at k d lt =
      let t = nth_block bal k (omega (arith, says.packaged.many)) in
      let is = ap (λ j. get_or c.packages j d) (sym t.4) ∙ says.packaged.each t.0 t.1 t.2 t.3 d in
      let some = some_lots space ks sound t.0 t.1 t.2 t.3 in
      let all = lots_all space ks sound t.0 t.1 t.2 t.3 in
      subst (Fits c.lots) (sym is) (omega arith, omega arith, omega (arith, says.lot_count))

  nests_at : (j k : ℕ) (d : Run) → j < k → k < length c.packages → Nests (get_or c.packages j d) (get_or c.packages k d)
  nests_at j k d low high =
      let t = nth_block bal j (omega (arith, says.packaged.many)) in
      let u = nth_block bal k (omega (arith, says.packaged.many)) in
      let is = ap (λ n. get_or c.packages n d) (sym t.4) ∙ says.packaged.each t.0 t.1 t.2 t.3 d in
      let is' = ap (λ n. get_or c.packages n d) (sym u.4) ∙ says.packaged.each u.0 u.1 u.2 u.3 d in
      subst (λ r. Nests r (get_or c.packages k d)) (sym is) (subst (Nests _) (sym is') (nested space ks sound t.0 t.1 t.2 u.0 u.1 u.2 t.3 u.3 (omega (arith, t.4, u.4))))

  bid_at : (k : ℕ) (d : Bid) → k < length c.bids → InRange (get_or c.bids k d).buyer (get_or c.bids k d).price × (1 ≤ (get_or c.bids k d).«package») × ((get_or c.bids k d).«package» ≤ length c.packages)
  bid_at k d lt =
      let t = nth_bid ks k (omega (arith, says.lodged.many)) in
      let s : List Kind = t.0 in
      let n : List ℕ = t.1 in
      let q : List ℕ = t.2 in
      let all : Sound space (s ++ (bid n q ∷ t.3)) = subst (Sound space) t.4 sound in
      let g = all s (bid n q) t.3 refl in
      let o = open_at space s n q (chained space s (sound_front space s _ all)) g in
      let is = ap (λ j. get_or c.bids j d) (sym t.5) ∙ says.lodged.each s n q t.3 t.4 o.0 o.1 o.2 d in
      let within = in_range_from (value n) (value q) (λ bad. g.1.1.1.1.0 (length s + 1) (n, q, refl, bad, refl)) in
      let opens_s : opens s ≡ opens o.0 + (1 + opens o.1) = ap opens o.2.0 ∙ opens_append o.0 (opening ∷ o.1) in
      let opens_all : opens ks ≡ opens s + (0 + opens t.3) = ap opens t.4 ∙ opens_append s (bid n q ∷ t.3) in
      let P : Bid → Type 0 = λ x. InRange x.buyer x.price × (1 ≤ x.«package») × (x.«package» ≤ length c.packages) in
      subst P (sym is) (within, omega arith, omega (arith, says.packaged.many))

  orderly : Orderly space c
  orderly =
      record {
        few_lots = omega (arith, says.lot_count, few);
        few_packages = omega (arith, says.packaged.many, few_opens);
        fits = fits_at;
        nests = nests_at;
        few_bids = omega (arith, says.lodged.many, few_bids_in);
        in_range = λ k d lt. (bid_at k d lt).0;
        on_package = λ k d lt. ((bid_at k d lt).1, (bid_at k d lt).2);
      }

-- a bid is on a package that is open at its line
pub bid_within : (space : ℕ) (ks : List Kind) (c : FileContents) → Sound space ks → Describes ks c → (s : List Kind) (n q : List ℕ) (a : List Kind) → ks ≡ s ++ (bid n q ∷ a) → (d : Bid)
    → (1 ≤ (get_or c.bids (bids s) d).«package») × ((get_or c.bids (bids s) d).«package» ≤ opens s)
bid_within space ks c sound says s n q a e d =
    let all : Sound space (s ++ (bid n q ∷ a)) = subst (Sound space) e sound in
    let o = open_at space s n q (chained space s (sound_front space s _ all)) (all s (bid n q) a refl) in
    let opens_s : opens s ≡ opens o.0 + (1 + opens o.1) = ap opens o.2.0 ∙ opens_append o.0 (opening ∷ o.1) in
    subst (λ x. (1 ≤ x.«package») × (x.«package» ≤ opens s)) (sym (says.lodged.each s n q a e o.0 o.1 o.2 d)) (omega arith, omega arith)

pub all_orderly : AllOrderly
all_orderly file space c h =
    let shows = h.1.1 in
    let few : lots h.1.0 ≤ max_bytes = omega (arith, h.0, lots_le h.1.0, lines_count (rows_of file) h.1.0 shows.0 shows.1, rows_count file) in
    orderly space h.1.0 c few h.1.2 (accepted_balanced space h.1.0 h.1.2 h.1.3) h.1.4
