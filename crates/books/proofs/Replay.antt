-- An accepted load gives the book of the sale in which the file's packages are permitted and its bids are lodged.
use Rattle.std.proofs.Common.{◌≡◌, ℕ, zero, suc, ◌+◌, ◌<◌, ◌≤◌, min, false, cond, leb, List, [], ◌∷◌, ◌++◌, map, length, get_or, take, drop, sym, refl, ap, ◌∙◌, subst, ap₂, append_assoc, append-nil, arith}
use Rattle.std.proofs.lemmas.List.{length-map, length-take-le, map_more, take_more, take_all, drop_more}
use Rattle.std.proofs.lemmas.Bool.{le-leb, cond-true}
use Rattle.bids.specs.declared.bid.Bid.{Bid}
use Rattle.bids.specs.Bids.{new_bid, no_bid}
use Rattle.bids.specs.Limits.{max_packages, highest_buyer, highest_price}
use Rattle.bids.proofs.Ranges.{from_between}
use Rattle.lines.specs.Kinds.{Kind, header, opening, closing, lot, bid, remark, ending}
use Rattle.salefile.specs.FileContents.{FileContents, run_set}
use Rattle.salefile.specs.Blocks.{opens, bids}
use Rattle.salefile.specs.Files.{Sound, Describes}
use Rattle.salefile.specs.Orderly.{Orderly}
use Rattle.salefile.proofs.Nesting.{opens_append, bids_append}
use Rattle.salefile.proofs.Uniqueness.{shows_whole}
use Rattle.salefile.proofs.Order.{all_orderly, bid_within}
use Rattle.salefile.specs.Limits.{max_bytes}
use Rattle.books.specs.Book.{Book, Call, permit, lodge, accepted, answer, after, written, if_accepted, is_empty, file_book}
use Rattle.books.specs.History.{History, making, then, book_of}
use Rattle.packages.specs.Lots.{highest_run_lot}
use Rattle.books.specs.Loading.{then_all, permits, lodges, calls, by_lines, packages_first, AllAccepted, Replays, Standing}
use Rattle.books.proofs.Checked.{passed, permitted, lodged}
use Rattle.salefile.proofs.Nested.{no_run, fits_at}
use Rattle.books.proofs.Loaded.{all_standing, free_at}
use Rattle.books.proofs.Loads.{always_loads}
use Rattle.books.proofs.Reached.{always_sound}

then_all_push : (h : History) (cs : List Call) (c : Call) → then_all h (cs ++ (c ∷ [])) ≡ then (then_all h cs) c
then_all_push h [] c = refl
then_all_push h (x ∷ cs) c = then_all_push (then h x) cs c

-- the first i packages and the first j bids of what a file says
abbrev pub part : FileContents → ℕ → ℕ → ℕ → Book
part c space i j = record { lots = c.lots; space = space; packages = map run_set (take i c.packages); bids = take j c.bids }

-- the calls that permit package i + 1 and lodge bid j + 1

abbrev pub permit_call : FileContents → ℕ → Call
permit_call c i = permit (run_set (get_or c.packages i no_run))

abbrev pub lodge_call : FileContents → ℕ → Call
lodge_call c j = lodge (get_or c.bids j no_bid).buyer (get_or c.bids j no_bid).price (get_or c.bids j no_bid).«package»

-- a bid that stands is the one that lodging it writes
lodged_again : (x : Bid) → x.withdrawn ≡ false → new_bid x.buyer x.price x.«package» ≡ x
lodged_again x w i = record { buyer = x.buyer; price = x.price; «package» = x.«package»; withdrawn = sym w i }

module _ (space : ℕ) (c : FileContents) (ord : Orderly space c) (stand : Standing c.bids) where
  pub permit_accepted : (i j : ℕ) → i < length c.packages → answer (part c space i j) (permit_call c i) ≡ accepted (i + 1)
  permit_accepted i j lt =
      let count : length (map run_set (take i c.packages)) ≡ i = length-map (take i c.packages) run_set ∙ length-take-le i c.packages (omega arith) in
      permitted (part c space i j) (run_set (get_or c.packages i no_run)) (fits_at space c ord i lt) (omega (arith, ord.few_packages)) (free_at space c ord i lt)
      ∙ ap (λ n. accepted (n + 1)) count

  pub permit_part : (i j : ℕ) → i < length c.packages → after (part c space i j) (permit_call c i) ≡ part c space (i + 1) j
  permit_part i j lt =
      ap (λ a. if_accepted a (written (part c space i j) (permit_call c i)) (part c space i j)) (permit_accepted i j lt)
      ∙ ap (λ ts. record { lots = c.lots; space = space; packages = ts; bids = take j c.bids }) (sym (map_more run_set c.packages i no_run lt))

  -- a bid on one of the first n packages
  pub lodge_accepted : (n j : ℕ) → n ≤ length c.packages → j < length c.bids → (get_or c.bids j no_bid).«package» ≤ n → answer (part c space n j) (lodge_call c j) ≡ accepted (j + 1)
  lodge_accepted n j within lt there =
      let packages : length (map run_set (take n c.packages)) ≡ n = length-map (take n c.packages) run_set ∙ length-take-le n c.packages (omega arith) in
      let count : length (take j c.bids) ≡ j = length-take-le j c.bids (omega arith) in
      let r = ord.in_range j no_bid lt in
      let p = ord.on_package j no_bid lt in
      lodged (part c space n j) (get_or c.bids j no_bid).buyer (get_or c.bids j no_bid).price (get_or c.bids j no_bid).«package» (from_between 1 highest_buyer _ (r.0, r.1)) (from_between 1 highest_price _ (r.2, r.3)) p.0
      (omega (arith, there, packages)) (omega (arith, ord.few_bids, count))
      ∙ ap (λ m. accepted (m + 1)) count

  pub lodge_part : (n j : ℕ) → n ≤ length c.packages → j < length c.bids → (get_or c.bids j no_bid).«package» ≤ n → after (part c space n j) (lodge_call c j) ≡ part c space n (j + 1)
  lodge_part n j within lt there =
      let b = part c space n j in
      ap (λ a. if_accepted a (written b (lodge_call c j)) b) (lodge_accepted n j within lt there)
      ∙ ap (λ bs. record { lots = c.lots; space = space; packages = map run_set (take n c.packages); bids = bs }) (ap (λ x. take j c.bids ++ (x ∷ [])) (lodged_again (get_or c.bids j no_bid) (stand j no_bid lt)) ∙ sym (take_more c.bids j no_bid lt))

  module _ (few : space ≤ max_packages) where
    opened_part : book_of (making highest_run_lot c.lots space) ≡ part c space 0 0
    opened_part =
        let number : cond (leb c.lots highest_run_lot) c.lots 0 ≡ c.lots = cond-true _ _ _ (le-leb c.lots highest_run_lot (omega (arith, ord.few_lots))) in
        let places : min max_packages space ≡ space = omega arith in
        λ k. record { lots = number k; space = places k; packages = []; bids = [] }

    pub permits_reach : (i : ℕ) → i ≤ length c.packages → book_of (then_all (making highest_run_lot c.lots space) (permits (take i c.packages))) ≡ part c space i 0
    permits_reach zero le = opened_part
    permits_reach (suc i) le =
        let lt : i < length c.packages = omega arith in
        let next : suc i ≡ i + 1 = omega arith in
        ap (λ n. book_of (then_all (making highest_run_lot c.lots space) (permits (take n c.packages)))) next
        ∙ ap (λ cs. book_of (then_all (making highest_run_lot c.lots space) cs)) (map_more (λ r. permit (run_set r)) c.packages i no_run lt)
        ∙ ap book_of (then_all_push (making highest_run_lot c.lots space) (permits (take i c.packages)) (permit_call c i))
        ∙ ap (λ b. after b (permit_call c i)) (permits_reach i (omega arith))
        ∙ permit_part i 0 lt
        ∙ ap (λ n. part c space n 0) (sym next)

    pub lodges_reach : (j : ℕ) → j ≤ length c.bids
        → book_of (then_all (then_all (making highest_run_lot c.lots space) (permits (take (length c.packages) c.packages))) (lodges (take j c.bids))) ≡ part c space (length c.packages) j
    lodges_reach zero le = permits_reach (length c.packages) (omega arith)
    lodges_reach (suc j) le =
        let lt : j < length c.bids = omega arith in
        let next : suc j ≡ j + 1 = omega arith in
        let h : History = then_all (making highest_run_lot c.lots space) (permits (take (length c.packages) c.packages)) in
        ap (λ n. book_of (then_all h (lodges (take n c.bids)))) next
        ∙ ap (λ cs. book_of (then_all h cs)) (map_more (λ x. lodge x.buyer x.price x.«package») c.bids j no_bid lt)
        ∙ ap book_of (then_all_push h (lodges (take j c.bids)) (lodge_call c j))
        ∙ ap (λ b. after b (lodge_call c j)) (lodges_reach j (omega arith))
        ∙ lodge_part (length c.packages) j (omega arith) lt (ord.on_package j no_bid lt).1
        ∙ ap (λ n. part c space (length c.packages) n) (sym next)

    pub part_all : part c space (length c.packages) (length c.bids) ≡ file_book c space
    part_all =
        let packages = take_all (length c.packages) c.packages (omega arith) in
        let bids = take_all (length c.bids) c.bids (omega arith) in
        λ k. record { lots = c.lots; space = space; packages = map run_set (packages k); bids = bids k }

    pub packages_first_is : book_of (packages_first c space) ≡ file_book c space
    packages_first_is =
        let packages = take_all (length c.packages) c.packages (omega arith) in
        let bids = take_all (length c.bids) c.bids (omega arith) in
        (λ k. book_of (then_all (then_all (making highest_run_lot c.lots space) (permits (sym packages k))) (lodges (sym bids k))))
        ∙ lodges_reach (length c.bids) (omega arith)
        ∙ part_all

    -- the calls of the lines ks
    module _ (ks : List Kind) (sound : Sound space ks) (describes : Describes ks c) where
      -- the calls are accepted, and lead to the book of all that the lines say
      abbrev Leads : History → List Call → Type 0
      Leads h cs = (book_of (then_all h cs) ≡ part c space (opens ks) (bids ks)) × AllAccepted (book_of h) cs

      -- so do the calls of the lines a, from the book of the first i packages and j bids
      abbrev Reaches : List Kind → ℕ → ℕ → Type 0
      Reaches a i j = (h : History) → book_of h ≡ part c space i j → Leads h (calls a (drop i c.packages) (drop j c.bids))

      from_equal : (a : List Kind) (i i' j j' : ℕ) → i ≡ i' → j ≡ j' → Reaches a i j → Reaches a i' j'
      from_equal a i i' j j' e f r = subst (λ n. Reaches a n j') e (subst (Reaches a i) f r)

      -- a line that asks for no call
      plain_line : (s : List Kind) (k : Kind) (a : List Kind) → opens (k ∷ []) ≡ 0 → bids (k ∷ []) ≡ 0 → Reaches a (opens (s ++ (k ∷ []))) (bids (s ++ (k ∷ []))) → Reaches a (opens s) (bids s)
      plain_line s k a e f =
          from_equal a (opens (s ++ (k ∷ []))) (opens s) (bids (s ++ (k ∷ []))) (bids s) (opens_append s (k ∷ []) ∙ omega (arith, e)) (bids_append s (k ∷ []) ∙ omega (arith, f))

      opening_line : (s a : List Kind) → ks ≡ s ++ (opening ∷ a) → Reaches a (opens (s ++ (opening ∷ []))) (bids (s ++ (opening ∷ []))) → Reaches (opening ∷ a) (opens s) (bids s)
      opening_line s a is rest h at =
          let i : ℕ = opens s in
          let j : ℕ = bids s in
          let all : opens ks ≡ i + (1 + opens a) = ap opens is ∙ opens_append s (opening ∷ a) in
          let lt : i < length c.packages = omega (arith, all, describes.packaged.many) in
          let onward = from_equal a (opens (s ++ (opening ∷ []))) (i + 1) (bids (s ++ (opening ∷ []))) j (opens_append s (opening ∷ [])) (bids_append s (opening ∷ []) ∙ omega arith) rest in
          let more = onward (then h (permit_call c i)) (ap (λ b. after b (permit_call c i)) at ∙ permit_part i j lt) in
          let first = ap (λ b. answer b (permit_call c i)) at ∙ permit_accepted i j lt in
          subst (λ l. Leads h (calls (opening ∷ a) l (drop j c.bids))) (sym (drop_more c.packages i no_run lt)) (more.0, ((i + 1, first), more.1))

      bid_line : (s a : List Kind) (n q : List ℕ) → ks ≡ s ++ (bid n q ∷ a) → Reaches a (opens (s ++ (bid n q ∷ []))) (bids (s ++ (bid n q ∷ []))) → Reaches (bid n q ∷ a) (opens s) (bids s)
      bid_line s a n q is rest h at =
          let i : ℕ = opens s in
          let j : ℕ = bids s in
          let all : bids ks ≡ j + (1 + bids a) = ap bids is ∙ bids_append s (bid n q ∷ a) in
          let all_opens : opens ks ≡ i + (0 + opens a) = ap opens is ∙ opens_append s (bid n q ∷ a) in
          let lt : j < length c.bids = omega (arith, all, describes.lodged.many) in
          let within : i ≤ length c.packages = omega (arith, all_opens, describes.packaged.many) in
          let there = (bid_within space ks c sound describes s n q a is no_bid).1 in
          let onward = from_equal a (opens (s ++ (bid n q ∷ []))) i (bids (s ++ (bid n q ∷ []))) (j + 1) (opens_append s (bid n q ∷ []) ∙ omega arith) (bids_append s (bid n q ∷ [])) rest in
          let more = onward (then h (lodge_call c j)) (ap (λ b. after b (lodge_call c j)) at ∙ lodge_part i j within lt there) in
          let first = ap (λ b. answer b (lodge_call c j)) at ∙ lodge_accepted i j within lt there in
          subst (λ l. Leads h (calls (bid n q ∷ a) (drop i c.packages) l)) (sym (drop_more c.bids j no_bid lt)) (more.0, ((j + 1, first), more.1))

      -- the lines s and then a
      next : (s : List Kind) (k : Kind) (a : List Kind) → ks ≡ s ++ (k ∷ a) → ks ≡ (s ++ (k ∷ [])) ++ a
      next s k a is = is ∙ sym (append_assoc s (k ∷ []) a)

      lines_reach : (a s : List Kind) → ks ≡ s ++ a → Reaches a (opens s) (bids s)
      lines_reach [] s is = λ h at. (at ∙ ap (λ l. part c space (opens l) (bids l)) (sym (is ∙ append-nil s)), tt)
      lines_reach (opening ∷ a) s is = opening_line s a is (lines_reach a (s ++ (opening ∷ [])) (next s opening a is))
      lines_reach (bid n q ∷ a) s is = bid_line s a n q is (lines_reach a (s ++ (bid n q ∷ [])) (next s (bid n q) a is))
      lines_reach (header ∷ a) s is = plain_line s header a refl refl (lines_reach a (s ++ (header ∷ [])) (next s header a is))
      lines_reach (closing ∷ a) s is = plain_line s closing a refl refl (lines_reach a (s ++ (closing ∷ [])) (next s closing a is))
      lines_reach (lot ∷ a) s is = plain_line s lot a refl refl (lines_reach a (s ++ (lot ∷ [])) (next s lot a is))
      lines_reach (remark w ∷ a) s is = plain_line s (remark w) a refl refl (lines_reach a (s ++ (remark w ∷ [])) (next s (remark w) a is))
      lines_reach (ending ∷ a) s is = plain_line s ending a refl refl (lines_reach a (s ++ (ending ∷ [])) (next s ending a is))

      whole : Leads (making highest_run_lot c.lots space) (calls ks c.packages c.bids)
      whole = lines_reach ks [] refl (making highest_run_lot c.lots space) opened_part

      pub by_lines_accepted : AllAccepted (book_of (making highest_run_lot c.lots space)) (calls ks c.packages c.bids)
      by_lines_accepted = whole.1

      pub by_lines_is : book_of (by_lines c ks space) ≡ file_book c space
      by_lines_is = whole.0 ∙ ap₂ (part c space) (sym describes.packaged.many) (sym describes.lodged.many) ∙ part_all

pub replays : Replays
replays h file n c ks e a shows =
    let b : Book = book_of h in
    let first = passed (leb (length file) max_bytes) _ (1, 0) n e in
    let second = passed (is_empty b) _ (21, 0) n first.1 in
    let ord = all_orderly file b.space c a in
    let stand = all_standing file b.space c a in
    let few = (always_sound h).space_few in
    let is = ((always_loads b file).accepted_file c a.0 second.0 a).1 in
    let same = shows_whole file a.1.0 ks a.1.1 shows in
    record {
      in_order = is ∙ sym (by_lines_is b.space c ord stand few a.1.0 a.1.2 a.1.4) ∙ ap (λ l. book_of (by_lines c l b.space)) same;
      all_accepted = subst (λ l. AllAccepted (book_of (making highest_run_lot c.lots b.space)) (calls l c.packages c.bids)) same (by_lines_accepted b.space c ord stand few a.1.0 a.1.2 a.1.4);
      regrouped = is ∙ sym (packages_first_is b.space c ord stand few);
    }
