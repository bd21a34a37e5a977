-- Every book that a history reaches is sound.
use Rattle.std.proofs.Common.{◌≡◌, ℕ, ◌-◌, ◌<◌, true, ltb, leb, List, [], ◌∷◌, ◌++◌, length, get_or, set, None, sym, refl, ap, ◌∙◌, subst, ap₂, inl, inr, arith}
use Rattle.std.proofs.lemmas.List.{length_push, length-set, get_or_append_left, get_or_push, take-append-le, take_at, get_or-set_same, get_or-set_other}
use Rattle.std.proofs.lemmas.Bool.{ltb-true, cases_lt, cases_eq}
use Rattle.bids.specs.declared.bid.Bid.{Bid}
use Rattle.bids.specs.Bids.{new_bid, marked, no_bid, bid_at}
use Rattle.bids.specs.Limits.{max_bids, highest_buyer, highest_price, from_to, is_buyer, is_price}
use Rattle.bids.proofs.Ranges.{between}
use Rattle.packages.specs.Lots.{Lots, fits_in}
use Rattle.packages.specs.Nest.{conflict_from}
use Rattle.packages.specs.Places.{no_lots}
use Rattle.salefile.specs.Reading.{Reading, says, refuses, reading}
use Rattle.salefile.proofs.Order.{all_orderly}
use Rattle.salefile.specs.Limits.{max_bytes}
use Rattle.books.specs.Book.{Book, Call, Answer, permit, lodge, withdraw, load, load_answer, loaded, reading_answer, is_empty, accepted, refused, permit_answer, lodge_answer, withdraw_answer, written, if_accepted, after}
use Rattle.books.specs.History.{History, making, then, asked, book_of}
use Rattle.books.specs.Nested.{Lodged, AlwaysSound}
use Rattle.books.proofs.Checked.{passed, unopposed}
use Rattle.books.proofs.Kept.{Placed, Bids, Kept}
use Rattle.books.proofs.Loaded.{kept_taken, accepted_reading}
use Rattle.books.proofs.Nests.{nest}

placed_push : (n : ℕ) (ts : List Lots) (s : Lots) → fits_in n s ≡ true → conflict_from 1 s ts ≡ None → Placed n ts → Placed n (ts ++ (s ∷ []))
placed_push n ts s fits free old i h =
    elim (cases_lt i (length ts)) [
      | inl lt ↦
          let e = get_or_append_left ts (s ∷ []) no_lots i lt in
          let f = take-append-le i ts (s ∷ []) (omega arith) in
          (ap (fits_in n) e ∙ (old i lt).0, ap₂ (conflict_from 1) e f ∙ (old i lt).1)
      | inr ge ↦
          let at : length ts ≡ i = omega (arith, length_push ts s) in
          let e = get_or_push ts s no_lots i at in
          let f = take_at ts (s ∷ []) i at in
          (ap (fits_in n) e ∙ fits, ap₂ (conflict_from 1) e f ∙ free)
    ]

lodged_more : (ts : List Lots) (s : Lots) (b : Bid) → Lodged ts b → Lodged (ts ++ (s ∷ [])) b
lodged_more ts s b l = record {
  buyer = l.buyer;
  price = l.price;
  on_package = (l.on_package.0, omega (arith, l.on_package.1, length_push ts s));
}

bids_push : (ts : List Lots) (bs : List Bid) (b : Bid) → Lodged ts b → Bids ts bs → Bids ts (bs ++ (b ∷ []))
bids_push ts bs b new old i h =
    elim (cases_lt i (length bs)) [
      | inl lt ↦ subst (λ x. Lodged ts x) (sym (get_or_append_left bs (b ∷ []) no_bid i lt)) (old i lt)
      | inr ge ↦
          let at : length bs ≡ i = omega (arith, length_push bs b) in
          subst (λ x. Lodged ts x) (sym (get_or_push bs b no_bid i at)) new
    ]

lodged_marked : (ts : List Lots) (b : Bid) → Lodged ts b → Lodged ts (marked b)
lodged_marked ts b l = record { buyer = l.buyer; price = l.price; on_package = l.on_package }

bids_set : (ts : List Lots) (bs : List Bid) (j : ℕ) (b : Bid) → j < length bs → Lodged ts b → Bids ts bs → Bids ts (set bs j b)
bids_set ts bs j b within new old i h =
    let long : i < length bs = omega (arith, length-set bs j b) in
    elim (cases_eq i j) [
      | inl same ↦ subst (λ x. Lodged ts x) (sym (ap (λ k. get_or (set bs j b) k no_bid) same ∙ get_or-set_same bs j b no_bid within)) new
      | inr other ↦ subst (λ x. Lodged ts x) (sym (get_or-set_other bs j i b no_bid other)) (old i long)
    ]

permit_keeps : (b : Book) (s : Lots) (a : Answer) → permit_answer b s ≡ a → Kept b → Kept (if_accepted a (written b (permit s)) b)
permit_keeps b s (refused r) e k = k
permit_keeps b s (accepted n) e k =
    let first = passed (fits_in b.lots s) _ (11, 0) n e in
    let second = passed (ltb (length b.packages) b.space) _ (24, 0) n first.1 in
    let free = unopposed (conflict_from 1 s b.packages) _ n second.1 in
    let room = ltb-true (length b.packages) b.space second.0 in
    record {
      placed = placed_push b.lots b.packages s first.0 free k.placed;
      few = omega (arith, room, length_push b.packages s);
      space = k.space;
      bids_few = k.bids_few;
      bids = λ i h. lodged_more b.packages s (get_or b.bids i no_bid) (k.bids i h);
    }

lodge_keeps : (b : Book) (buyer price on : ℕ) (a : Answer) → lodge_answer b buyer price on ≡ a → Kept b → Kept (if_accepted a (written b (lodge buyer price on)) b)
lodge_keeps b buyer price on (refused r) e k = k
lodge_keeps b buyer price on (accepted n) e k =
    let first = passed (is_buyer buyer) _ (12, 0) n e in
    let second = passed (is_price price) _ (13, 0) n first.1 in
    let third = passed (from_to 1 (length b.packages) on) _ (28, 0) n second.1 in
    let fourth = passed (ltb (length b.bids) max_bids) _ (29, 0) n third.1 in
    let room = ltb-true (length b.bids) max_bids fourth.0 in
    let new : Lodged b.packages (new_bid buyer price on) =
    record { buyer = between 1 highest_buyer buyer first.0; price = between 1 highest_price price second.0; on_package = between 1 (length b.packages) on third.0 } in
    record {
      placed = k.placed;
      few = k.few;
      space = k.space;
      bids_few = omega (arith, room, length_push b.bids (new_bid buyer price on));
      bids = bids_push b.packages b.bids (new_bid buyer price on) new k.bids;
    }

withdraw_keeps : (b : Book) (m : ℕ) (a : Answer) → withdraw_answer b m ≡ a → Kept b → Kept (if_accepted a (written b (withdraw m)) b)
withdraw_keeps b m (refused r) e k = k
withdraw_keeps b m (accepted n) e k =
    let first = passed (from_to 1 (length b.bids) m) _ (30, 0) n e in
    let range = between 1 (length b.bids) m first.0 in
    let within : m - 1 < length b.bids = omega (arith, range.0, range.1) in
    record {
      placed = k.placed;
      few = k.few;
      space = k.space;
      bids_few = omega (arith, k.bids_few, length-set b.bids (m - 1) (marked (bid_at b.bids m)));
      bids = bids_set b.packages b.bids (m - 1) (marked (bid_at b.bids m)) within (lodged_marked b.packages (bid_at b.bids m) (k.bids (m - 1) within)) k.bids;
    }

loaded_keeps : (b : Book) (file : List ℕ) (r : Reading) (n : ℕ) → reading b.space file ≡ r → reading_answer r ≡ accepted n → Kept b → Kept (loaded b r)
loaded_keeps b file (says c) n is e k = kept_taken b.space c (all_orderly file b.space c (accepted_reading file b.space c is)) k.space
loaded_keeps b file (refuses m p) n is e k = k

load_keeps : (b : Book) (file : List ℕ) (a : Answer) → load_answer b file ≡ a → Kept b → Kept (if_accepted a (written b (load file)) b)
load_keeps b file (refused r) e k = k
load_keeps b file (accepted n) e k =
    let first = passed (leb (length file) max_bytes) _ (1, 0) n e in
    let second = passed (is_empty b) _ (21, 0) n first.1 in
    loaded_keeps b file (reading b.space file) n refl second.1 k

step_keeps : (b : Book) (c : Call) → Kept b → Kept (after b c)
step_keeps b (permit s) k = permit_keeps b s (permit_answer b s) refl k
step_keeps b (lodge buyer price on) k = lodge_keeps b buyer price on (lodge_answer b buyer price on) refl k
step_keeps b (withdraw n) k = withdraw_keeps b n (withdraw_answer b n) refl k
step_keeps b (load file) k = load_keeps b file (load_answer b file) refl k

kept : (h : History) → Kept (book_of h)
kept (making highest lots places) = record {
  placed = λ i h. absurd (omega arith);
  few = omega arith;
  space = omega arith;
  bids_few = omega arith;
  bids = λ i h. absurd (omega arith);
}
kept (then h c) = step_keeps (book_of h) c (kept h)
kept (asked h q) = kept h

pub always_sound : AlwaysSound
always_sound h =
    let k = kept h in
    record {
      nest = nest (book_of h).lots (book_of h).packages k.placed;
      bids = λ n l h. k.bids (n - 1) (omega arith);
      packages_few = omega (arith, k.few, k.space);
      bids_few = k.bids_few;
      within_space = k.few;
      space_few = k.space;
    }
