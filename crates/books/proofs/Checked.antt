-- What the checks of the calls answer, and what an acceptance shows.
use Rattle.std.proofs.Common.{◌≡◌, ℕ, ◌+◌, ◌<◌, ◌≤◌, Bool, true, false, cond, leb, ◌⊎◌, List, length, Some, None, Option, refl, ap, ◌∙◌, inl, inr, arith}
use Rattle.std.proofs.lemmas.Bool.{le-leb, lt-leb, lt-ltb, le-ltb, and_left, and_right}
use Rattle.bids.specs.Limits.{max_bids, from_to, is_buyer, is_price}
use Rattle.bids.proofs.Ranges.{from_between}
use Rattle.packages.specs.declared.place.Conflict.{Conflict}
use Rattle.packages.specs.Lots.{Lots, fits_in}
use Rattle.packages.specs.Nest.{conflict_from}
use Rattle.salefile.specs.FileContents.{FileContents}
use Rattle.salefile.specs.Reading.{Reading, says, reading}
use Rattle.salefile.specs.Limits.{max_bytes}
use Rattle.books.specs.Book.{Book, Answer, load, accepted, refused, conflict_refusal, unless_conflict, permit_answer, lodge_answer, answer, written, after, if_accepted, is_empty, reading_answer, loaded, file_book}

pub outside : (low high n : ℕ) → (n < low) ⊎ (high < n) → from_to low high n ≡ false
outside low high n (inl h) = and_left (leb low n) (leb n high) (lt-leb low n h)
outside low high n (inr h) = and_right (leb low n) (leb n high) (lt-leb n high h)

pub no_refusal : (r : ℕ × ℕ) (m : ℕ) → refused r ≡ accepted m → ⊥
no_refusal r m e = let z : ◌≡◌ {A = ℕ} 0 1 = cc in omega arith

-- an accepted call passes each check

pub passed : (t : Bool) (x : Answer) (r : ℕ × ℕ) (n : ℕ) → cond t x (refused r) ≡ accepted n → (t ≡ true) × (x ≡ accepted n)
passed true x r n e = (refl, e)
passed false x r n e = absurd (no_refusal r n e)

pub unopposed : (o : Option Conflict) (a : Answer) (n : ℕ) → unless_conflict o a ≡ accepted n → o ≡ None
unopposed None a n e = refl
unopposed (Some c) a n e = absurd (no_refusal (conflict_refusal c) n e)

-- permit

module _ (b : Book) (s : Lots) (fits : fits_in b.lots s ≡ true) where
  pub conflicts : (c : Conflict) → length b.packages < b.space → conflict_from 1 s b.packages ≡ Some c → permit_answer b s ≡ refused (conflict_refusal c)
  conflicts c room e = rw (fits, lt-ltb (length b.packages) b.space room, e)

  pub permitted : length b.packages < b.space → conflict_from 1 s b.packages ≡ None → permit_answer b s ≡ accepted (length b.packages + 1)
  permitted room e = rw (fits, lt-ltb (length b.packages) b.space room, e)

-- lodge

module _ (b : Book) (buyer price on : ℕ) (buyer_right : is_buyer buyer ≡ true) (price_right : is_price price ≡ true) where
  pub no_package : (on < 1) ⊎ (length b.packages < on) → lodge_answer b buyer price on ≡ refused (28, 0)
  no_package h = rw (buyer_right, price_right, outside 1 (length b.packages) on h)

  pub bids_full : 1 ≤ on → on ≤ length b.packages → max_bids ≤ length b.bids → lodge_answer b buyer price on ≡ refused (29, 0)
  bids_full l h full = rw (buyer_right, price_right, from_between 1 (length b.packages) on (l, h), le-ltb (length b.bids) max_bids full)

  pub lodged : 1 ≤ on → on ≤ length b.packages → length b.bids < max_bids → lodge_answer b buyer price on ≡ accepted (length b.bids + 1)
  lodged l h room = rw (buyer_right, price_right, from_between 1 (length b.packages) on (l, h), lt-ltb (length b.bids) max_bids room)

-- load

module _ (b : Book) (file : List ℕ) where
  pub long_file : max_bytes < length file → answer b (load file) ≡ refused (1, 0)
  long_file h = rw (lt-leb (length file) max_bytes h)

  pub occupied : length file ≤ max_bytes → is_empty b ≡ false → answer b (load file) ≡ refused (21, 0)
  occupied h e = rw (le-leb (length file) max_bytes h, e)

  pub as_read : length file ≤ max_bytes → is_empty b ≡ true → (r : Reading) → reading b.space file ≡ r → answer b (load file) ≡ reading_answer r
  as_read h e r is = rw (le-leb (length file) max_bytes h, e, is)

  pub after_read : length file ≤ max_bytes → is_empty b ≡ true → (c : FileContents) → reading b.space file ≡ says c → after b (load file) ≡ file_book c b.space
  after_read h e c is = ap (λ a. if_accepted a (written b (load file)) b) (as_read h e (says c) is) ∙ ap (loaded b) is
