-- What a call does to a sale that holds a book.
use Rattle.std.proofs.Common.{◌≡◌, ℕ, ◌+◌, ◌<◌, Bool, true, List, [], ◌∷◌, ◌++◌, map, length, take, set, vec_items, vec_len, sym, ap, ◌∙◌, subst, arith}
use Rattle.std.proofs.lemmas.List.{length-map, length-take-le, take_more_set, map_push}
use Rattle.packages.specs.declared.package.Package.{Ghosts}
use Rattle.packages.specs.Lots.{Lots}
use Rattle.books.specs.Book.{Book, Call, accepted, refused, answer, written, if_accepted}
use Rattle.books.specs.History.{History, book_of}
use Rattle.sale.specs.declared.state.Sale.{Sale}
use Rattle.sale.specs.Holds.{permitted, Holds, Conforms}

-- a test that was passed, of an equal number
pub passes : (test : ℕ → Bool) (x y : ℕ) → x ≡ y → true ≡ test x → test y ≡ true
passes test x y e t = ap test (sym e) ∙ sym t

pub permitted_counted : {P : Type 0} {kind : Ghosts P} (s : Sale P kind) → length (permitted s) ≡ vec_len s.nest.parents
permitted_counted s = length-take-le (vec_len s.nest.parents) (vec_items s.table) (omega (arith, s.packages_within, s.table.ok.0))

module _ {P : Type 0} {kind : Ghosts P} (m : P → Lots) (s : Sale P kind) (b : Book) (held : Holds m s b) where
  abbrev count : ℕ
  count = vec_len s.nest.parents

  abbrev items : List P
  items = vec_items s.table

  pub packages_counted : length b.packages ≡ vec_len s.nest.parents
  packages_counted = ap length (sym held.packages) ∙ length-map (permitted s) m ∙ permitted_counted s

  pub bids_counted : length b.bids ≡ vec_len s.nest.bids
  bids_counted = ap length (sym held.bids) ∙ sym s.nest.bids.ok.0

  -- the first n + 1 places of the table, with p at the last of them
  pub packages_more : (n k : ℕ) (p : P) → n ≡ vec_len s.nest.parents → k ≡ n + 1 → n < vec_len s.table
      → map m (take k (set (vec_items s.table) n p)) ≡ b.packages ++ (m p ∷ [])
  packages_more n k p e more room =
      let within : n < length items = omega (arith, s.table.ok.0) in
      ap (λ j. map m (take j (set items n p))) more
      ∙ ap (map m) (take_more_set items n p within)
      ∙ map_push m (take n items) p
      ∙ ap (λ j. map m (take j items) ++ (m p ∷ [])) e
      ∙ ap (λ l. l ++ (m p ∷ [])) held.packages

module _ {P : Type 0} {kind : Ghosts P} (m : P → Lots) (s : Sale P kind) (h : History) (c : Call) where
  -- a refusal leaves the sale as it is
  pub refused_conforms : (r : ℕ × ℕ) → Holds m s (book_of h) → answer (book_of h) c ≡ refused r → Conforms m s h c (refused r)
  refused_conforms r held e = record {
    answers = sym e;
    holds = subst (λ b. Holds m s b) (ap (λ a. if_accepted a (written (book_of h) c) (book_of h)) (sym e)) held;
  }

  -- an accepted call is written
  pub accepted_conforms : (n : ℕ) → answer (book_of h) c ≡ accepted n → Holds m s (written (book_of h) c) → Conforms m s h c (accepted n)
  accepted_conforms n e held = record {
    answers = sym e;
    holds = subst (λ b. Holds m s b) (ap (λ a. if_accepted a (written (book_of h) c) (book_of h)) (sym e)) held;
  }
