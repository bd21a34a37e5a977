-- A sale of runs that takes up what a file says, package by package and bid by bid.
use Rattle.std.proofs.Common.{◌≡◌, ℕ, ◌+◌, ◌<◌, ◌≤◌, min, true, false, eqb, List, length, take, IfSome, is_ok, Ok, Err, vec_len, Result, sym, refl, ap, ◌∙◌, subst, inl, inr, arith}
use Rattle.std.proofs.lemmas.Bool.{cases_Bool, and_from, and_parts, eq-eqb, eqb-true}
use Rattle.std.specs.Option.{option_map}
use Rattle.bids.specs.Bids.{no_bid}
use Rattle.bids.specs.Limits.{max_packages}
use Rattle.packages.specs.declared.package.Package.{Ghosts}
use Rattle.packages.specs.declared.run.Run.{Run}
use Rattle.salefile.specs.declared.fault.ReadFault.{ReadFault}
use Rattle.salefile.specs.declared.fault.ReadFault.TheVariants.{NoMemory, File}
use Rattle.salefile.specs.Refusals.{refusal, read_refusal}
use Rattle.salefile.specs.FileContents.{FileContents, run_set}
use Rattle.salefile.specs.Files.{Accepted, Refused, ReadOutcome}
use Rattle.salefile.specs.Limits.{max_bytes}
use Rattle.salefile.specs.Orderly.{Orderly}
use Rattle.salefile.specs.Reading.{says, reading}
use Rattle.salefile.proofs.Computing.{exact}
use Rattle.books.specs.Book.{Answer, load, accepted, refused, answer, after, is_empty, file_book, loaded}
use Rattle.books.specs.History.{History, making, book_of}
use Rattle.packages.specs.Lots.{highest_run_lot}
use Rattle.books.specs.Loading.{then_all, permits, lodges, Standing}
use Rattle.books.proofs.Checked.{no_refusal, occupied, as_read}
use Rattle.books.proofs.Loads.{always_loads}
use Rattle.books.proofs.Replay.{part, permit_call, lodge_call, permit_accepted, permit_part, lodge_accepted, lodge_part, permits_reach, lodges_reach}
use Rattle.sale.specs.declared.state.Sale.{Sale}
use Rattle.sale.specs.Holds.{Holds, Obeys, Conforms}
use Rattle.sale.specs.Refusals.{reply}
use Rattle.sale.proofs.Steps.{packages_counted, bids_counted, refused_conforms, accepted_conforms}

-- an accepted answer is a result that is no fault
pub reply_ok : {E : Type 0} (refusal : E → ℕ × ℕ) (r : Result ℕ E) (n : ℕ) → reply refusal r ≡ accepted n → is_ok r ≡ true
reply_ok refusal (Ok m) n e = refl
reply_ok refusal (Err f) n e = absurd (no_refusal (refusal f) n e)

module _ (space : ℕ) (c : FileContents) (ord : Orderly space c) (stand : Standing c.bids) (few : space ≤ max_packages) where
  -- one call of a sale that holds the first i packages
  pub permit_next : {kind : Ghosts Run} (s s' : Sale Run kind) (i : ℕ) (a : Answer) → i < length c.packages → Holds run_set s (part c space i 0) → Obeys run_set s s' (permit_call c i) a
      → Holds run_set s' (part c space (i + 1) 0) × (a ≡ accepted (i + 1))
  permit_next s s' i a lt held obeys =
      let h : History = then_all (making highest_run_lot c.lots space) (permits (take i c.packages)) in
      let e = permits_reach space c ord stand few i (omega arith) in
      let done = obeys h (subst (Holds run_set s) (sym e) held) in (
        subst (Holds run_set s') (ap (λ b. after b (permit_call c i)) e ∙ permit_part space c ord stand i 0 lt) done.holds,
        done.answers ∙ ap (λ b. answer b (permit_call c i)) e ∙ permit_accepted space c ord stand i 0 lt,
      )

  -- one call of a sale that holds all packages and the first j bids
  pub lodge_next : {kind : Ghosts Run} (s s' : Sale Run kind) (j : ℕ) (a : Answer) → j < length c.bids → Holds run_set s (part c space (length c.packages) j) → Obeys run_set s s' (lodge_call c j) a
      → Holds run_set s' (part c space (length c.packages) (j + 1)) × (a ≡ accepted (j + 1))
  lodge_next s s' j a lt held obeys =
      let h : History = then_all (then_all (making highest_run_lot c.lots space) (permits (take (length c.packages) c.packages))) (lodges (take j c.bids)) in
      let e = lodges_reach space c ord stand few j (omega arith) in
      let there = (ord.on_package j no_bid lt).1 in
      let done = obeys h (subst (Holds run_set s) (sym e) held) in (
        subst (Holds run_set s') (ap (λ b. after b (lodge_call c j)) e ∙ lodge_part space c ord stand (length c.packages) j (omega arith) lt there) done.holds,
        done.answers ∙ ap (λ b. answer b (lodge_call c j)) e ∙ lodge_accepted space c ord stand (length c.packages) j (omega arith) lt there,
      )

-- a sale of runs, and the book that it holds
module _ {kind : Ghosts Run} (s : Sale Run kind) (h : History) (held : Holds run_set s (book_of h)) where
  is_empty_true : vec_len s.nest.parents ≡ 0 → vec_len s.nest.bids ≡ 0 → is_empty (book_of h) ≡ true
  is_empty_true e f =
      and_from (eqb (length (book_of h).packages) 0) (eqb (length (book_of h).bids) 0)
      (eq-eqb (length (book_of h).packages) 0 (packages_counted run_set s (book_of h) held ∙ e))
      (eq-eqb (length (book_of h).bids) 0 (bids_counted run_set s (book_of h) held ∙ f))

  is_empty_false : (vec_len s.nest.parents ≡ 0 → vec_len s.nest.bids ≡ 0 → ⊥) → is_empty (book_of h) ≡ false
  is_empty_false some =
      elim (cases_Bool (is_empty (book_of h))) [
        | inl e ↦
            let p = and_parts (eqb (length (book_of h).packages) 0) (eqb (length (book_of h).bids) 0) e in
            absurd (some (sym (packages_counted run_set s (book_of h) held) ∙ eqb-true (length (book_of h).packages) 0 p.0) (sym (bids_counted run_set s (book_of h) held) ∙ eqb-true (length (book_of h).bids) 0 p.1))
        | inr e ↦ e
      ]

  module _ (file : List ℕ) where
    pub load_occupied : length file ≤ max_bytes → (vec_len s.nest.parents ≡ 0 → vec_len s.nest.bids ≡ 0 → ⊥) → Conforms run_set s h (load file) (refused (21, 0))
    load_occupied short some = refused_conforms run_set s h (load file) (21, 0) held (occupied (book_of h) file short (is_empty_false some))

    module _ (short : length file ≤ max_bytes) (no_packages : vec_len s.nest.parents ≡ 0) (no_bids : vec_len s.nest.bids ≡ 0) where
      pub load_refused : (n p : ℕ) → Refused file (min max_packages (vec_len s.table)) n p → Conforms run_set s h (load file) (refused (n, p))
      load_refused n p r =
          refused_conforms run_set s h (load file) (n, p) held
          ((always_loads (book_of h) file).refused_file n p short (is_empty_true no_packages no_bids) (subst (λ m. Refused file m n p) held.space r))

      pub load_accepted : (s' : Sale Run kind) (c : FileContents) (n : ℕ) → Accepted file (min max_packages (vec_len s.table)) c → length c.bids ≡ n → Holds run_set s' (file_book c (min max_packages (vec_len s.table))) → Conforms run_set s' h (load file) (accepted n)
      load_accepted s' c n a count now_held =
          let fresh = is_empty_true no_packages no_bids in
          let is : reading (book_of h).space file ≡ says c = sym (exact.only file (book_of h).space (says c) (subst (λ m. Accepted file m c) held.space a)) in
          accepted_conforms run_set s' h (load file) n (as_read (book_of h) file short fresh (says c) is ∙ ap accepted count)
          (subst (Holds run_set s') (sym (ap (loaded (book_of h)) is)) (subst (λ m. Holds run_set s' (file_book c m)) held.space now_held))

-- a file that could not be read
pub load_failed : {kind : Ghosts Run} (s : Sale Run kind) (file : List ℕ) → length file ≤ max_bytes → vec_len s.nest.parents ≡ 0 → vec_len s.nest.bids ≡ 0
    → (f : ReadFault) → ReadOutcome file (min max_packages (vec_len s.table)) (Err f) → IfSome (option_map refused (read_refusal f)) (λ a. Obeys run_set s s (load file) a)
load_failed s file short no_packages no_bids NoMemory outcome = tt
load_failed s file short no_packages no_bids (File f) outcome = λ h held. load_refused s h held file short no_packages no_bids (refusal f).0 (refusal f).1 outcome
