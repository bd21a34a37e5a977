-- What load answers, in words.
use Rattle.std.proofs.Common.{◌≡◌, ℕ, leb, List, length, sym, refl}
use Rattle.salefile.specs.FileContents.{FileContents}
use Rattle.salefile.specs.Files.{Accepted}
use Rattle.salefile.specs.Reading.{Reading, says, refuses, reading}
use Rattle.salefile.proofs.Computing.{exact}
use Rattle.salefile.specs.Limits.{max_bytes}
use Rattle.books.specs.Book.{Book, accepted, is_empty, reading_answer}
use Rattle.books.specs.Loading.{Loads, AlwaysLoads}
use Rattle.books.proofs.Checked.{passed, no_refusal, long_file, occupied, as_read, after_read}
use Rattle.books.proofs.Loaded.{accepted_reading}

module _ (b : Book) (file : List ℕ) where
  accepted_only : (r : Reading) → reading b.space file ≡ r → (n : ℕ) → reading_answer r ≡ accepted n → (c : FileContents) × Accepted file b.space c
  accepted_only (says c) is n e = (c, accepted_reading file b.space c is)
  accepted_only (refuses m p) is n e = absurd (no_refusal (m, p) n e)

  loads : Loads b file
  loads = record {
    too_long = long_file b file;
    not_empty = occupied b file;
    refused_file = λ n p h e r. as_read b file h e (refuses n p) (sym (exact.only file b.space (refuses n p) r));
    accepted_file = λ c h e a.
        let is = sym (exact.only file b.space (says c) a) in
        (as_read b file h e (says c) is, after_read b file h e c is);
    only_accepted = λ n e.
        let first = passed (leb (length file) max_bytes) _ (1, 0) n e in
        let second = passed (is_empty b) _ (21, 0) n first.1 in
        accepted_only (reading b.space file) refl n second.1;
  }

pub always_loads : AlwaysLoads
always_loads b file = loads b file
