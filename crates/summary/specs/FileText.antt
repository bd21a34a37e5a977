-- The text of a report on a file.
--   new_sale         the making of a sale of runs with room for as many packages as a sale may have
--   answer_text      the text for a book after the answer to a load: the report, or the refusal's line
--   is_accepted      whether an answer accepts
--   accepts          whether a report is that of an accepted file
--   Says             a report that holds what the book comes to, or the number and the line of the refusal
--   Reported         a report with that text, which also says whether the answer accepts, and holds the same
--   file_answer, file_book, file_text
--                    what a new sale answers to a load of the file, its book afterwards, and the text for both
use Rattle.std.specs.Prelude.{◌≡◌, ℕ, Bool, true, false, List}
use Rattle.bids.specs.Limits.{max_packages}
use Rattle.packages.specs.Lots.{highest_run_lot}
use Rattle.scales.specs.Places.{Packed}
use Rattle.books.specs.Book.{Book, load, Answer, accepted, refused, answer}
use Rattle.books.specs.Contests.{contest_of}
use Rattle.books.specs.History.{History, making, then, book_of}
use Rattle.summary.specs.declared.report.FileReport.{FileReport}
use Rattle.summary.specs.declared.report.FileReport.TheVariants.{Accepted, Refused}
use Rattle.summary.specs.Reports.{report_of, said}
use Rattle.summary.specs.Text.{report_text, refusal_text, printed_text}

abbrev pub new_sale : History
new_sale = making highest_run_lot 0 max_packages

abbrev pub answer_text : Book → Answer → List ℕ
answer_text b (accepted n) = report_text (report_of (contest_of b))
answer_text b (refused r) = refusal_text r.0 r.1

abbrev pub is_accepted : Answer → Bool
is_accepted (accepted n) = true
is_accepted (refused r) = false

abbrev pub accepts : FileReport → Bool
accepts (Accepted summary) = true
accepts (Refused refusal) = false

abbrev pub Says : Book → Answer → FileReport → Type 0
Says b (accepted n) (Accepted summary) = (said summary ≡ report_of (contest_of b)) × Packed summary.top
Says b (refused r) (Refused refusal) = (refusal.number ≡ r.0) × (refusal.line ≡ r.1)
Says b _ _ = ⊥

-- A report that says what a book and the answer to a load come to.
pub record Reported (b : Book) (a : Answer) (r : FileReport) : Type 0 where
  pub text : printed_text r ≡ answer_text b a
  pub accepted : accepts r ≡ is_accepted a
  pub says : Says b a r

abbrev pub file_answer : List ℕ → Answer
file_answer file = answer (book_of new_sale) (load file)

abbrev pub file_book : List ℕ → Book
file_book file = book_of (then new_sale (load file))

abbrev pub file_text : List ℕ → List ℕ
file_text file = answer_text (file_book file) (file_answer file)
