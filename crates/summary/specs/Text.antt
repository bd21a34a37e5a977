-- The text of a report, as bytes. A number is written in decimal digits, with no leading 0, and each line is ended by the byte 10.
--   revenue_line, ways_line        the lines of the revenue, and of the ways in which it is reached
--   winner_line, payment_line      the line of a winning bid, and that of a buyer who has one
--   spaced, top_line               numbers, each after a space, and the line of the greatest amounts
--   report_lines, report_text      the lines of a report, and its text
--   refusal_line, refusal_text     the one line of a refused file, and its text
--   printed_text                   the text of a report on a file, which is either
use Rattle.std.specs.Prelude.{ℕ, List, [], ◌∷◌, ◌++◌, map, codes, decimal}
use Rattle.books.specs.Worked.{ended}
use Rattle.summary.specs.declared.contents.Payment.{Payment}
use Rattle.summary.specs.declared.contents.Winner.{Winner}
use Rattle.summary.specs.declared.report.FileReport.{FileReport}
use Rattle.summary.specs.declared.report.FileReport.TheVariants.{Accepted, Refused}
use Rattle.summary.specs.Reports.{Report, said}

abbrev pub revenue_line : ℕ → List ℕ
revenue_line crowns = codes "REVENUE " ++ decimal crowns

abbrev pub winner_line : Winner → List ℕ
winner_line w = codes "BID " ++ (decimal w.number ++ (codes " BUYER " ++ (decimal w.buyer ++ (codes " PRICE " ++ decimal w.price))))

abbrev pub payment_line : Payment → List ℕ
payment_line p = codes "BUYER " ++ (decimal p.buyer ++ (codes " PAYS " ++ decimal p.amount))

abbrev pub ways_line : ℕ → List ℕ
ways_line number = codes "WAYS " ++ decimal number

abbrev pub spaced : List ℕ → List ℕ
spaced [] = []
spaced (n ∷ rest) = codes " " ++ (decimal n ++ spaced rest)

abbrev pub top_line : List ℕ → List ℕ
top_line amounts = codes "TOP" ++ spaced amounts

abbrev pub report_lines : Report → List (List ℕ)
report_lines r =
    revenue_line r.revenue ∷ (map winner_line r.winners ++ (map payment_line r.payments ++ (ways_line r.ways ∷ top_line r.amounts ∷ [])))

abbrev pub report_text : Report → List ℕ
report_text r = ended (report_lines r)

abbrev pub refusal_line : ℕ → ℕ → List ℕ
refusal_line number line = codes "REFUSED " ++ (decimal number ++ (codes " LINE " ++ decimal line))

abbrev pub refusal_text : ℕ → ℕ → List ℕ
refusal_text number line = ended (refusal_line number line ∷ [])

abbrev pub printed_text : FileReport → List ℕ
printed_text (Accepted summary) = report_text (said summary)
printed_text (Refused refusal) = refusal_text refusal.number refusal.line
