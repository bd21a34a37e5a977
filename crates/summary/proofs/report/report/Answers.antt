use Rattle.books.specs.Book.{load}
use Rattle.books.specs.History.{then}
use Rattle.summary.specs.FileText.{new_sale, file_book, file_answer}
use Rattle.summary.proofs.Reporting.{accepted_reported, refused_reported}
use Rattle.summary.proofs.report.report.Goals as goal

pub returns-in-Ok : goal.returns-in-Ok
returns-in-Ok c =
    let file = c.args.file.now in
    let loaded = c.in-Ok.ensures.rules new_sale c.in_ok-sale.ensures in
    accepted_reported (file_book file) (file_answer file) c.in-Ok.field-0 _ loaded.answers
    (c.in_ok-of-in-Ok.ensures.report (then new_sale (load file)) loaded.holds) c.in_ok-of-in-Ok.ensures.packed

pub returns : goal.returns
returns c =
    let file = c.args.file.now in
    refused_reported (file_book file) (file_answer file) _ c.try_from.result _ _ (λ a obeys. (obeys new_sale c.in_ok-sale.ensures).answers)
    c.in-Err.ensures.rules c.try_from.ensures c.in_ok-try_from-in-Err.was
