-- The report of an answer to a load.
use Rattle.std.proofs.Common.{◌≡◌, ℕ, IfSome, Some, None, Ok, Err, Option, Result, MatchOption, alloc_error, refl, ap, subst}
use Rattle.std.specs.Option.{option_map}
use Rattle.std.specs.declared.alloc.AllocError.{AllocError}
use Rattle.scales.specs.Places.{Packed}
use Rattle.books.specs.Book.{Book, Answer, accepted, refused}
use Rattle.books.specs.Contests.{contest_of}
use Rattle.summary.specs.declared.contents.Summary.{Summary}
use Rattle.summary.specs.declared.report.Refusal.{Refusal}
use Rattle.summary.specs.declared.report.FileReport.TheVariants.{Accepted, Refused}
use Rattle.summary.specs.FileText.{Reported}
use Rattle.summary.specs.Reports.{said, report_of}
use Rattle.summary.specs.Text.{report_text}

pub accepted_reported :
    (b : Book) (a : Answer) (bids : ℕ) (s : Summary) → accepted bids ≡ a → said s ≡ report_of (contest_of b) → Packed s.top → Reported b a (Accepted s)
accepted_reported b a bids s is says packed =
    subst (λ (a : Answer). Reported b a (Accepted s)) is (record { text = ap report_text says; accepted = refl; says = (says, packed) })

-- the report of a refusal that is the answer to the load
pub refused_reported :
    (b : Book) (a : Answer) (r : Refusal) (t : Result Refusal AllocError) (o : Option (ℕ × ℕ)) (Obeyed : Answer → Type 0) → ((x : Answer) → Obeyed x → x ≡ a) →
    IfSome (option_map refused o) Obeyed → MatchOption o (t ≡ Err alloc_error) (λ p. t ≡ Ok (record { number = p.0; line = p.1 })) → t ≡ Ok r → Reported b a (Refused r)
refused_reported b a r t None Obeyed answers obeyed h is = cc
refused_reported b a r t (Some p) Obeyed answers obeyed h is =
    let same : record { number = p.0; line = p.1 } ≡ r = cc in
    subst (λ (a : Answer). Reported b a (Refused r)) (answers _ obeyed)
    (subst (λ (r : Refusal). Reported b (refused p) (Refused r)) same (record { text = refl; accepted = refl; says = (refl, refl) }))
