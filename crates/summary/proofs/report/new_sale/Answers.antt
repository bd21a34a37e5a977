use Rattle.std.proofs.Common.{◌≡◌, ℕ, Ok, Err, Result, IfOk, MatchResult, sym, subst}
use Rattle.std.specs.Result.{IsErrAnd}
use Rattle.packages.specs.Lots.{highest_run_lot}
use Rattle.salefile.specs.FileContents.{run_set}
use Rattle.books.specs.History.{making, book_of}
use Rattle.sale.specs.Holds.{Holds}
use Rattle.summary.proofs.report.new_sale.Goals as goal

-- what holds of a value, where only the error becomes another
kept :
    {T E D : Type 0} (P R : T → Type 0) (Q : E → Type 0) (F : E → D → Type 0) (before : Result T E) (after : Result T D) →
    ((x : T) → P x → R x) → MatchResult before P Q → MatchResult before (λ x. after ≡ Ok x) (λ e. IsErrAnd after (F e)) → IfOk after R
kept P R Q F (Ok x) after more h same = subst (λ r. IfOk r R) (sym same) (more x h)
kept P R Q F (Err e) (Ok x) more h same = absurd same
kept P R Q F (Err e) (Err d) more h same = tt

pub returns : goal.returns
returns c =
    kept _ _ _ _ c.new.result c.map_err.result (λ s made. subst (λ (n : ℕ). Holds run_set s (book_of (making highest_run_lot 0 n))) c.in_ok-table.ensures.len made.0)
    c.new.ensures c.map_err.ensures.cases
