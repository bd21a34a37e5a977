use Rattle.std.proofs.Common.{◌∙◌, subst}
use Rattle.std.proofs.lemmas.Result.{err_from_is_err_and}
use Rattle.salefile.specs.FileContents.{contents_of}
use Rattle.salefile.specs.Files.{Accepted, Refused}
use Rattle.salefile.specs.Refusals.{refusal}
use Rattle.salefile.proofs.read.read.Goals as goal

pub returns-in_err-fill : goal.returns-in_err-fill
returns-in_err-fill c =
    let p = err_from_is_err_and c.from_residual-in_err-fill.result c.from_residual-in_err-fill.ensures.1 in
    let f = c.in_err-fill.field-0.0 in
    rw (p.1, p.2) (subst (λ n. Refused c.args.file.now n (refusal f).0 (refusal f).1) (c.in_ok-draft.ensures.0 ∙ c.min.ensures) c.in_err-fill.ensures)

pub returns : goal.returns
returns c = subst (λ n. Accepted c.args.file.now n (contents_of c.in_ok-fill.field-0)) (c.in_ok-draft.ensures.0 ∙ c.min.ensures) c.in_ok-fill.ensures
