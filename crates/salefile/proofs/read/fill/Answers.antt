use Rattle.std.proofs.Common.{◌≤◌, [], ◌∷◌, ◌++◌, length, Err, subst, arith}
use Rattle.std.proofs.lemmas.Result.{err_from_is_err_and}
use Rattle.lines.specs.Kinds.{header, ending}
use Rattle.salefile.specs.Limits.{max_bytes}
use Rattle.salefile.specs.Files.{Outcome, Sound}
use Rattle.salefile.specs.FileContents.{contents_of}
use Rattle.salefile.specs.Draft.{Reached, Ending}
use Rattle.salefile.proofs.Reading.{start, loading, refuse_end, refuse_after, accept}
use Rattle.salefile.proofs.read.fill.Goals as goal
use Rattle.salefile.proofs.read.fill.Goals.{After-new-lines, In_ok-header, In_ok-body}

-- the reader at the start of the file
at_start : (c : After-new-lines) → Reached c.args.file.now [] c.new-lines.result
at_start c = let e = c.new-lines.ensures in start c.args.file.now c.new-lines.result e.0 e.1 e.2

small : (c : After-new-lines) → length c.args.file.now ≤ max_bytes
small c = omega arith

-- after the header
begun : (c : In_ok-header) → Reached c.args.file.now (header ∷ []) c.header.new.lines × Sound c.args.draft.space (header ∷ [])
begun c = let a = (goal.at.In_ok-header c).After-new-lines in c.in_ok-header.ensures c.args.file.now c.args.draft.space (at_start a) (small a)

pub body-requires : goal.body-requires
body-requires c =
    let b = begun (goal.at.body-requires c).In_ok-header in
    loading c.args.file.now c.header.new.lines c.args.draft (small (goal.at.body-requires c).After-new-lines) b.0 b.1 c.requires

pub returns-in_err-header : goal.returns-in_err-header
returns-in_err-header c =
    let a = (goal.at.returns-in_err-header c).After-new-lines in
    let p = err_from_is_err_and c.from_residual.result c.from_residual.ensures.1 in
    rw (p.1, p.2) (c.in_err-header.ensures c.args.file.now c.args.draft.space (at_start a) (small a))

pub returns-in_err-body : goal.returns-in_err-body
returns-in_err-body c =
    let b = begun (goal.at.returns-in_err-body c).In_ok-header in
    let p = err_from_is_err_and c.from_residual-in_err-body.result c.from_residual-in_err-body.ensures.1 in
    rw (p.1, p.2) (subst (λ f. Outcome f c.args.draft.space (Err c.in_err-body.field-0.0)) b.0.same c.in_err-body.ensures)

-- after the end
ended : (c : In_ok-body) → Ending c.args.file.now c.args.draft.space c.body.new.lines c.body.new.draft
ended c =
    let b = begun (goal.at.In_ok-body c).In_ok-header in
    subst (λ f. Ending f c.args.draft.space c.body.new.lines c.body.new.draft) b.0.same c.in_ok-body.ensures

pub returns-in_err-contents : goal.returns-in_err-contents
returns-in_err-contents c =
    let e = ended (goal.at.returns-in_err-contents c).In_ok-body in
    let p = err_from_is_err_and c.from_residual-in_err-contents.result c.from_residual-in_err-contents.ensures.1 in
    rw (p.1, p.2) (refuse_end e c.in_err-contents.field-0.0 (c.in_err-contents.ensures e.lines e.keeps c.args.draft.space))

pub returns-in_err-over : goal.returns-in_err-over
returns-in_err-over c =
    let e = ended (goal.at.returns-in_err-over c).In_ok-body in
    let f = c.in_ok-contents.ensures e.lines e.keeps in
    let o = c.in_err-over.ensures c.args.file.now (e.lines ++ (ending ∷ [])) e.reached in
    let p = err_from_is_err_and c.from_residual-in_err-over.result c.from_residual-in_err-over.ensures.1 in
    rw (p.1, p.2) (refuse_after e f.0 o.0 c.in_err-over.field-0.0 o.1 o.2 o.3)

pub returns : goal.returns
returns c =
    let e = ended (goal.at.returns c).In_ok-body in
    let f = c.in_ok-contents.ensures e.lines e.keeps in
    let o = c.in_ok-over.ensures c.args.file.now (e.lines ++ (ending ∷ [])) e.reached in
    accept e (contents_of c.in_ok-contents.contents) f.0 o f.1
