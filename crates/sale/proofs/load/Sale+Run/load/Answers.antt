use Rattle.std.proofs.Common.{◌≡◌, min, ◌++◌, length, drop, Err, vec_items, vec_len, sym, ap, ◌∙◌, subst, arith}
use Rattle.std.proofs.lemmas.Result.{err_from_is_err_and}
use Rattle.bids.specs.Limits.{max_packages}
use Rattle.salefile.specs.FileContents.{contents_of}
use Rattle.salefile.specs.Files.{Accepted, ReadOutcome}
use Rattle.salefile.proofs.Order.{all_orderly}
use Rattle.books.proofs.Loaded.{all_standing}
use Rattle.sale.proofs.TakingUp.{load_accepted, load_failed}
use Rattle.sale.proofs.load.Sale+Run.load.Goals as goal
use Rattle.sale.proofs.load.Sale+Run.load.Goals.{In_ok-contents}

pub returns-in_err-contents-clause-rules : goal.returns-in_err-contents-clause-rules
returns-in_err-contents-clause-rules c =
    let p = err_from_is_err_and c.from_residual.result c.from_residual.ensures.1 in
    let f = c.in_err-contents.field-0.0 in
    let outcome = subst (λ n. ReadOutcome c.args.file.now (min max_packages n) (Err f)) c.len-2.ensures c.in_err-contents.ensures in
    rw (p.1, p.2) (load_failed c.args.self.now c.args.file.now (omega arith) (omega arith) (omega arith) f outcome)

-- the file is accepted
accepted_so : (c : In_ok-contents) → Accepted c.args.file.now (min max_packages (vec_len c.args.self.now.table)) (contents_of c.in_ok-contents.contents)
accepted_so c =
    subst (λ n. Accepted c.args.file.now (min max_packages n) (contents_of c.in_ok-contents.contents)) c.len-2.ensures c.in_ok-contents.ensures

pub take_up-requires-clause-orderly : goal.take_up-requires-clause-orderly
take_up-requires-clause-orderly c =
    all_orderly c.args.file.now _ (contents_of c.in_ok-contents.contents) (accepted_so (goal.at.take_up-requires-clause-orderly c).In_ok-contents)

pub take_up-requires-clause-standing : goal.take_up-requires-clause-standing
take_up-requires-clause-standing c =
    all_standing c.args.file.now _ (contents_of c.in_ok-contents.contents) (accepted_so (goal.at.take_up-requires-clause-standing c).In_ok-contents)

pub returns-clause-rules : goal.returns-clause-rules
returns-clause-rules c h held =
    let contents = c.in_ok-contents.contents in
    let count : length (vec_items contents.bids) ≡ c.len-3.result = sym contents.bids.ok.0 ∙ sym c.len-3.ensures in
    load_accepted c.args.self.now h held c.args.file.now (omega arith) (omega arith) (omega arith) c.take_up.new.self (contents_of contents) c.len-3.result (accepted_so (goal.at.returns-clause-rules c).In_ok-contents) count c.take_up.ensures.holds

pub returns-clause-table : goal.returns-clause-table
returns-clause-table c =
    let sale = c.args.self.now in
    let contents = c.in_ok-contents.contents in (
      contents_of contents,
      subst (λ n. Accepted c.args.file.now (min max_packages n) (contents_of contents)) sale.table.ok.0 (accepted_so (goal.at.returns-clause-table c).In_ok-contents),
      c.take_up.ensures.table ∙ ap (λ n. vec_items contents.packages ++ drop n (vec_items sale.table)) contents.packages.ok.0,
    )
