use Rattle.std.proofs.Common.{◌≡◌, ◌==◌, ◌+◌, position, Ok, Err, Result, Option, None, MatchResult, rules, tests, sym, ap, ◌∙◌, subst}
use Rattle.std.specs.Option.{ok_or}
use Rattle.std.specs.Result.{IsErrAnd}
use Rattle.std.proofs.lemmas.Iterator.{YieldsList-from_slice}
use Rattle.std.proofs.lemmas.Iterator.Search.{position_from_yields_List}
use Rattle.std.proofs.lemmas.Result.{err_from_is_err_and}
use Rattle.lines.proofs.Rowing.{Rest, next_unended, next_bad, next_line}
use Rattle.lines.proofs.reader.LineReader.next.Goals as goal
use Rattle.lines.proofs.reader.LineReader.next.Goals.{After-position, After-trimmed}

-- what a result was before `map_err`
ok_before : {T D E : Type 0} (r : Result T D) (s : Result T E) (P : T → Type 0) (Q : D → Type 0) (K : D → E → Type 0) (x : T) → MatchResult r P Q → MatchResult r (λ y. s ≡ Ok y) (λ d. IsErrAnd s (K d)) → s ≡ Ok x → P x
ok_before (Ok y) s P Q K x h m e = let same : y ≡ x = cc in subst P same h
ok_before (Err d) s P Q K x h m e = absurd (subst (λ r. IsErrAnd r (K d)) e m)

err_before : {T D E : Type 0} (r : Result T D) (s : Result T E) (P : T → Type 0) (Q : D → Type 0) (K : D → E → Type 0) (e : E) → MatchResult r P Q → MatchResult r (λ y. s ≡ Ok y) (λ d. IsErrAnd s (K d)) → s ≡ Err e → (d : D) × Q d × K d e
err_before (Ok y) s P Q K e h m is = cc
err_before (Err d) s P Q K e h m is = (d, h, subst (λ r. IsErrAnd r (K d)) is m)

-- the error that `ok_or` gives
error_of_none : {T E : Type 0} (o : Option T) (e d : E) → Err e ≡ ok_or o d → o ≡ None → e ≡ d
error_of_none o e d h n = let given : ok_or o d ≡ Err d = ap (λ p. ok_or p d) n in cc

found : (c : After-position) → c.position.result ≡ position (λ y. y == 10) (Rest c.args.self.now.file.now c.args.self.now.at)
found c =
    position_from_yields_List (λ y. y == 10) _ _ c.position.result c.position.ensures.ran (YieldsList-from_slice (Rest c.args.self.now.file.now c.args.self.now.at) cc) (λ x b q k. search (rules, tests))

pub returns-in_err-length-clause-next : goal.returns-in_err-length-clause-next
returns-in_err-length-clause-next c =
    let s = c.args.self.now in
    let at = sym (found (goal.at.returns-in_err-length-clause-next c).After-position) ∙ c.in_err-length.ensures.ok_part in
    let e = err_from_is_err_and c.from_residual.result c.from_residual.ensures.1 in
    let line : c.in_err-length.field-0.0 ≡ record { line = s.number + 1 } = error_of_none c.position.result _ _ c.in_err-length.ensures.value c.in_err-length.ensures.ok_part in
    rw (e.1, e.2, line) (next_unended s.file.now s.number s.at (search rules) at)

pub returns-in_err-line-clause-next : goal.returns-in_err-line-clause-next
returns-in_err-line-clause-next c =
    let s = c.args.self.now in
    let at = sym (found (goal.at.returns-in_err-line-clause-next c).After-position) ∙ c.in_ok-length.ensures.ok_part in
    let e = err_from_is_err_and c.from_residual-in_err-line.result c.from_residual-in_err-line.ensures.1 in
    let h = err_before c.parse.result c.map_err.result _ _ _ _ c.parse.ensures c.map_err.ensures.cases c.in_err-line.was in
    let line : c.in_err-line.field-0.0 ≡ record { line = s.number + 1 } = search (rules, h.2) in
    rw (e.1, e.2, line) (next_bad s.file.now s.number s.at c.in_ok-length.length at c.trimmed.result.now c.trimmed.ensures h.1)

pub returns-clause-next : goal.returns-clause-next
returns-clause-next c =
    let s = c.args.self.now in
    let at = sym (found (goal.at.returns-clause-next c).After-position) ∙ c.in_ok-length.ensures.ok_part in
    let h = ok_before c.parse.result c.map_err.result _ _ _ _ c.parse.ensures c.map_err.ensures.cases c.in_ok-line.was in
    next_line s.file.now s.number s.at c.in_ok-length.length at c.trimmed.result.now c.trimmed.ensures c.in_ok-line.line h.0 h.1
