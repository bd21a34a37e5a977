use Rattle.std.proofs.Common.{◌+◌, [], ◌∷◌, ◌++◌, Ok, ap, ◌∙◌, subst}
use Rattle.std.proofs.lemmas.Result.{err_from_is_err_and}
use Rattle.lines.specs.Reader.{kind_of}
use Rattle.salefile.specs.Files.{BeginsWith, Clear, Fails, order, line, over, illegible}
use Rattle.salefile.specs.Draft.{Reached, RefusedBy}
use Rattle.salefile.proofs.Reading.{Shown, line_shown, over_shown, illegible_shown, refuse, few_lots, not_ending, sound_more}
use Rattle.salefile.proofs.Checks.{reject_illegible, reject_over}
use Rattle.salefile.proofs.read.body.Goals as goal
use Rattle.salefile.proofs.read.body.Goals.{In-Some}

pub returns-in_err-next : goal.returns-in_err-next
returns-in_err-next c =
    let i = c.loop-next.invariant in
    let p = err_from_is_err_and c.from_residual.result c.from_residual.ensures.1 in
    let w = illegible_shown c.next.new.self i.reached c.next.ensures.same c.in_err-next.was c.next.ensures.next in
    rw (p.1, p.2) (refuse i illegible 3 _ w.0 (reject_illegible _ i.lines i.keeps.begun i.keeps.going _ w.1))

pub returns : goal.returns
returns c =
    let i = c.loop-next.invariant in
    let w = over_shown c.next.new.self i.reached c.next.ensures.same (c.in_ok-next.was ∙ ap Ok c.in_default.is) c.next.ensures.next in
    refuse i over 9 _ w.0 (reject_over _ i.lines i.keeps.begun i.keeps.going _ (ap (λ n. n + 1) (c.lines_read.ensures ∙ w.1)))

-- the line that the reader gave
shown : (c : In-Some) → Shown c.args.lines.now.file.now c.loop-next.invariant.lines c.in-Some.next c.loop-next.lines c.next.new.self
shown c = line_shown c.next.new.self c.loop-next.invariant.reached c.next.ensures.same (c.in_ok-next.was ∙ ap Ok c.in-Some.is) c.next.ensures.next

pub returns-in-End : goal.returns-in-End
returns-in-End c =
    let i = c.loop-next.invariant in
    let w = shown (goal.at.returns-in-End c).In-Some in
    record {
      fits = i.fits;
      lines = i.lines;
      reached = subst (λ k. Reached c.args.lines.now.file.now (i.lines ++ (k ∷ [])) c.next.new.self) (ap kind_of c.in-End.is) w.reached;
      shows = subst (λ k. BeginsWith c.args.lines.now.file.now i.lines (line k)) (ap kind_of c.in-End.is) w.shows;
      keeps = i.keeps;
      sound = i.sound;
    }

pub add-requires : goal.add-requires
add-requires c = few_lots c.loop-next.invariant

pub loop-next-preserved : goal.loop-next-preserved
loop-next-preserved c =
    let i = c.loop-next.invariant in
    let w = shown (goal.at.loop-next-preserved c).In-Some in
    let t = c.in_ok-add.ensures (not_ending c.in-Some.next.line c.in_default-line.not-End) i.lines i.keeps w.numbered in
    record {
      fits = i.fits;
      spaced = t.2 ∙ i.spaced;
      lines = i.lines ++ (kind_of c.in-Some.next.line ∷ []);
      reached = w.reached;
      keeps = t.1;
      sound = sound_more c.args.draft.now.space i.lines (kind_of c.in-Some.next.line) i.sound (subst (λ n. Clear (Fails n i.lines (line (kind_of c.in-Some.next.line))) order) i.spaced t.0);
    }

pub returns-in_err-add : goal.returns-in_err-add
returns-in_err-add c =
    let i = c.loop-next.invariant in
    let w = shown (goal.at.returns-in_err-add c).In-Some in
    let p = err_from_is_err_and c.from_residual-in_err-add.result c.from_residual-in_err-add.ensures.1 in
    let t = c.in_err-add.ensures (not_ending c.in-Some.next.line c.in_default-line.not-End) i.lines i.keeps w.numbered in
    rw (p.1, p.2) (refuse i (line (kind_of c.in-Some.next.line)) _ _ w.shows (subst (λ n. RefusedBy n i.lines (line (kind_of c.in-Some.next.line)) c.in_err-add.field-0.0) i.spaced t))
