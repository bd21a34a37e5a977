use Rattle.std.proofs.Common.{refl, arith}
use Rattle.salefile.proofs.Runs.{same_run, other_run}
use Rattle.salefile.proofs.Steps.{top, nothing_open, lots_inside, close_top, again, afresh}
use Rattle.salefile.proofs.Checks.{clear_close, reject_close_none, reject_no_lots, reject_same_lots}
use Rattle.salefile.proofs.draft.Draft.close.Goals as goal

pub returns-in_default : goal.returns-in_default
returns-in_default c ks h e = reject_close_none _ ks h.begun h.going _ e (nothing_open h (omega (arith, c.in_default.ensures.cases.0)))

pub returns-then-run : goal.returns-then-run
returns-then-run c ks h e =
    let t = top h _ _ c.in-Some.ensures.items in
    reject_no_lots _ ks h.begun h.going _ t.0 t.1 e t.2 (omega (arith, lots_inside h t.0 t.1 t.2, t.3.2))

pub returns-then-contains : goal.returns-then-contains
returns-then-contains c ks h e =
    let t = top h _ _ c.in-Some.ensures.items in
    let l = lots_inside h t.0 t.1 t.2 in
    let f = c.if-contains.ensures.cases in
    reject_same_lots _ ks h.begun h.going _ t.0 t.1 e t.2 (omega (arith, t.3.2))
    (again h t.0 t.1 t.2 _ c.deref.ensures.value _ t.3.0 _ t.3.2 refl f.0 f.1 (λ d. same_run _ _ (f.2 d)))

pub returns : goal.returns
returns c ks h e =
    let t = top h _ _ c.in-Some.ensures.items in
    let l = lots_inside h t.0 t.1 t.2 in
    let f = c.if-contains.ensures.cases in (
      clear_close _ ks h.begun h.going t.0 t.1 t.2 (omega (arith, t.3.2)) (afresh h t.0 t.1 t.2 _ c.deref.ensures.value _ t.3.0 _ t.3.2 refl (λ m d lt. other_run _ _ (f m d (omega arith) lt))),
      close_top h _ _ c.in-Some.ensures.items,
      refl,
    )
