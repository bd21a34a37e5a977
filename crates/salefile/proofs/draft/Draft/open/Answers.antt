use Rattle.std.proofs.Common.{◌+◌, refl, ap, arith}
use Rattle.salefile.proofs.Steps.{open_top}
use Rattle.salefile.proofs.Checks.{clear_open, reject_open}
use Rattle.salefile.proofs.draft.Draft.open.Goals as goal

pub returns-then-package-self : goal.returns-then-package-self
returns-then-package-self c ks h e = reject_open _ ks h.begun h.going _ e (omega (arith, h.packaged.many))

pub returns : goal.returns
returns c ks h e = (
  clear_open _ ks h.begun h.going (omega (arith, h.packaged.many)),
  open_top h _ _ _ _ c.push_reserved.ensures.items c.push_reserved-2.ensures.items (omega (arith, h.packaged.many), e, ap (λ n. n + 1) h.lot_count),
  refl,
)
