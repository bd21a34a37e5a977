use Rattle.std.proofs.Common.{refl, ap, ⊎_elim}
use Rattle.lines.specs.Reader.{kind_of}
use Rattle.salefile.proofs.Steps.{kept_lot, kept_remark}
use Rattle.salefile.proofs.Checks.{clear_lot, clear_remark, reject_header}
use Rattle.salefile.proofs.draft.Draft.add.Goals as goal

pub returns-in-Lot : goal.returns-in-Lot
returns-in-Lot c body ks h e = rw c.in-Lot.is (clear_lot _ ks h.begun h.going, kept_lot h, refl)

pub returns-in-Remark : goal.returns-in-Remark
returns-in-Remark c body ks h e = rw c.in-Remark.is (clear_remark _ ks h.begun h.going _, kept_remark h _, refl)

pub returns-in-Header : goal.returns-in-Header
returns-in-Header c body ks h e =
    ⊎_elim
    (λ z. rw z (reject_header _ ks h.begun h.going c.args.next.number e))
    (λ z. absurd (body (ap kind_of z)))
    c.in-Header.is
