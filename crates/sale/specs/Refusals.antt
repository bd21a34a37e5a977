-- The number and the place of each refusal, and the answer that a result gives.
--   permit_refusal, lodge_refusal, withdraw_refusal   the number and the place of each case
--   reply                                             the answer of a call, from its result
--   load_refusal, load_reply                          the same of load; want of memory has neither number nor answer
use Rattle.std.specs.Prelude.{ℕ, Some, Ok, Err, Option, Result}
use Rattle.std.specs.Option.{option_map}
use Rattle.salefile.specs.Refusals.{read_refusal}
use Rattle.books.specs.Book.{Answer, accepted, refused, conflict_refusal}
use Rattle.sale.specs.declared.fault.PermitFault.{PermitFault}
use Rattle.sale.specs.declared.fault.PermitFault.TheVariants.{DoesNotFit, NoSpace, Conflict}
use Rattle.sale.specs.declared.fault.LodgeFault.{LodgeFault}
use Rattle.sale.specs.declared.fault.LodgeFault.TheVariants.{NotBuyer, NotPrice, NoPackage, Full}
use Rattle.sale.specs.declared.fault.LoadFault.{LoadFault}
use Rattle.sale.specs.declared.fault.LoadFault.TheVariants.{NotEmpty, Read}
use Rattle.sale.specs.declared.fault.WithdrawFault.{WithdrawFault}
use Rattle.sale.specs.declared.fault.WithdrawFault.TheVariants.{NoBid, AlreadyWithdrawn}

abbrev pub permit_refusal : PermitFault → ℕ × ℕ
permit_refusal DoesNotFit = (11, 0)
permit_refusal NoSpace = (24, 0)
permit_refusal (Conflict c) = conflict_refusal c

abbrev pub lodge_refusal : LodgeFault → ℕ × ℕ
lodge_refusal NotBuyer = (12, 0)
lodge_refusal NotPrice = (13, 0)
lodge_refusal NoPackage = (28, 0)
lodge_refusal Full = (29, 0)

abbrev pub withdraw_refusal : WithdrawFault → ℕ × ℕ
withdraw_refusal NoBid = (30, 0)
withdraw_refusal AlreadyWithdrawn = (31, 0)

abbrev pub reply : {E : Type 0} → (E → ℕ × ℕ) → Result ℕ E → Answer
reply refusal (Ok n) = accepted n
reply refusal (Err e) = refused (refusal e)

abbrev pub load_refusal : LoadFault → Option (ℕ × ℕ)
load_refusal NotEmpty = Some (21, 0)
load_refusal (Read f) = read_refusal f

abbrev pub load_reply : Result ℕ LoadFault → Option Answer
load_reply (Ok n) = Some (accepted n)
load_reply (Err f) = option_map refused (load_refusal f)
