-- The number and the place of each refusal of a file.
--   refusal        a fault's number, and the line that is its place
--   read_refusal   the same of what reading answers; want of memory has no number
use Rattle.std.specs.Prelude.{ℕ, Some, None, Option}
use Rattle.salefile.specs.declared.fault.Fault.{Fault}
use Rattle.salefile.specs.declared.fault.Fault.TheVariants.{TooLong, NoHeader, BadLine, OutOfRange, NoneOpen, NoLots, SameLots, Unclosed, NoEnd, AfterEnd, NoSpace, TooManyBids}
use Rattle.salefile.specs.declared.fault.ReadFault.{ReadFault}
use Rattle.salefile.specs.declared.fault.ReadFault.TheVariants.{NoMemory, File}

abbrev pub refusal : Fault → ℕ × ℕ
refusal TooLong = (1, 0)
refusal NoHeader = (2, 1)
refusal (BadLine u) = (3, u.line)
refusal (OutOfRange l) = (4, l)
refusal (NoneOpen l) = (5, l)
refusal (NoLots l) = (6, l)
refusal (SameLots l) = (7, l)
refusal (Unclosed l) = (8, l)
refusal (NoEnd l) = (9, l)
refusal (AfterEnd l) = (10, l)
refusal (NoSpace l) = (22, l)
refusal (TooManyBids l) = (23, l)

abbrev pub read_refusal : ReadFault → Option (ℕ × ℕ)
read_refusal NoMemory = None
read_refusal (File f) = Some (refusal f)
