use Rattle.std.proofs.Common.{sym, arith}
use Rattle.packages.specs.Masks.{mask_size}
use Rattle.packages.proofs.mask.MaskPackage.size.Goals as goal

pub returns : goal.returns
returns c = sym (mask_size c.args.self.now.bits (omega arith))
