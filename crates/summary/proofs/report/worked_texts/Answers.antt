use Rattle.std.proofs.Common.{refl}
use Rattle.std.proofs.Math.Decide.{dec_lt}
use Rattle.std.specs.Fmt.{digits}
use Rattle.scales.specs.Best.{insert, sorted}
use Rattle.packages.specs.Lots.{has, all, empty, within, apart, fits_in}
use Rattle.lines.specs.Decode.{upto, past, decoded, same_bytes, all_digits, is_numeral, is_proper, kind, legible}
use Rattle.salefile.specs.Reading.{some_is, walk, from_first, reading}
use Rattle.summary.proofs.report.worked_texts.Goals as goal

pub returns : goal.returns
unfolding digits dec_lt insert sorted has all empty within apart fits_in upto past decoded same_bytes all_digits is_numeral is_proper kind legible some_is walk from_first reading
returns c = record { report = refl; refusal = refl }
