use Rattle.std.proofs.Common.{refl}
use Rattle.std.proofs.Math.Decide.{dec_lt}
use Rattle.packages.specs.Lots.{has, all, count, empty, within, apart, fits_in}
use Rattle.packages.specs.Nest.{relation_of}
use Rattle.scales.specs.Best.{insert, sorted}
use Rattle.lines.specs.Decode.{upto, past, decoded, same_bytes, all_digits, is_numeral, is_proper, kind, legible}
use Rattle.salefile.specs.Reading.{some_is, walk, from_first, reading}
use Rattle.books.specs.Worked.{WorkedFiles}
use Rattle.books.specs.Examples.{WorkedOut}
use Rattle.books.proofs.laws.worked_sales.Goals as goal

files : WorkedFiles
unfolding upto past decoded same_bytes all_digits is_numeral is_proper kind legible some_is walk from_first reading
files = record { answered = refl; crowded = refl; written_down = refl }

sales : WorkedOut
unfolding has all count empty within apart fits_in relation_of insert sorted dec_lt
sales =
    record {
      sales = (
        record { winning = refl; answer = refl; charges = refl; revenue = refl; sets = refl; ways = refl; top = refl },
        (
          record { winning = refl; answer = refl; charges = refl; revenue = refl; sets = refl; ways = refl; top = refl },
          (
            record { winning = refl; answer = refl; charges = refl; revenue = refl; sets = refl; ways = refl; top = refl },
            (
              record { winning = refl; answer = refl; charges = refl; revenue = refl; sets = refl; ways = refl; top = refl },
              (
                record { winning = refl; answer = refl; charges = refl; revenue = refl; sets = refl; ways = refl; top = refl },
                (record { winning = refl; answer = refl; charges = refl; revenue = refl; sets = refl; ways = refl; top = refl }, tt),
              ),
            ),
          ),
        ),
      );
      gains = refl;
      masks = refl;
      greatest_count = refl;
    }

pub returns : goal.returns
unfolding has all empty within apart fits_in relation_of
returns c = record { sales = sales; runs = refl; files = files }
