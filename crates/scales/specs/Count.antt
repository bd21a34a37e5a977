-- Count: whole numbers up to 999,999,999, added and multiplied.
--   counting     numbers up to any limit, added and multiplied, each result cut at the limit
--   Counts       the meanings of Count
--   counts       their nought, unit, sum and product
--   count_of     what a value means
--   count_worth  every price is worth 1
--   no_count     the value 0
use Rattle.std.specs.Prelude.{ℕ, ◌+◌, ◌*◌}
use Rattle.scales.specs.Cut.{Upto, cut, top_count}
use Rattle.scales.specs.Semiring.{Semiring}
use Rattle.scales.specs.declared.count.Count.{Count}

abbrev pub counting : (limit : ℕ) → Semiring (Upto limit)
counting limit = record {
  nought = cut limit 0;
  unit = cut limit 1;
  add = λ a b. cut limit (a.number + b.number);
  mul = λ a b. cut limit (a.number * b.number);
}

abbrev pub Counts : Type 0
Counts = Upto top_count

abbrev pub counts : Semiring Counts
counts = counting top_count

abbrev pub count_of : Count → Counts
count_of c = cut top_count c.number

abbrev pub count_worth : ℕ → Count
count_worth price = record { number = 1 }

abbrev pub no_count : Count
no_count = record { number = 0 }
