-- Finite sets of lots, as data, and questions about them that compute.
--   Lots                              a finite set of lots
--   has                               whether a lot is in a set
--   all, count                        whether each, and how many, of the numbers 0 to n pass a test
--   empty, within, apart              whether a set is empty, is a part of another, shares no lot with another
--   fits_in                           whether a set is non-empty and lies within the lots 1 to n
--   size_of                           how many lots a set has
--   highest_run_lot, highest_mask_lot the highest lot that a run and a mask can have
--   run_lots, mask_lots               the lots that a run and a mask mean
--   digit                             a binary digit of a number
-- specs/Sets says in words what has, within, apart and fits_in decide.
use Rattle.std.specs.Prelude.{ℕ, zero, suc, ◌+◌, ◌-◌, ◌/◌, ◌%◌, ◌^◌, min, Bool, cond, not, ◌&&◌, ◌||◌, ◌==◌, nat_le}

-- A finite set of lots: the numbers up to top that pass the test.
pub record Lots : Type 0 where
  pub top : ℕ
  pub test : ℕ → Bool

unfoldable pub has : Lots → ℕ → Bool
has s k = nat_le k s.top && s.test k

-- whether each of the numbers 0 to n passes
unfoldable pub all : (ℕ → Bool) → ℕ → Bool
all f zero = f zero
all f (suc n) = f (suc n) && all f n

-- how many of the numbers 0 to n pass
unfoldable pub count : (ℕ → Bool) → ℕ → ℕ
count f zero = cond (f zero) 1 0
count f (suc n) = cond (f (suc n)) 1 0 + count f n

unfoldable pub empty : Lots → Bool
empty s = all (λ k. not (has s k)) s.top

-- each lot of s is one of t
unfoldable pub within : Lots → Lots → Bool
within s t = all (λ k. not (has s k) || has t k) s.top

-- no lot is in both
unfoldable pub apart : Lots → Lots → Bool
apart s t = all (λ k. not (has s k && has t k)) s.top

-- s is not empty, and its lots lie from 1 to n
unfoldable pub fits_in : ℕ → Lots → Bool
fits_in n s = not (empty s) && all (λ k. not (has s k) || (nat_le 1 k && nat_le k n)) s.top

unfoldable pub size_of : Lots → ℕ
size_of s = count (has s) s.top

abbrev pub highest_run_lot : ℕ
highest_run_lot = 65535

abbrev pub highest_mask_lot : ℕ
highest_mask_lot = 64

-- The lots from first to last. The two are any numbers here, and those of a run have 16 bits: the bound changes no run, and makes the highest lot a law for all numbers.
abbrev pub run_lots : ℕ → ℕ → Lots
run_lots first last = record { top = min last highest_run_lot; test = nat_le first }

-- the binary digit of value 2 ^ i
abbrev pub digit : ℕ → ℕ → ℕ
digit i n = n / 2 ^ i % 2

-- lot k is the digit of value 2 ^ (k - 1); a mask has 64 digits
abbrev pub mask_lots : ℕ → Lots
mask_lots bits = record { top = highest_mask_lot; test = λ k. nat_le 1 k && (digit (k - 1) bits == 1) }
