-- The lesser of two bid numbers.
use Rattle.std.specs.Prelude.{◌≡◌, refl}
use Rattle.std.proofs.Common.{ap, arith}
use Rattle.scales.specs.Adjoined.{CoreLaws}
use Rattle.scales.specs.Lowest.{First, no_bid, bid, lesser, firsts}

lesser_comm : (a b : First) → lesser a b ≡ lesser b a
lesser_comm no_bid no_bid = refl
lesser_comm no_bid (bid n) = refl
lesser_comm (bid m) no_bid = refl
lesser_comm (bid m) (bid n) = ap bid (omega arith)

lesser_assoc : (a b c : First) → lesser (lesser a b) c ≡ lesser a (lesser b c)
lesser_assoc no_bid b c = refl
lesser_assoc (bid l) no_bid c = refl
lesser_assoc (bid l) (bid m) no_bid = refl
lesser_assoc (bid l) (bid m) (bid n) = ap bid (omega arith)

-- the lesser of each with one and the same
lesser_each : (a b c : First) → lesser a (lesser b c) ≡ lesser (lesser a b) (lesser a c)
lesser_each no_bid b c = refl
lesser_each (bid l) no_bid no_bid = ap bid (omega arith)
lesser_each (bid l) no_bid (bid n) = ap bid (omega arith)
lesser_each (bid l) (bid m) no_bid = ap bid (omega arith)
lesser_each (bid l) (bid m) (bid n) = ap bid (omega arith)

pub firsts_laws : CoreLaws firsts
firsts_laws = record {
  add_comm = lesser_comm;
  add_assoc = lesser_assoc;
  mul_comm = lesser_comm;
  mul_assoc = lesser_assoc;
  mul_unit = λ a. refl;
  distrib = lesser_each;
}
