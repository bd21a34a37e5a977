-- The innermost package around a new one is an earlier one.
use Rattle.std.proofs.Common.{◌≡◌, ℕ, true, List, length, Some, None, Option, refl, arith}
use Rattle.bids.proofs.Ranges.{from_between}
use Rattle.packages.specs.Lots.{Lots}
use Rattle.packages.specs.Nest.{innermost_from}
use Rattle.packages.specs.Places.{no_lots}
use Rattle.packages.proofs.Nests.{innermost_is}
use Rattle.nest.specs.Placed.{up_to}

pub innermost_up_to : (s : Lots) (ts : List Lots) (n : ℕ) (o : Option ℕ) → innermost_from 1 s ts ≡ o → length ts ≡ n → up_to n o ≡ true
innermost_up_to s ts n None e l = refl
innermost_up_to s ts n (Some f) e l =
    let t = innermost_is 1 s ts no_lots f e in
    from_between 1 n f (omega (arith, t.number), omega (arith, t.number, t.short))
