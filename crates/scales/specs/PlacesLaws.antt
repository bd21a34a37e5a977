-- An amount in front of a list means the same when it is cut.
use Rattle.std.specs.Prelude.{ℕ, ◌+◌, min, List, Some, None, Option}
use Rattle.std.proofs.Common.{ap}
use Rattle.std.specs.Option.{option_map}
use Rattle.scales.specs.Best.{total}
use Rattle.scales.specs.BestLaws.{Same, same_refl}
use Rattle.scales.specs.Places.{in_front}

pub cut_same : {k limit : ℕ} (o : Option ℕ) (xs : List ℕ) → Same k limit (in_front (option_map (min limit) o) xs) (in_front o xs)
cut_same None xs = same_refl
cut_same {k} (Some x) xs = record { sums = λ g γ. ap (λ n. min k (n + total g xs)) (γ.cuts x) }
