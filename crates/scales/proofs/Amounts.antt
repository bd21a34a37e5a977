-- Amounts that may be missing: the greater of two, and both added, before and after they are cut.
use Rattle.std.proofs.Common.{◌≡◌, ℕ, ◌+◌, min, max, Some, None, Option, refl, ap, ◌∙◌, arith}
use Rattle.std.specs.Option.{option_map, option_cmp}
use Rattle.std.specs.Ordering.{nat_cmp, ord_max}
use Rattle.std.proofs.lemmas.Grind.{common_steps}
use Rattle.scales.specs.Adjoined.{add_some, mul_both, adjoined}
use Rattle.scales.specs.Cut.{cut}
use Rattle.scales.specs.Numbers.{upto_path}
use Rattle.scales.specs.Revenue.{greatest}

-- the greater of two, none being below every amount
max_some : (a b : Option ℕ) → ord_max (option_cmp nat_cmp) a b ≡ add_some max a b
max_some None None = refl
max_some None (Some y) = refl
max_some (Some x) None = refl
max_some (Some x) (Some y) = grind (arith, common_steps)

-- amounts may be cut after they are compared or added

pub cut_max : (limit : ℕ) (a b : Option ℕ) → option_map (cut limit) (ord_max (option_cmp nat_cmp) a b) ≡ (adjoined (greatest limit)).add (option_map (cut limit) a) (option_map (cut limit) b)
cut_max limit a b = ap (option_map (cut limit)) (max_some a b) ∙ go a b
  where
    go : (a b : Option ℕ) → option_map (cut limit) (add_some max a b) ≡ (adjoined (greatest limit)).add (option_map (cut limit) a) (option_map (cut limit) b)
    go None b = refl
    go (Some x) None = refl
    go (Some x) (Some y) = ap Some (upto_path _ _ (omega arith))

pub cut_together : (limit : ℕ) (a b : Option ℕ) → option_map (cut limit) (mul_both (λ x y. min limit (x + y)) a b) ≡ (adjoined (greatest limit)).mul (option_map (cut limit) a) (option_map (cut limit) b)
cut_together limit None b = refl
cut_together limit (Some x) None = refl
cut_together limit (Some x) (Some y) = ap Some (upto_path _ _ (omega arith))
