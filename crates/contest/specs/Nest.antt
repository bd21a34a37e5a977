-- A nest of packages, each with a parent of a lower number, 0 above the outermost.
--   Falling            every parent has a lower number
--   inside, related    one package is another or lies inside it, either way round
--   Nested             bids on the packages of a nest, which clash as their packages are related
--   contest_inside     the contest of the bids on a package and inside it
--   children, own, part   the packages next below one, the sum of a package's own worths, and its total
--   Splits             a package's total comes from those of its children, and the grand total from the outermost
use Rattle.std.specs.Prelude.{◌≡◌, ℕ, zero, suc, pred, ◌<◌, ◌≤◌, Bool, ◌&&◌, ◌||◌, List, ◌==◌, nat_eq}
use Rattle.scales.specs.Semiring.{Semiring, Laws}
use Rattle.contest.specs.Contest.{Contest, Numbered, only}
use Rattle.contest.specs.Total.{from, keep, sum_by, product_by, total_by}

-- Every parent has a lower number.
abbrev pub Falling : (ℕ → ℕ) → Type 0
Falling parent = (g : ℕ) → parent g ≤ pred g

-- From h at most `steps` steps up to a parent lead to g.
abbrev pub reaches : (ℕ → ℕ) → ℕ → ℕ → ℕ → Bool
reaches parent zero g h = h == g
reaches parent (suc steps) g h = h == g || reaches parent steps g (parent h)

-- Package h is g or lies inside g.
abbrev pub inside : (ℕ → ℕ) → ℕ → ℕ → Bool
inside parent g h = reaches parent h g h

-- One is the other, or lies inside it.
abbrev pub related : (ℕ → ℕ) → ℕ → ℕ → Bool
related parent g h = inside parent g h || inside parent h g

-- Bids lie on packages 1 to `count`, and two different ones clash exactly when their packages are related.
pub record Nested (c : Contest) (parent on : ℕ → ℕ) (count : ℕ) : Type 0 where
  pub falls : Falling parent
  pub placed : (k : ℕ) → Numbered c k → (1 ≤ on k) × (on k ≤ count)
  pub clashes : (j k : ℕ) → Numbered c j → Numbered c k → j < k → c.clash j k ≡ related parent (on j) (on k)

-- The contest of the bids on package g and on packages inside g.
abbrev pub contest_inside : Contest → (ℕ → ℕ) → (ℕ → ℕ) → ℕ → Contest
contest_inside c on parent g = only c (λ k. inside parent g (on k))

-- The children of package g; those of 0 are the outermost packages.
abbrev pub children : (ℕ → ℕ) → ℕ → ℕ → List ℕ
children parent count g = keep (λ c. nat_eq (parent c) g) (from 1 count)

module _ {M : Type 0} (r : Semiring M) (c : Contest) (on : ℕ → ℕ) (w : ℕ → M) where
  -- the sum of the worths of the standing bids on package g
  abbrev pub own : ℕ → M
  own g = sum_by r w (keep (λ b. c.stands b && on b == g) (from 1 c.count))

  -- the total over bids on package g and packages inside g only
  abbrev pub part : (ℕ → ℕ) → ℕ → M
  part parent g = total_by r (contest_inside c on parent g) w

-- In a nest a package's total is the product over its children and the sum of its own worths, the grand total is the product over the outermost packages,
-- and the totals of the packages are the only values with these equations.
abbrev pub Splits : {M : Type 0} → Semiring M → Type 0
Splits {M} r =
    Laws r → (c : Contest) (parent on : ℕ → ℕ) (count : ℕ) → Nested c parent on count → (w : ℕ → M) →
    ((g : ℕ) → part r c on w parent g ≡ r.add (product_by r (part r c on w parent) (children parent count g)) (own r c on w g))
    × (total_by r c w ≡ product_by r (part r c on w parent) (children parent count 0))
    × ((T : ℕ → M) → ((g : ℕ) → 1 ≤ g → g ≤ count → T g ≡ r.add (product_by r T (children parent count g)) (own r c on w g)) → (g : ℕ) → 1 ≤ g → g ≤ count → T g ≡ part r c on w parent g)
