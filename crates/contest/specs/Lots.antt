-- Packages as sets of lots, and the nest that they form.
--   Within, Share   each lot of a package is one of another, and two packages share a lot
--   NestOfSets      no package is empty or crosses another, containing packages come first, and the parent is the innermost around
--   NestIsSets      to lie inside in the nest is to lie inside as a set, and to be related is to share a lot
use Rattle.std.specs.Prelude.{◌≡◌, ℕ, ◌<◌, ◌≤◌, Bool, true, ◌↔◌}
use Rattle.contest.specs.Nest.{Falling, inside, related}

-- `has g k` says whether package g has lot k.
module _ (has : ℕ → ℕ → Bool) where
  -- each lot of h is one of g
  abbrev pub Within : ℕ → ℕ → Type 0
  Within h g = (k : ℕ) → has h k ≡ true → has g k ≡ true

  abbrev pub Share : ℕ → ℕ → Type 0
  Share g h = (k : ℕ) × (has g k ≡ true) × (has h k ≡ true)

  -- Packages 1 to `count` are not empty, each lies properly inside or apart from every earlier one, and the parent of a package is the last earlier one around it.
  pub record NestOfSets (count : ℕ) (parent : ℕ → ℕ) : Type 0 where
    pub falls : Falling parent
    pub filled : (g : ℕ) → 1 ≤ g → g ≤ count → (k : ℕ) × (has g k ≡ true)
    pub nested : (g h : ℕ) → 1 ≤ g → g < h → h ≤ count → Share g h → Within h g
    pub proper : (g h : ℕ) → 1 ≤ g → g < h → h ≤ count → Within g h → ⊥
    pub around : (h : ℕ) → h ≤ count → 1 ≤ parent h → Within h (parent h)
    pub last : (g h : ℕ) → 1 ≤ g → g < h → h ≤ count → Within h g → g ≤ parent h

abbrev pub NestIsSets : Type 0
NestIsSets =
    (has : ℕ → ℕ → Bool) (count : ℕ) (parent : ℕ → ℕ) → NestOfSets has count parent → (g h : ℕ) → 1 ≤ g → g ≤ count → 1 ≤ h → h ≤ count →
    ((inside parent g h ≡ true) ↔ Within has h g) × ((related parent g h ≡ true) ↔ Share has g h)
