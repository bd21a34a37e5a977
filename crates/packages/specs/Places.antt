-- The place of a set after others, in words. Packages are numbered from 1.
--   no_lots              the empty set, which stands past the end of the packages
--   package_at, Numbered the package with a number; that there is one
--   Beside               a set may stand beside a package: it is inside it or apart from it
--   Lowest               the lowest package that a set may not stand beside
--   Placed               what an answer of the search says, for any list of packages
--   PlaceRight           place_of answers so, for all sets
--   ContainersFirst      the packages are a nest, and a package comes before those inside it
--   InnermostContainer   the innermost package around a set
--   NamesContainer       an answer of the search names the innermost package around a set
--   ContainerRight       it does so in a nest, for a set that is not empty
--   NestGrows            an accepted set joins the nest
use Rattle.std.specs.Prelude.{◌≡◌, ℕ, ◌-◌, ◌<◌, ◌≤◌, false, ◌⊎◌, List, [], ◌∷◌, ◌++◌, length, Some, None, Ok, Err, Option, Result, ◌≢◌, slice_index_or}
use Rattle.packages.specs.declared.relation.Relation.{Relation}
use Rattle.packages.specs.declared.relation.Relation.TheVariants.{Equal, Inside, Around, Apart, Crossing}
use Rattle.packages.specs.declared.place.Conflict.{Conflict}
use Rattle.packages.specs.declared.place.Conflict.TheVariants as conflict
use Rattle.packages.specs.Lots.{Lots}
use Rattle.packages.specs.Sets.{Has, Stands}
use Rattle.packages.specs.Nest.{place_of}

abbrev pub no_lots : Lots
no_lots = record { top = 0; test = λ k. false }

abbrev pub package_at : List Lots → ℕ → Lots
package_at ts g = slice_index_or ts (g - 1) no_lots

abbrev pub Numbered : List Lots → ℕ → Type 0
Numbered ts g = (1 ≤ g) × (g ≤ length ts)

-- s may stand beside package g: it is inside it or apart from it
abbrev pub Beside : Lots → List Lots → ℕ → Type 0
Beside s ts g = Stands s (package_at ts g) Inside ⊎ Stands s (package_at ts g) Apart

-- g is the lowest package that s may not stand beside, and s stands to it as r says
abbrev pub Lowest : Lots → List Lots → Relation → ℕ → Type 0
Lowest s ts r g = Numbered ts g × Stands s (package_at ts g) r × ((f : ℕ) → 1 ≤ f → f < g → Beside s ts f)

-- A conflict names the lowest package that s is equal to, crosses or is around, with which of the three it is.
-- Otherwise s is inside or apart from each package: the answer is the last one that it is inside, or none if it is apart from all.
abbrev pub Placed : Lots → List Lots → Result (Option ℕ) Conflict → Type 0
Placed s ts (Ok None) = (g : ℕ) → Numbered ts g → Stands s (package_at ts g) Apart
Placed s ts (Ok (Some f)) =
    Numbered ts f × Stands s (package_at ts f) Inside × ((g : ℕ) → Numbered ts g → Beside s ts g)
    × ((g : ℕ) → Numbered ts g → f < g → Stands s (package_at ts g) Apart)
Placed s ts (Err (conflict.Equal g)) = Lowest s ts Equal g
Placed s ts (Err (conflict.Crossing g)) = Lowest s ts Crossing g
Placed s ts (Err (conflict.Around g)) = Lowest s ts Around g

abbrev pub PlaceRight : Type 0
PlaceRight = (s : Lots) (ts : List Lots) → Placed s ts (place_of s ts)

-- no two packages are equal or cross, and one that contains another has the lower number
pub record ContainersFirst (ts : List Lots) : Type 0 where
  pub different : (f g : ℕ) → Numbered ts f → Numbered ts g → Stands (package_at ts f) (package_at ts g) Equal → f ≡ g
  pub uncrossed : (f g : ℕ) → Numbered ts f → Numbered ts g → Stands (package_at ts f) (package_at ts g) Crossing → ⊥
  pub lower : (f g : ℕ) → Numbered ts f → Numbered ts g → Stands (package_at ts f) (package_at ts g) Around → f < g

-- s is inside package f, which is inside every other package that s is inside
abbrev pub InnermostContainer : Lots → List Lots → ℕ → Type 0
InnermostContainer s ts f =
    Numbered ts f × Stands s (package_at ts f) Inside
    × ((g : ℕ) → Numbered ts g → Stands s (package_at ts g) Inside → (g ≢ f) → Stands (package_at ts f) (package_at ts g) Inside)

-- an accepting answer names the innermost package around s, or none where no package is around it
abbrev pub NamesContainer : Lots → List Lots → Result (Option ℕ) Conflict → Type 0
NamesContainer s ts (Ok None) = (g : ℕ) → Numbered ts g → Stands s (package_at ts g) Inside → ⊥
NamesContainer s ts (Ok (Some f)) = InnermostContainer s ts f
NamesContainer s ts (Err c) = Unit {0}

-- so in a nest with containers first, for a set that is not empty
abbrev pub ContainerRight : Lots → List Lots → Result (Option ℕ) Conflict → Type 0
ContainerRight s ts answer = ((k : ℕ) × Has s k) → ContainersFirst ts → NamesContainer s ts answer

-- a nest with containers first is one again with an accepted set as its next package
abbrev pub NestGrows : Lots → List Lots → Result (Option ℕ) Conflict → Type 0
NestGrows s ts (Ok inner) = ContainersFirst ts → ContainersFirst (ts ++ (s ∷ []))
NestGrows s ts (Err c) = Unit {0}
