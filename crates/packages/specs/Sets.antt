-- Sets of lots in words, and that the questions of specs/Lots and specs/Nest decide what the words say.
--   Has, Within, Disjoint  a set has a lot; is a part of another; shares no lot with another
--   Shares                 two sets have a lot in common
--   Fits                   a set is non-empty, and all its lots lie from 1 to n
--   Stands                 one set stands to another as a relation says
--   Exact                  the answers of fits_in, within, apart and relation_of are right for every finite set of lots
--   TrueAnswers            two answers, about a set and about its relation to another, are the true ones
use Rattle.std.specs.Prelude.{◌≡◌, ℕ, ◌≤◌, Bool, true, false, ◌≢◌, ◌↔◌}
use Rattle.packages.specs.declared.relation.Relation.{Relation}
use Rattle.packages.specs.declared.relation.Relation.TheVariants.{Equal, Inside, Around, Apart, Crossing}
use Rattle.packages.specs.Lots.{Lots, has, within, apart, fits_in}
use Rattle.packages.specs.Nest.{relation_of}

abbrev pub Has : Lots → ℕ → Type 0
Has s k = has s k ≡ true

abbrev pub Within : Lots → Lots → Type 0
Within s t = (k : ℕ) → Has s k → Has t k

-- no shared lot
abbrev pub Disjoint : Lots → Lots → Type 0
Disjoint s t = (k : ℕ) → Has s k → Has t k → ⊥

abbrev pub Shares : Lots → Lots → Type 0
Shares s t = (k : ℕ) × Has s k × Has t k

-- non-empty, with all its lots from 1 to n
abbrev pub Fits : ℕ → Lots → Type 0
Fits n s = ((k : ℕ) × Has s k) × ((k : ℕ) → Has s k → (1 ≤ k) × (k ≤ n))

-- s stands to t as the relation says, and no earlier relation holds
abbrev pub Stands : Lots → Lots → Relation → Type 0
Stands s t Equal = Within s t × Within t s
Stands s t Inside = Within s t × (Within t s → ⊥)
Stands s t Around = (Within s t → ⊥) × Within t s
Stands s t Apart = (Within s t → ⊥) × (Within t s → ⊥) × Disjoint s t
Stands s t Crossing = (Within s t → ⊥) × (Within t s → ⊥) × (Disjoint s t → ⊥)

-- the tests are right, for every finite set of lots
pub record Exact : Type 0 where
  pub fits : (n : ℕ) (s : Lots) → fits_in n s ≡ true → Fits n s
  pub fits_not : (n : ℕ) (s : Lots) → fits_in n s ≡ false → Fits n s → ⊥
  pub part : (s t : Lots) → (within s t ≡ true) ↔ Within s t
  pub shareless : (s t : Lots) → (apart s t ≡ true) ↔ Disjoint s t
  pub stands : (s t : Lots) → Stands s t (relation_of s t)
  pub only : (s t : Lots) (r : Relation) → Stands s t r → r ≡ relation_of s t

-- What a kind of package may answer for a set s: whether it fits among n lots, and how it stands to a set t.
-- So no kind turns away a non-empty set within the lots, and none calls two sets apart that share a lot.
pub record TrueAnswers (n : ℕ) (s t : Lots) (fits : Bool) (relation : Relation) : Type 0 where
  pub accepted : Fits n s → fits ≡ true
  pub refused : (Fits n s → ⊥) → fits ≡ false
  pub stands : Stands s t relation
  pub not_apart : Shares s t → relation ≢ Apart
  pub is_apart : Fits n s → Fits n t → (Shares s t → ⊥) → relation ≡ Apart
