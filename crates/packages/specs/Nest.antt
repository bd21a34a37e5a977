-- How sets of lots stand to one another, and the place of a set after others, numbered from 1.
--   relation_of, first_true       the first relation that is true of one set against another
--   objection, conflict_from      what one earlier package, and the lowest that objects, has against a set
--   container, innermost_from     a package if the set is inside it, and the last such package
--   settle, place_of              the place of a set: the lowest conflict, or else the innermost container or none
-- specs/Places says in words what a place is.
use Rattle.std.specs.Prelude.{ℕ, suc, Bool, cond, ◌&&◌, List, [], ◌∷◌, Some, None, Ok, Err, Option, Result}
use Rattle.std.specs.Option.{option_or}
use Rattle.packages.specs.declared.relation.Relation.{Relation}
use Rattle.packages.specs.declared.relation.Relation.TheVariants.{Equal, Inside, Around, Apart, Crossing}
use Rattle.packages.specs.declared.place.Conflict.{Conflict}
use Rattle.packages.specs.declared.place.Conflict.TheVariants as conflict
use Rattle.packages.specs.Lots.{Lots, within, apart}

-- the first that is true of a set that is, or is not, a part of another, contains it, and shares no lot with it
abbrev pub first_true : Bool → Bool → Bool → Relation
first_true inner outer disjoint = cond (inner && outer) Equal (cond inner Inside (cond outer Around (cond disjoint Apart Crossing)))

unfoldable pub relation_of : Lots → Lots → Relation
relation_of s t = first_true (within s t) (within t s) (apart s t)

-- what an earlier package, numbered n, has against a new one
abbrev pub objection : Relation → ℕ → Option Conflict
objection Equal n = Some (conflict.Equal n)
objection Inside n = None
objection Around n = Some (conflict.Around n)
objection Apart n = None
objection Crossing n = Some (conflict.Crossing n)

-- the lowest of the packages ts, numbered from n, that s may not stand beside
abbrev pub conflict_from : ℕ → Lots → List Lots → Option Conflict
conflict_from n s [] = None
conflict_from n s (t ∷ ts) = option_or (objection (relation_of s t) n) (conflict_from (suc n) s ts)

-- package n, if the new one is inside it
abbrev pub container : Relation → ℕ → Option ℕ
container Equal n = None
container Inside n = Some n
container Around n = None
container Apart n = None
container Crossing n = None

-- The last of the packages ts, numbered from n, that s is inside. In a nest with containers first it is the innermost.
abbrev pub innermost_from : ℕ → Lots → List Lots → Option ℕ
innermost_from n s [] = None
innermost_from n s (t ∷ ts) = option_or (innermost_from (suc n) s ts) (container (relation_of s t) n)

-- a conflict comes first
abbrev pub settle : Option Conflict → Option ℕ → Result (Option ℕ) Conflict
settle None inner = Ok inner
settle (Some c) inner = Err c

-- the place of s after the packages ts
unfoldable pub place_of : Lots → List Lots → Result (Option ℕ) Conflict
place_of s ts = settle (conflict_from 1 s ts) (innermost_from 1 s ts)
