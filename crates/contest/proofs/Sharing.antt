-- In a nest of sets, to share a lot is to lie one inside the other.
use Rattle.std.proofs.Common.{◌≡◌, ℕ, zero, suc, ◌<◌, ◌≤◌, Bool, true, sym, ap, ◌∙◌, subst, ⊎_elim, arith}
use Rattle.std.proofs.lemmas.Bool.{or_cases, or_left, or_right, cases_eq, cases_order}
use Rattle.contest.specs.Nest.{inside, related}
use Rattle.contest.specs.Lots.{Within, Share, NestOfSets, NestIsSets}
use Rattle.contest.proofs.Nesting.{inside_self, inside_up, inside_parent, inside_le, inside_cases}

-- sets of lots in words
module _ (has : ℕ → ℕ → Bool) (count : ℕ) (parent : ℕ → ℕ) (nest : NestOfSets has count parent) where
  -- what lies inside in the nest has only lots of what is around it
  inside_within : (fuel g h : ℕ) → h ≤ fuel → h ≤ count → 1 ≤ g → inside parent g h ≡ true → Within has h g
  inside_within zero g h low high pos e = absurd (omega (arith, inside_le parent nest.falls g h e))
  inside_within (suc fuel) g h low high pos e =
      ⊎_elim (λ s k f. subst (λ x. has x k ≡ true) s f)
      (λ u k f. inside_within fuel g (parent h) (omega (arith, nest.falls h)) (omega (arith, nest.falls h)) pos u k
      (nest.around h high (omega (arith, inside_le parent nest.falls g (parent h) u)) k f))
      (inside_cases parent nest.falls g h e)

  -- an earlier package that is around h as a set is so in the nest
  within_inside : (fuel g h : ℕ) → h ≤ fuel → 1 ≤ g → g < h → h ≤ count → Within has h g → inside parent g h ≡ true
  within_inside zero g h low pos ord high sub = absurd (omega arith)
  within_inside (suc fuel) g h low pos ord high sub =
      let above : g ≤ parent h = nest.last g h pos ord high sub in
      let lot = nest.filled h (omega arith) high in
      let down : parent h < h = omega (arith, nest.falls h) in
      ⊎_elim (λ s. inside_parent parent nest.falls g h (sym s))
      (λ ns. inside_up parent nest.falls g h (within_inside fuel g (parent h) (omega arith) pos (omega arith) (omega arith)
      (nest.nested g (parent h) pos (omega arith) (omega arith) (lot.0, sub lot.0 lot.1, nest.around h high (omega arith) lot.0 lot.1))))
      (cases_eq g (parent h))

  module _ (g h : ℕ) (pg : 1 ≤ g) (hg : g ≤ count) (ph : 1 ≤ h) (hh : h ≤ count) where
    same_inside : g ≡ h → inside parent g h ≡ true
    same_inside s = ap (inside parent g) (sym s) ∙ inside_self parent nest.falls g

    held : Within has h g → inside parent g h ≡ true
    held sub =
        ⊎_elim same_inside
        (⊎_elim (λ lt. within_inside h g h (omega arith) pg lt hh sub) (λ gt. absurd (nest.proper h g ph gt hg sub)))
        (cases_order g h)

    shared : Share has g h → related parent g h ≡ true
    shared both =
        ⊎_elim (λ s. or_left _ _ (same_inside s))
        (⊎_elim (λ lt. or_left _ _ (within_inside h g h (omega arith) pg lt hh (nest.nested g h pg lt hh both)))
        (λ gt. or_right _ _ (within_inside g h g (omega arith) ph gt hg (nest.nested h g ph gt hg (both.0, both.2, both.1)))))
        (cases_order g h)

    sharing_of : related parent g h ≡ true → Share has g h
    sharing_of e =
        ⊎_elim
        (λ a. let lot = nest.filled h ph hh in (lot.0, inside_within h g h (omega arith) hh pg a lot.0 lot.1, lot.1))
        (λ a. let lot = nest.filled g pg hg in (lot.0, lot.1, inside_within g h g (omega arith) hg ph a lot.0 lot.1))
        (or_cases _ _ e)

pub nest_is_sets : NestIsSets
nest_is_sets has count parent nest g h pg hg ph hh = (
  (inside_within has count parent nest h g h (omega arith) hh pg, held has count parent nest g h pg hg ph hh),
  (sharing_of has count parent nest g h pg hg ph hh, shared has count parent nest g h pg hg ph hh),
)
