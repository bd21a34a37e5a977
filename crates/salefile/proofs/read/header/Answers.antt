use Rattle.std.proofs.Common.{◌≡◌, [], ◌∷◌, Ok, ap, ◌∙◌, subst, rules}
use Rattle.lines.specs.declared.line.Line.TheVariants.{Header}
use Rattle.lines.specs.Reader.{kind_of}
use Rattle.salefile.specs.Draft.{Reached}
use Rattle.salefile.proofs.Reading.{line_shown, refuse_first, sound_first}
use Rattle.salefile.proofs.read.header.Goals as goal
use Rattle.salefile.proofs.read.header.Goals.{in-Header, in_default-matches}

pub returns-in-Ok-Some : goal.returns-in-Ok-Some
returns-in-Ok-Some c file space h fits =
    let is : c.in-Ok-Some.first.line ≡ Header = elim c.match-matches.branch [ in-Header w ↦ w.in-Header.is | in_default-matches w ↦ cc ] in
    let w = line_shown c.next.new.self h c.next.ensures.same (c.in-Ok-Some.is ∙ ap Ok c.in-Ok-Some.field-0-is) c.next.ensures.next in
    (subst (λ k. Reached file (k ∷ []) c.next.new.self) (ap kind_of is) w.reached, sound_first space)

pub returns-in_default : goal.returns-in_default
returns-in_default c file space h fits =
    refuse_first space c.next.new.self fits h c.next.ensures.same c.next.result c.next.ensures.next
    (λ n is head. elim c.match-matches.branch [ in-Header w ↦ cc | in_default-matches w ↦ search rules ])

pub returns-in_default-2 : goal.returns-in_default-2
returns-in_default-2 c file space h fits = refuse_first space c.next.new.self fits h c.next.ensures.same c.next.result c.next.ensures.next (λ n is head. search rules)

pub returns-in_default-3 : goal.returns-in_default-3
returns-in_default-3 c file space h fits = refuse_first space c.next.new.self fits h c.next.ensures.same c.next.result c.next.ensures.next (λ n is head. search rules)
