use Rattle.std.proofs.Common.{◌+◌, ap, ◌∙◌, rules}
use Rattle.salefile.specs.declared.fault.Fault.TheVariants.{AfterEnd}
use Rattle.salefile.proofs.Reading.{seen_more}
use Rattle.salefile.proofs.read.over.Goals as goal

pub returns-in_default : goal.returns-in_default
returns-in_default c file ks h =
    let seen = seen_more c.next.new.self h c.next.ensures.same c.next.result c.next.ensures.next (λ e. search rules) in
    (seen.0, seen.1, seen.2, ap (λ n. AfterEnd (n + 1)) (c.lines_read-line.ensures ∙ h.counted))
