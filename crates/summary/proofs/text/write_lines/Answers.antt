use Rattle.std.proofs.Common.{Ok, refl}
use Rattle.std.proofs.lemmas.List.{take_all}
use Rattle.summary.proofs.Texts.{line_more}
use Rattle.summary.proofs.text.write_lines.Goals as goal

pub loop-value-preserved : goal.loop-value-preserved
loop-value-preserved g c line shows plain =
    line_more g.W.Write.write_str_gives g.D.Display.output line shows c.args.values.now c.loop-value.value-index _
    c.loop-value-test.true c.value-item.is _ _ _ (Ok tt) refl (c.loop-value.invariant line shows plain) c.in_ok-writeln.ensures.writes

pub returns : goal.returns
returns g c line shows plain ok = let all = take_all _ _ c.loop-value-test.false in rw all at (c.loop-value.invariant line shows plain)
