use Rattle.std.proofs.Common.{map, vec_items, refl}
use Rattle.std.proofs.Output.{has_written_of_eq}
use Rattle.scales.specs.Places.{somes}
use Rattle.summary.specs.Text.{revenue_line, winner_line, payment_line, ways_line, top_line}
use Rattle.summary.proofs.Texts.{then_put, parts_joined}
use Rattle.summary.proofs.text.SummaryDisplay.fmt.Goals as goal

pub returns-clause-writes : goal.returns-clause-writes
returns-clause-writes g c plain ok =
    let s = c.args.self.now in
    let revenue = c.in_ok-writeln.ensures.writes plain refl in
    let winners = rw c.as_slice.ensures.value at (c.in_ok-write_lines.ensures winner_line (λ _. refl) revenue.plain refl) in
    let payments = rw c.as_slice-2.ensures.value at (c.in_ok-write_lines-2.ensures payment_line (λ _. refl) winners.plain refl) in
    let ways = c.in_ok-writeln-2.ensures.writes payments.plain refl in
    let top = c.in_ok-write_top.ensures ways.plain refl in
    let end = c.write_str.ensures.writes top.plain ok in
    let all = then_put (then_put (then_put (then_put (then_put revenue winners) payments) ways) top) end in
    has_written_of_eq g.W.Write.write_str_gives _ _ _ _
    (parts_joined (revenue_line s.revenue) (ways_line s.ways) (top_line (somes s.top)) (map winner_line (vec_items s.winners)) (map payment_line (vec_items s.payments)))
    all
