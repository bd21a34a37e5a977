use Rattle.std.proofs.Common.{◌≡◌, ◌+◌, ◌-◌, ◌<◌, length, get_or, vec_len, ap, ◌∙◌, arith, rules}
use Rattle.std.proofs.lemmas.Bool.{cond-true, eq-eqb, le-leb}
use Rattle.std.proofs.lemmas.List.{get_or_read}
use Rattle.nest.proofs.Reading.{total_weighed, worth_list}
use Rattle.nest.proofs.nest.Nest.total.Goals as goal

pub returns : goal.returns
returns g c =
    let s = g.S.Scale in
    let n = c.args.self.now in
    let xs = c.args.worths.now in
    let many : length xs ≡ vec_len n.bids = omega arith in (
      cond-true _ _ _ (eq-eqb _ _ many) ∙ cond-true _ _ _ (le-leb (vec_len n.parents) (length c.args.work.now) (omega arith)),
      total_weighed n g.met.S.Scale.laws s.meaning _ _ _ _ _ (λ k low high. worth_list s.ring s.meaning xs s.zero k low (omega (arith, many, high, n.bids.ok.0)))
          (c.total_from.ensures (λ k _. get_or xs (k - 1) s.zero) (λ i worth low answer. let within : i + 1 - 1 < length xs = omega (arith, many, low, n.bids.ok.0) in let read : worth ≡ get_or xs (i + 1 - 1) worth = search rules in ap s.meaning (get_or_read xs _ worth within read s.zero))),
    )
