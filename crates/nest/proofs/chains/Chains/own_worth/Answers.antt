use Rattle.std.proofs.Common.{◌≡◌, ◌+◌, ◌-◌, ◌<◌, ◌≤◌, length, get_or, vec_items, sym, ap, ◌∙◌, subst, arith}
use Rattle.bids.specs.Bids.{no_bid}
use Rattle.contest.proofs.Listing.{get_d_any}
use Rattle.nest.specs.Chains.{bids_on, last_on}
use Rattle.nest.specs.Choosing.{worth_by}
use Rattle.nest.proofs.Chaining.{last_le, last_is, chain_start, chain_step, chain_next, chained_all}
use Rattle.nest.proofs.chains.Chains.own_worth.Goals as goal

pub loop-number-init : goal.loop-number-init
loop-number-init g c =
    let s = g.S.Scale in
    let bids = vec_items c.args.self.now.nest.now.bids in
    let p = c.args.place + 1 in
    let n = length bids in
    let here : c.args.place ≡ p - 1 = omega arith in
    let e : c.from-number.result ≡ last_on bids p n =
    c.from-number.ensures ∙ ap (λ k. get_or c.args.self.now.last k 0) here ∙ (chained_all c.args.self.now.nest.now c.args.self.now.chained).lasts p (omega arith) (omega (arith, c.requires.within)) in
    record {
      few = omega (arith, e, last_le bids p n);
      on_it = λ pos. ap (bids_on bids p) e ∙ last_is bids p n (omega (arith, e, pos));
      sums = λ at answers. chain_start g.met.S.Scale.laws (worth_by s.meaning at bids) bids p n _ _ e c.nought-sum.ensures;
    }

pub loop-number-smaller : goal.loop-number-smaller
loop-number-smaller g c =
    let bids = vec_items c.args.self.now.nest.now.bids in
    let p = c.args.place + 1 in
    let k = c.loop-number.number in
    let inv = c.loop-number.invariant in
    let pos : 1 ≤ k = omega (arith, c.loop-number-test.true) in
    let e = c.from-number-in-loop-number.ensures ∙ chain_next _ bids _ _ _ (chained_all c.args.self.now.nest.now c.args.self.now.chained) p k pos inv.few (inv.on_it pos) in
    omega (arith, e, last_le bids p (k - 1), pos)

pub loop-number-preserved : goal.loop-number-preserved
loop-number-preserved g c =
    let s = g.S.Scale in
    let bids = vec_items c.args.self.now.nest.now.bids in
    let p = c.args.place + 1 in
    let k = c.loop-number.number in
    let inv = c.loop-number.invariant in
    let pos : 1 ≤ k = omega (arith, c.loop-number-test.true) in
    let on = inv.on_it pos in
    let e = c.from-number-in-loop-number.ensures ∙ chain_next _ bids _ _ _ (chained_all c.args.self.now.nest.now c.args.self.now.chained) p k pos inv.few on in
    let low : k - 1 < length bids = omega (arith, pos, inv.few) in
    let next : k - 1 + 1 ≡ k = omega arith in
    record {
      few = omega (arith, e, last_le bids p (k - 1), inv.few);
      on_it = λ more. ap (bids_on bids p) e ∙ last_is bids p (k - 1) (omega (arith, e, more));
      sums = λ at answers.
          let asked = subst (λ b. goal.F-post g c.args.worth.now k b c.worth.result) (c.index.ensures ∙ get_d_any bids (k - 1) _ no_bid low) c.worth.ensures in
          let worth = answers (k - 1) _ low (subst (λ m. goal.F-post g c.args.worth.now m (get_or bids (k - 1) no_bid) c.worth.result) (sym next) asked) ∙ ap (λ m. s.meaning (at m (get_or bids (k - 1) no_bid))) next in
          chain_step g.met.S.Scale.laws (worth_by s.meaning at bids) bids p k _ _ _ _ pos on e
          (c.sum-sum.ensures ∙ ap (s.ring.add (s.meaning c.loop-number.sum)) worth) (inv.sums at answers);
    }
