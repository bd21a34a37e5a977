use Rattle.std.proofs.Common.{◌≡◌, vec_items, rules, tests}
use Rattle.std.proofs.lemmas.Iterator.{cases_from_any, YieldsList-from_slice}
use Rattle.bids.specs.declared.bid.Bid.{Bid}
use Rattle.nest.proofs.Summing.{buyer_found}
use Rattle.nest.proofs.nest.Nest.has_bid.Goals as goal

pub returns : goal.returns
returns c =
    let b = c.args.buyer in
    buyer_found c.args.self.now b c.any.result
    (cases_from_any _ _ _ (λ (x : Bid). x.buyer ≡ b) (λ (x : Bid). x.buyer ≡ b → ⊥) c.any.ensures.ran (YieldsList-from_slice (vec_items c.args.self.now.bids) cc) (λ x q k. search (rules, tests)) (λ x q k. search (rules, tests)))
