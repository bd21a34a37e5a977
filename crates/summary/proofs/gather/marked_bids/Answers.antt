use Rattle.std.proofs.Common.{◌≡◌, ℕ, ◌+◌, eqb, vec_items, IfOk, ◌∙◌, rules}
use Rattle.std.proofs.lemmas.Iterator.{YieldsList-from_slice, YieldsList-from_zip, YieldsList-from_map, items_from_collect}
use Rattle.std.proofs.lemmas.Iterator.Consumers.{YieldsList-at, YieldsList-from_enumerate, YieldsList-from_filter}
use Rattle.std.proofs.lemmas.Result.{IfOk-weaker}
use Rattle.bids.specs.declared.bid.Bid.{Bid}
use borrow.Author.Tests.{tests}
use Rattle.summary.proofs.Listing.{winner, marked_winners, winners_marked}
use Rattle.summary.proofs.gather.marked_bids.Goals as goal

pub returns : goal.returns
returns c =
    let bids = c.args.bids.now in
    let marks = c.args.marks.now in
    let listed : IfOk c.collect.result (λ v. vec_items v ≡ marked_winners 0 bids marks) =
    items_from_collect _ c.collect.ensures.ran
    (YieldsList-from_map _ (λ (q : ℕ × (Bid × ℕ)). winner (q.0 + 1) q.1.0)
    (YieldsList-at c.map.ensures.source
    (YieldsList-from_filter _ (λ (q : ℕ × (Bid × ℕ)). eqb q.1.1 1)
    (YieldsList-at c.filter.ensures.source
    (YieldsList-from_enumerate
    (YieldsList-at c.enumerate.ensures.source
    (YieldsList-from_zip
    (YieldsList-from_slice bids (cc))
    (YieldsList-from_slice marks (cc))))
    (cc)))
    c.filter.ensures.closure
    (λ x r q k. search (rules, tests))))
    c.map.ensures.closure
    (λ x r q k. search (rules, tests)))
    in
    IfOk-weaker c.collect.result _ _ (λ v is contest m. is ∙ winners_marked contest bids marks m) listed
