use Rattle.std.proofs.Common.{◌≡◌, ℕ, ◌+◌, ◌≤◌, true, length, vec_items}
use Rattle.contest.proofs.Listing.{sum_front}
use Rattle.bids.specs.declared.bid.Bid.{Bid}
use Rattle.nest.specs.Asking.{Answers}
use Rattle.nest.specs.Chains.{bids_on}
use Rattle.nest.specs.Choosing.{worth_by}
use Rattle.nest.proofs.chains.Chains.own_worth.Given as goal

-- What is summed up, and the bids still down the chain, make the whole sum.
abbrev pub invariant-loop-number : goal.invariant-loop-number
invariant-loop-number g l =
    let s = g.S.Scale in
    let bids = vec_items l.self.nest.now.bids in
    let on = bids_on bids (l.place + 1) in record {
      few : l.number ≤ length bids;
      on_it : 1 ≤ l.number → on l.number ≡ true;
      sums : (at : ℕ → Bid → _) → Answers s.meaning (goal.F-post g l.worth) bids at
          → s.ring.add (sum_front s.ring (worth_by s.meaning at bids) on l.number) (s.meaning l.sum) ≡ sum_front s.ring (worth_by s.meaning at bids) on (length bids);
    }

abbrev pub decreases-loop-number : goal.decreases-loop-number
decreases-loop-number g l = l.number
