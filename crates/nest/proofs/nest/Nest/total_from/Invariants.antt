use Rattle.std.proofs.Common.{◌≡◌, ℕ, List, ◌++◌, length, drop, Option, vec_len, vec_items}
use Rattle.bids.specs.declared.bid.Bid.{Bid}
use Rattle.nest.specs.Choosing.{worth_by}
use Rattle.nest.specs.Asking.{Answers}
use Rattle.nest.proofs.Turning.{Passed}
use Rattle.nest.proofs.nest.Nest.total_from.Given as goal

-- The iterator has the packages that are still to do.
abbrev pub invariant-loop-g : goal.invariant-loop-g
invariant-loop-g g l =
    let s = g.S.Scale in
    let left = l.g-iterator.iter.iter.rest.now in
    record {
      numbered : l.g-iterator.iter.count ≡ 0;
      done : (after : List (Option ℕ)) × (left ++ after ≡ vec_items l.self.parents);
      pass : (at : ℕ → Bid → _) → Answers s.meaning (goal.F-post g l.fn.worth) (vec_items l.self.bids) at
          → Passed s.meaning s.ring l.self (worth_by s.meaning at (vec_items l.self.bids)) l.work l.result (length left);
      further : drop (vec_len l.self.parents) l.work ≡ drop (vec_len l.self.parents) l.fn.work;
    }
