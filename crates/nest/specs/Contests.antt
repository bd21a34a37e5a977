-- The contest of the bids on a nest of packages.
--   above, parent_in      the number of a package's parent, 0 above the outermost packages
--   on_in, stands_in      the package of a bid, and whether it stands
--   buyer_in, price_in    its buyer and its price
--   nest_contest          the contest of a list of bids, where the packages' parents are known
--   nest_inside           the contest of the bids on a package and on packages inside it only
--   contest_of_nest       the contest of what a nest keeps
--   contest_inside_nest   the contest inside one of its packages
use Rattle.std.specs.Prelude.{ℕ, zero, suc, Bool, not, List, length, Some, None, vec_items, Option, slice_index_or}
use Rattle.bids.specs.declared.bid.Bid.{Bid}
use Rattle.bids.specs.Bids.{bid_at}
use Rattle.contest.specs.Contest.{Contest}
use Rattle.contest.specs.Nest.{related, contest_inside}
use Rattle.nest.specs.declared.nest.Nest.{Nest}

abbrev pub above : Option ℕ → ℕ
above None = 0
above (Some f) = f

abbrev pub parent_in : List (Option ℕ) → ℕ → ℕ
parent_in ps zero = 0
parent_in ps (suc g) = above (slice_index_or ps g None)

abbrev pub on_in : List Bid → ℕ → ℕ
on_in bids n = (bid_at bids n).«package»

abbrev pub buyer_in : List Bid → ℕ → ℕ
buyer_in bids n = (bid_at bids n).buyer

abbrev pub price_in : List Bid → ℕ → ℕ
price_in bids n = (bid_at bids n).price

abbrev pub stands_in : List Bid → ℕ → Bool
stands_in bids n = not (bid_at bids n).withdrawn

-- Two bids clash when the package of one is that of the other or lies inside it.
abbrev pub nest_contest : List (Option ℕ) → List Bid → Contest
nest_contest ps bids =
    record {
      count = length bids;
      buyer = buyer_in bids;
      price = price_in bids;
      stands = stands_in bids;
      clash = λ m n. related (parent_in ps) (on_in bids m) (on_in bids n);
    }

abbrev pub nest_inside : List (Option ℕ) → List Bid → ℕ → Contest
nest_inside ps bids g = contest_inside (nest_contest ps bids) (on_in bids) (parent_in ps) g

abbrev pub contest_of_nest : Nest → Contest
contest_of_nest n = nest_contest (vec_items n.parents) (vec_items n.bids)

abbrev pub contest_inside_nest : Nest → ℕ → Contest
contest_inside_nest n = nest_inside (vec_items n.parents) (vec_items n.bids)
