-- Appraisals at the end of a history speak of clash-free sets: no revenue there reaches the greatest amount.
use Rattle.std.proofs.Common.{◌*◌, ◌<◌, ◌≤◌, length, arith}
use Rattle.bids.specs.Limits.{max_bids, highest_price}
use Rattle.scales.specs.Cut.{top_amount}
use Rattle.contest.specs.Contest.{best_revenue}
use Rattle.contest.proofs.Appraising.{ways_counted, top_fetched}
use Rattle.contest.proofs.Bounds.{best_bound}
use Rattle.contest.proofs.Revenues.{revenue_total}
use Rattle.books.specs.Appraisals.{AlwaysSums}
use Rattle.books.specs.Contests.{contest_at}
use Rattle.books.specs.History.{History, book_of}
use Rattle.books.proofs.Reached.{always_sound}

below : (h : History) → best_revenue (contest_at h) < top_amount
below h =
    let sound = always_sound h in
    let few : length (book_of h).bids ≤ max_bids = sound.bids_few in
    let bound : best_revenue (contest_at h) ≤ length (book_of h).bids * highest_price = best_bound (contest_at h) highest_price (λ k low high. (sound.bids k low high).price.1) in
    omega (arith, bound, few)

pub always_sums : AlwaysSums
always_sums h =
    record { revenue = revenue_total (contest_at h) (below h); equally_good = ways_counted (contest_at h) (below h); greatest = top_fetched (contest_at h) }
