-- The sizes of the marked bids' packages, one bid more at a time, and the lots that an award sells.
use Rattle.std.proofs.Common.{◌≡◌, ℕ, ◌+◌, Bool, cond, eqb, List, length, get_or, sym, ap, ◌∙◌, ap₂}
use Rattle.bids.specs.declared.bid.Bid.{Bid}
use Rattle.bids.specs.Bids.{no_bid}
use Rattle.bids.proofs.Numbering.{bid_next}
use Rattle.packages.specs.Lots.{Lots, size_of}
use Rattle.packages.specs.Places.{package_at}
use Rattle.contest.specs.Contest.{award, sum_over}
use Rattle.contest.specs.Descent.{Marks, marked}
use Rattle.contest.proofs.Awarding.{award_is}
use Rattle.contest.proofs.Passes.{sum_more, item_next, marked_is}
use Rattle.contest.proofs.Sums.{sum_same}
use Rattle.books.specs.Contests.{contest_of}
use Rattle.books.specs.History.{History, book_of}
use Rattle.books.specs.Sold.{lots_sold}
use Rattle.books.proofs.Selling.{sold_sizes}
use Rattle.sale.specs.Awards.{size_in}

pub sizes_more : (n : ℕ) (marks : List ℕ) (packages : List Lots) (bids : List Bid) (a v mark : ℕ) (bid : Bid) → a ≡ sum_over n (marked marks) (size_in packages bids)
    → mark ≡ get_or marks n 0 → bid ≡ get_or bids n no_bid → v ≡ cond (eqb mark 1) (size_of (package_at packages bid.«package»)) 0 → a + v ≡ sum_over (n + 1) (marked marks) (size_in packages bids)
sizes_more n marks packages bids a v mark bid e at on h =
    sum_more n (marked marks) (size_in packages bids) a v e
    (h ∙ ap₂ (λ x (y : Bid). cond (eqb x 1) (size_of (package_at packages y.«package»)) 0) (at ∙ sym (item_next marks n)) (on ∙ sym (bid_next bids n)))

pub award_sells : (h : History) (before after : List ℕ) (packages : List Lots) (bids : List Bid) (lots : ℕ) → packages ≡ (book_of h).packages → bids ≡ (book_of h).bids
    → Marks (length (book_of h).bids) (award (contest_of (book_of h))) before after → lots ≡ sum_over (length bids) (marked after) (size_in packages bids)
    → lots ≡ lots_sold (book_of h) (award (contest_of (book_of h)))
award_sells h before after packages bids lots these those marks sum =
    let b = book_of h in
    let n : ℕ = length b.bids in
    sum
    ∙ ap₂ (λ p q. sum_over (length q) (marked after) (size_in p q)) these those
    ∙ sum_same n (λ k. cond (marked after k) (size_in b.packages b.bids k) 0) (λ k. cond (award (contest_of b) k) (size_in b.packages b.bids k) 0)
    (λ k low high. ap (λ (w : Bool). cond w (size_in b.packages b.bids k) 0) (marked_is n (award (contest_of b)) before after marks k low high))
    ∙ sym (sold_sizes h (award (contest_of b)) (award_is (contest_of b)).clash_free)
