use Rattle.std.proofs.Common.{◌≡◌, ◌+◌, ◌<◌, ◌⊎◌, [], ◌∷◌, ◌++◌, length, vec_items, vec_len, ap, ◌∙◌, ap₂, inl, inr, arith}
use Rattle.bids.specs.Bids.{new_bid}
use Rattle.bids.specs.Limits.{highest_price, is_buyer, is_price}
use Rattle.bids.proofs.Ranges.{between}
use Rattle.books.specs.Book.{lodge, accepted}
use Rattle.books.specs.History.{book_of}
use Rattle.books.proofs.Checked.{no_package, bids_full, lodged}
use Rattle.nest.proofs.Placing.{placed_push}
use Rattle.sale.proofs.Steps.{passes, packages_counted, bids_counted, refused_conforms, accepted_conforms}
use Rattle.sale.proofs.state.Sale.lodge.Goals as goal
use Rattle.sale.proofs.state.Sale.lodge.Goals.{then-package-lt1-via-then-package-lt1, then-package-lt1-via-else-package-lt1+then-len-package}

pub returns-then-package-lt1-clause-rules : goal.returns-then-package-lt1-clause-rules
returns-then-package-lt1-clause-rules g c h held =
    let m = g.P.Package.meaning in
    let count = packages_counted m c.args.self.now (book_of h) held in
    let buyer_right = passes is_buyer c.from.result c.args.buyer c.from.ensures c.if-not-is_buyer.ensures in
    let price_right = passes is_price c.from-2.result c.args.price c.from-2.ensures c.if-not-is_price.ensures in
    let beyond : (c.args.package < 1) ⊎ (length (book_of h).packages < c.args.package) =
    elim c.then-package-lt1.branch [
      | then-package-lt1-via-then-package-lt1 w ↦ inl (omega arith)
      | then-package-lt1-via-else-package-lt1+then-len-package w ↦ inr (omega arith)
    ] in
    refused_conforms m c.args.self.now h (lodge c.args.buyer c.args.price c.args.package) (28, 0) held
    (no_package (book_of h) c.args.buyer c.args.price c.args.package buyer_right price_right beyond)

pub returns-then-len-ge-MAX_BIDS-clause-rules : goal.returns-then-len-ge-MAX_BIDS-clause-rules
returns-then-len-ge-MAX_BIDS-clause-rules g c h held =
    let m = g.P.Package.meaning in
    let count = packages_counted m c.args.self.now (book_of h) held in
    let bids = bids_counted m c.args.self.now (book_of h) held in
    let buyer_right = passes is_buyer c.from.result c.args.buyer c.from.ensures c.if-not-is_buyer.ensures in
    let price_right = passes is_price c.from-2.result c.args.price c.from-2.ensures c.if-not-is_price.ensures in
    refused_conforms m c.args.self.now h (lodge c.args.buyer c.args.price c.args.package) (29, 0) held
    (bids_full (book_of h) c.args.buyer c.args.price c.args.package buyer_right price_right (omega arith) (omega arith) (omega arith))

pub invariant_of-self : goal.invariant_of-self
invariant_of-self g c =
    let s = c.args.self.now in
    let cheap = (between 1 highest_price c.args.price (passes is_price c.from-2.result c.args.price c.from-2.ensures c.if-not-is_price.ensures)).1 in
    let new = c.new.ensures in
    let items = c.push_reserved.ensures.items ∙ ap (λ b. vec_items s.nest.bids ++ (b ∷ [])) new in
    let placed = placed_push (vec_len s.nest.parents) (vec_items s.nest.bids) _ (new_bid c.args.buyer c.args.price c.args.package) items s.nest.bids_placed (omega arith) (omega arith) cheap in
    ((omega arith, (omega arith, (omega arith, (omega arith, (s.nest.parents_lower, (placed, tt)))))), (s.packages_within, tt))

pub returns-clause-rules : goal.returns-clause-rules
returns-clause-rules g c h held =
    let m = g.P.Package.meaning in
    let count = packages_counted m c.args.self.now (book_of h) held in
    let bids = bids_counted m c.args.self.now (book_of h) held in
    let buyer_right = passes is_buyer c.from.result c.args.buyer c.from.ensures c.if-not-is_buyer.ensures in
    let price_right = passes is_price c.from-2.result c.args.price c.from-2.ensures c.if-not-is_price.ensures in
    let made = lodged (book_of h) c.args.buyer c.args.price c.args.package buyer_right price_right (omega arith) (omega arith) (omega arith) in
    let number : length (book_of h).bids + 1 ≡ c.len-3.result = omega arith in
    accepted_conforms m _ h (lodge c.args.buyer c.args.price c.args.package) c.len-3.result (made ∙ ap accepted number)
    (record {
      lots = held.lots;
      space = held.space;
      packages = held.packages;
      parents = held.parents;
      bids = c.push_reserved.ensures.items ∙ ap₂ (λ bs b. bs ++ (b ∷ [])) held.bids c.new.ensures;
    })
