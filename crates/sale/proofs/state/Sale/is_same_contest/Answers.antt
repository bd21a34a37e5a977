use Rattle.std.proofs.Common.{map, length, vec_items, refl, ap, sym, rules, arith}
use borrow.Author.Tests.{tests}
use Rattle.std.proofs.lemmas.Iterator.{cases_from_all, YieldsList-from_range}
use Rattle.books.specs.History.{book_of}
use Rattle.books.proofs.Reached.{always_sound}
use Rattle.sale.specs.Compared.{AlikeAt}
use Rattle.sale.specs.Holds.{permitted}
use Rattle.sale.proofs.Comparing.{same_from, same_each, alike_moved, decided_below}
use Rattle.sale.proofs.state.Sale.is_same_contest.Goals as goal

pub returns-then-bids-len : goal.returns-then-bids-len
returns-then-bids-len g c h k held kept =
    let n = c.len-bids.result in
    let b = book_of h in
    let d = book_of k in
    let Alike = AlikeAt (map g.P.Package.meaning (permitted c.args.self.now)) (map g.Q.Package.meaning (permitted c.args.other.now)) (vec_items c.args.self.now.nest.bids) (vec_items c.args.other.now.nest.bids) in
    let cases = cases_from_all _ _ _ Alike (λ i. Alike i → ⊥) c.all.ensures.ran (YieldsList-from_range 0 n n refl (omega arith)) (λ x q e. search (rules, tests)) (λ x q e. search (rules, tests)) in
    let each = decided_below Alike c.all.result n cases in
    let here = ap length held.bids in
    let there = ap length kept.bids in (
      λ e. same_from b d (always_sound h) (always_sound k) (omega arith) (λ i low. alike_moved i held.packages kept.packages held.bids kept.bids (each.0 e i (omega arith))),
      λ same. each.1 (λ i low. alike_moved i (sym held.packages) (sym kept.packages) (sym held.bids) (sym kept.bids) (same_each b d (always_sound h) (always_sound k) same i (omega arith))),
    )
