use Rattle.std.proofs.Common.{◌≡◌, ◌+◌, ◌<◌, true, [], ◌∷◌, ◌++◌, map, length, vec_items, vec_len, sym, ap, ◌∙◌, ap₂, arith}
use Rattle.std.proofs.lemmas.List.{length-map}
use Rattle.std.proofs.lemmas.Result.{err_from_is_err_and}
use Rattle.packages.specs.Lots.{fits_in}
use Rattle.packages.specs.Nest.{place_of}
use Rattle.packages.proofs.Nests.{placed, displaced}
use Rattle.books.specs.Book.{permit, accepted, conflict_refusal}
use Rattle.books.specs.History.{book_of}
use Rattle.books.proofs.Checked.{conflicts, permitted}
use Rattle.books.proofs.Nests.{parents_push}
use Rattle.nest.proofs.Placing.{lower_push}
use Rattle.sale.proofs.Placing.{innermost_up_to}
use Rattle.sale.proofs.Steps.{packages_counted, permitted_counted, packages_more, refused_conforms, accepted_conforms}
use Rattle.sale.proofs.state.Sale.permit.Goals as goal

pub invariant_of-self : goal.invariant_of-self
invariant_of-self g c =
    let m = g.P.Package.meaning in
    let s = c.args.self.now in
    let parents = vec_items s.nest.parents in
    let stands = placed (m c.args.package) (map m c.packages.result.now) c.in_ok-parent.parent c.in_ok-parent.ensures.defined in
    let long : length (map m c.packages.result.now) ≡ length parents =
    length-map c.packages.result.now m ∙ ap length c.packages.ensures.stored ∙ permitted_counted s ∙ s.nest.parents.ok.0 in
    let lower = lower_push parents _ c.in_ok-parent.parent c.push_reserved.ensures.items s.nest.parents_lower (innermost_up_to (m c.args.package) (map m c.packages.result.now) _ c.in_ok-parent.parent stands.1 long) in
    ((omega arith, (omega arith, (omega arith, (omega arith, (lower, ((λ i low. let b = s.nest.bids_placed i low in (b.0, omega (arith, b.1), b.2)), tt)))))), (omega arith, tt))

pub returns-clause-rules : goal.returns-clause-rules
returns-clause-rules g c h held =
    let m = g.P.Package.meaning in
    let p = c.args.package in
    let sale = c.args.self.now in
    let b = book_of h in
    let count = packages_counted m sale b held in
    let fits : fits_in b.lots (m p) ≡ true = ap (λ n. fits_in n (m p)) (sym held.lots) ∙ sym c.if-not-fits.ensures in
    let space = held.space in
    let room : length b.packages < b.space = omega arith in
    let stands = placed (m p) b.packages c.in_ok-parent.parent (c.in_ok-parent.ensures.defined ∙ ap (place_of (m p)) (c.packages.ensures.book h held)) in
    let number : length b.packages + 1 ≡ c.len-count.result + 1 = omega arith in
    let one_more : vec_len c.push_reserved.new.self ≡ c.len-count.result + 1 = omega arith in
    accepted_conforms m _ h (permit (m p)) (c.len-count.result + 1) (permitted b (m p) fits room stands.0 ∙ ap accepted number)
    (record {
      lots = held.lots;
      space = held.space;
      packages = packages_more m sale b held c.len-count.result (vec_len c.push_reserved.new.self) p c.len-count.ensures one_more (omega arith);
      parents = c.push_reserved.ensures.items ∙ ap₂ (λ ps q. ps ++ (q ∷ [])) held.parents (sym stands.1) ∙ sym (parents_push b.packages (m p));
      bids = held.bids;
    })

pub returns-in_err-parent-clause-rules : goal.returns-in_err-parent-clause-rules
returns-in_err-parent-clause-rules g c h held =
    let refusal = err_from_is_err_and c.from_residual.result c.from_residual.ensures.1 in
    let m = g.P.Package.meaning in
    let p = c.args.package in
    let sale = c.args.self.now in
    let b = book_of h in
    let count = packages_counted m sale b held in
    let fits : fits_in b.lots (m p) ≡ true = ap (λ n. fits_in n (m p)) (sym held.lots) ∙ sym c.if-not-fits.ensures in
    let space = held.space in
    let room : length b.packages < b.space = omega arith in
    let against = displaced (m p) b.packages c.in_err-parent.field-0.0 (c.in_err-parent.ensures.defined ∙ ap (place_of (m p)) (c.packages.ensures.book h held)) in
    rw (refusal.1, refusal.2) (refused_conforms m sale h (permit (m p)) (conflict_refusal c.in_err-parent.field-0.0) held (conflicts b (m p) fits c.in_err-parent.field-0.0 room against))
