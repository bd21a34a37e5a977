use Rattle.std.proofs.Common.{◌≡◌, ◌==◌, position, ◌∷◌, ◌++◌, rules, tests, sym, ap, ◌∙◌, subst, arith, length}
use Rattle.std.proofs.lemmas.Iterator.{YieldsList-from_slice}
use Rattle.std.proofs.lemmas.Iterator.Search.{position_from_yields_List}
use Rattle.std.proofs.lemmas.Result.{err_from_is_err_and}
use Rattle.lines.specs.Kinds.{Numeral}
use Rattle.lines.proofs.Texts.{numbers, bid_space, bid_parts, bid_whole, front_length}
use Rattle.lines.proofs.parse.bid.Goals as goal
use Rattle.lines.proofs.parse.bid.Goals.{After-position}

found : (c : After-position) → c.position.result ≡ position (λ y. y == 32) (numbers c.args.text.now)
found c =
    position_from_yields_List (λ y. y == 32) _ _ c.position.result c.position.ensures.ran (YieldsList-from_slice (numbers c.args.text.now) cc) (λ x b q k. search (rules, tests))

pub returns-in_default-position : goal.returns-in_default-position
returns-in_default-position c b p h =
    let none = found (goal.at.returns-in_default-position c).After-position in
    let some = bid_space c.args.text.now b p h in
    cc

pub returns-in_err-buyer : goal.returns-in_err-buyer
returns-in_err-buyer c =
    let at = sym (found (goal.at.returns-in_err-buyer c).After-position) ∙ c.in-Some.is in
    let e = err_from_is_err_and c.from_residual.result c.from_residual.ensures.1 in
    rw e.1 (λ b p h. c.in_err-buyer.ensures.1 (subst Numeral (sym (bid_parts c.args.text.now c.in-Some.space at b p h).0) h.1.0))

pub returns-in_err-price : goal.returns-in_err-price
returns-in_err-price c =
    let at = sym (found (goal.at.returns-in_err-price c).After-position) ∙ c.in-Some.is in
    let e = err_from_is_err_and c.from_residual-in_err-price.result c.from_residual-in_err-price.ensures.1 in
    rw e.1 (λ b p h. c.in_err-price.ensures.1 (subst Numeral (sym (bid_parts c.args.text.now c.in-Some.space at b p h).1) h.1.1))

pub returns : goal.returns
returns c =
    let at = sym (found (goal.at.returns c).After-position) ∙ c.in-Some.is in
    let whole = bid_whole c.args.text.now c.in-Some.space at (search rules) (search rules) in
    let long = front_length c.args.text.now c.in-Some.space at in
    let first = ap (λ x. x.bytes.now) c.in_ok-buyer.ensures in
    let second = ap (λ x. x.bytes.now) c.in_ok-price.ensures in (
      (whole ∙ (λ i. 66 ∷ 32 ∷ (sym first i ++ (32 ∷ sym second i))), (c.in_ok-buyer.buyer.written, c.in_ok-price.price.written)),
      (ap (λ x. x.at) c.in_ok-buyer.ensures, omega (arith, ap (λ x. x.at) c.in_ok-price.ensures, ap length first)),
    )
