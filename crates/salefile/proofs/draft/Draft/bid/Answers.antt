use Rattle.std.proofs.Common.{◌≡◌, ◌-◌, [], ◌∷◌, ◌++◌, length, take, vec_items, refl, ap, subst, arith, rules, tests}
use Rattle.salefile.proofs.Steps.{top, nothing_open, last_split, bid_top}
use Rattle.salefile.proofs.Checks.{clear_bid, reject_bid_none, reject_range, reject_bids}
use Rattle.salefile.proofs.draft.Draft.bid.Goals as goal
use Rattle.salefile.proofs.draft.Draft.bid.Goals.{In-Some, then-not-is_buyer-via-then-not-is_buyer, then-not-is_buyer-via-else-not-is_buyer+then-not-is_price}

pub returns-in_default : goal.returns-in_default
returns-in_default c ks h e = reject_bid_none _ ks h.begun h.going _ _ _ e (nothing_open h (let l = ap length c.deref.ensures.value in let z = c.in_default.ensures.item.3 in omega arith))

-- the top of the stack is its last
last : (c : In-Some) → vec_items c.args.self.now.unclosed ≡ take (length (vec_items c.args.self.now.unclosed) - 1) (vec_items c.args.self.now.unclosed) ++ (c.in-Some.top.now ∷ [])
last c =
    let s = c.deref.ensures.value in
    let i = c.in-Some.ensures.item in
    subst (λ l. l ≡ take (length l - 1) l ++ (c.in-Some.top.now ∷ [])) s (last_split _ _ i.3.0 i.1)

pub returns-then-not-is_buyer : goal.returns-then-not-is_buyer
returns-then-not-is_buyer c ks h e =
    let t = top h _ _ (last (goal.at.returns-then-not-is_buyer c).In-Some) in
    reject_range _ ks h.begun h.going _ _ _ t.0 t.1 e t.2 (λ r. elim c.then-not-is_buyer.branch [ then-not-is_buyer-via-then-not-is_buyer w ↦ search (rules, tests) | then-not-is_buyer-via-else-not-is_buyer+then-not-is_price w ↦ search (rules, tests) ])

pub returns-then-len-ge-MAX_BIDS : goal.returns-then-len-ge-MAX_BIDS
returns-then-len-ge-MAX_BIDS c ks h e =
    let t = top h _ _ (last (goal.at.returns-then-len-ge-MAX_BIDS c).In-Some) in
    reject_bids _ ks h.begun h.going _ _ _ t.0 t.1 e t.2 (search (rules, tests)) (omega (arith, h.lodged.many))

pub returns : goal.returns
returns c ks h e =
    let s = last (goal.at.returns c).In-Some in
    let t = top h _ _ s in (
      clear_bid _ ks h.begun h.going _ _ t.0 t.1 t.2 (search (rules, tests)) (omega (arith, h.lodged.many)),
      bid_top h _ _ s _ _ _ _ _ _ _ c.push_reserved.ensures.items c.new.ensures c.value-buyer.ensures c.value-price.ensures refl,
      refl,
    )
