use Rattle.std.proofs.Common.{◌≡◌, ◌-◌, [], ◌∷◌, ◌++◌, length, take, vec_items, ap, subst, arith}
use Rattle.salefile.proofs.Steps.{top, nothing_open, last_split, ended_lots, ended_packaged, ended_lodged}
use Rattle.salefile.proofs.Checks.{reject_end}
use Rattle.salefile.proofs.draft.Draft.finish.Goals as goal

pub returns-in-Some : goal.returns-in-Some
returns-in-Some c ks h space =
    let i = c.in-Some.ensures.item in
    let s : vec_items c.args.self.unclosed ≡ take (length (vec_items c.args.self.unclosed) - 1) (vec_items c.args.self.unclosed) ++ (c.in-Some.top.now ∷ []) =
    subst (λ l. l ≡ take (length l - 1) l ++ (c.in-Some.top.now ∷ [])) c.deref.ensures.value (last_split _ _ i.3.0 i.1) in
    let t = top h _ _ s in
    reject_end space ks h.begun h.going _ t.0 t.1 t.3.1 t.2

pub returns : goal.returns
returns c ks h = (
  nothing_open h (let l = ap length c.deref.ensures.value in let z = c.in_default.ensures.item.3 in omega arith),
  record { lot_count = ended_lots h; packaged = ended_packaged h; lodged = ended_lodged h },
)
