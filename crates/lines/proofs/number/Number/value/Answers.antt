use Rattle.std.proofs.Common.{Some, length, ◌≡◌, ◌<◌, ◌^◌, ◌∙◌, map, refl, rules, subst, sym}
use Rattle.std.proofs.lemmas.List.{map-append}
use Rattle.std.proofs.lemmas.Grind.{get_or_default_zero}
use Rattle.std.proofs.lemmas.List.Sums.{fold-append}
use Rattle.std.proofs.lemmas.Iterator.{YieldsList-from_slice}
use Rattle.std.proofs.lemmas.Iterator.Consumers.{YieldsList-so_far, YieldsList-turn, fold_from_yields_List}
use Rattle.std.proofs.lemmas.Fn.{serves_by}
use Rattle.std.specs.List.{fold}
use Rattle.lines.specs.Kinds.{Digit}
use Rattle.lines.proofs.Numbers.{more, value_by_fold, before_digit}
use Rattle.lines.proofs.number.Number.value.Goals as goal

pub fold-requires-clause-callable : goal.fold-requires-clause-callable
fold-requires-clause-callable c =
    let all = c.args.self.part.bytes.now in
    let road = YieldsList-from_slice {s = c.iter.result} all cc in
    serves_by _ (λ ys q. q.1 ≡ fold more 0 (map (λ y. y.now) ys)) (λ xs q x v j r. rw (map-append, fold-append) (search rules)) _ _ c.iter.result (tt, 0) refl
    (λ xs t q x u y turn j.
    let turned = YieldsList-turn road xs t y (Some x) u x refl turn in
    let few : q.1 < 10 ^ 9 = rw (j, YieldsList-so_far road xs t y) (before_digit all (length xs) c.args.self.written turned.0) in
    let digit : Digit x.now = subst Digit (sym (turned.1 ∙ get_or_default_zero all (length xs) x.now turned.0)) (c.args.self.written.digits (length xs) turned.0) in
    search rules)

pub returns : goal.returns
returns c =
    fold_from_yields_List _ more 0 c.fold.result c.fold.ensures.ran (YieldsList-from_slice c.args.self.part.bytes.now cc) (λ a x b q k. search rules) ∙ value_by_fold c.args.self.part.bytes.now
