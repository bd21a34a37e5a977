use Rattle.std.proofs.Common.{Ok, Err, Result, IfOk, ◌≡◌, vec_items, rules}
use Rattle.std.proofs.lemmas.Iterator.{items_from_collect}
use Rattle.std.proofs.lemmas.Iterator.Consumers.{YieldsList-at, YieldsList-from_filter_map}
use Rattle.books.specs.Contests.{contest_at}
use Rattle.summary.specs.Reports.{payments_of}
use Rattle.summary.proofs.Paying.{due, buyers_yielded, payments_listed}
use Rattle.summary.proofs.gather.payments.Goals as goal

-- what holds of a result at Ok in each case
if_ok_each :
    {T E I : Type 0} {J K : I → Type 0} (r : Result T E) (P : I → T → Type 0) → ((i : I) → J i → K i → IfOk r (P i)) → IfOk r (λ v. (i : I) → J i → K i → P i v)
if_ok_each (Ok v) P each = each
if_ok_each (Err e) P each = tt

pub returns : goal.returns
returns g c =
    if_ok_each c.collect.result (λ h v. vec_items v ≡ payments_of (contest_at h)) (λ h held is.
    payments_listed (contest_at h) c.collect.result
    (items_from_collect _ c.collect.ensures.ran
    (YieldsList-from_filter_map _ (due (contest_at h))
    (YieldsList-at c.filter_map.ensures.source (buyers_yielded _ c.new.ensures.start c.new.ensures.end c.new.ensures.exhausted))
    c.filter_map.ensures.closure
    (λ x r q k. search (rules, k)))))
