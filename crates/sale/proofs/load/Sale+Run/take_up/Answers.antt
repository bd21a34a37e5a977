use Rattle.std.proofs.Common.{◌≡◌, ℕ, ◌+◌, ◌<◌, ◌≤◌, min, List, map, length, get_or, take, vec_items, vec_len, sym, ap, ◌∙◌, subst, arith}
use Rattle.std.proofs.lemmas.List.{length-map, length-take-le}
use Rattle.packages.specs.declared.run.Run.{Run}
use Rattle.bids.specs.Bids.{no_bid}
use Rattle.bids.specs.Limits.{max_packages}
use Rattle.salefile.specs.FileContents.{FileContents, contents_of, run_set}
use Rattle.salefile.specs.Orderly.{Orderly}
use Rattle.books.specs.Book.{accepted, permit, lodge}
use Rattle.sale.specs.Holds.{Holds, Obeys}
use Rattle.sale.specs.Refusals.{reply, permit_refusal, lodge_refusal}
use Rattle.sale.proofs.Steps.{packages_counted}
use Rattle.salefile.proofs.Nested.{no_run}
use Rattle.books.proofs.Replay.{part}
use Rattle.sale.proofs.TakingUp.{reply_ok, permit_next, lodge_next}
use Rattle.sale.proofs.Tables.{stored_next}
use Rattle.sale.proofs.load.Sale+Run.take_up.Goals as goal
use Rattle.sale.proofs.load.Sale+Run.take_up.Goals.{After-permit, After-lodge}

-- the next package is permitted
permitted_next : (c : After-permit)
    → Holds run_set c.permit.new.self (part (contents_of c.args.contents.now) (min max_packages (vec_len c.args.self.now.table)) (c.loop-run.run-index + 1) 0)
    × (reply permit_refusal c.permit.result ≡ accepted (c.loop-run.run-index + 1))
permitted_next c =
    let i : ℕ = c.loop-run.run-index in
    let value = c.deref-run-items.ensures.value in
    let lt : i < length (vec_items c.args.contents.now.packages) = subst (λ l. i < length l) value c.loop-run-test.true in
    let obeys = subst (λ l. Obeys run_set c.loop-run.self c.permit.new.self (permit (run_set (get_or l i no_run))) (reply permit_refusal c.permit.result)) value c.permit.ensures.rules in
    permit_next (min max_packages (vec_len c.args.self.now.table)) (contents_of c.args.contents.now) c.requires.orderly c.requires.standing (omega arith) c.loop-run.self c.permit.new.self i (reply permit_refusal c.permit.result) lt c.loop-run.invariant.0 obeys

pub unwrap-requires : goal.unwrap-requires
unwrap-requires c = reply_ok permit_refusal c.permit.result (c.loop-run.run-index + 1) (permitted_next (goal.at.unwrap-requires c).After-permit).1

pub loop-run-preserved : goal.loop-run-preserved
loop-run-preserved c =
    let says : FileContents = contents_of c.args.contents.now in
    let space : ℕ = min max_packages (vec_len c.args.self.now.table) in
    let i : ℕ = c.loop-run.run-index in
    let R : List Run = vec_items c.args.contents.now.packages in
    let T : List Run = vec_items c.args.self.now.table in
    let ord : Orderly space says = c.requires.orderly in
    let value = c.deref-run-items.ensures.value in
    let lt : i < length R = subst (λ l. i < length l) value c.loop-run-test.true in
    let next = permitted_next (goal.at.loop-run-preserved c).After-permit in
    let count : length (map run_set (take i R)) ≡ i = length-map (take i R) run_set ∙ length-take-le i R (omega arith) in
    let places : vec_len c.loop-run.self.nest.parents ≡ i = sym (packages_counted run_set c.loop-run.self (part says space i 0) c.loop-run.invariant.0) ∙ count in
    let fits : length R ≤ length T = omega (arith, ord.few_packages, c.args.self.now.table.ok.0) in (
      next.0,
      stored_next R T i no_run lt fits (vec_items c.loop-run.self.table) (vec_items c.permit.new.self.table) (vec_len c.loop-run.self.nest.parents) _ _ c.loop-run.invariant.1 places
          (reply_ok permit_refusal c.permit.result (i + 1) next.1) (ap (λ l. get_or l i no_run) value) c.permit.ensures.table,
    )

-- the next bid is lodged
lodged-next : (c : After-lodge)
    → Holds run_set c.lodge.new.self (part (contents_of c.args.contents.now) (min max_packages (vec_len c.args.self.now.table)) (length (vec_items c.args.contents.now.packages)) (c.loop-bid.bid-index + 1))
    × (reply lodge_refusal c.lodge.result ≡ accepted (c.loop-bid.bid-index + 1))
lodged-next c =
    let says : FileContents = contents_of c.args.contents.now in
    let j : ℕ = c.loop-bid.bid-index in
    let n : ℕ = length (vec_items c.args.contents.now.packages) in
    let value = c.deref-bid-items.ensures.value in
    let lt : j < length says.bids = subst (λ l. j < length l) value c.loop-bid-test.true in
    let held = subst (λ m. Holds run_set c.loop-bid.self (part says m n j)) c.loop-run.invariant.0.space c.loop-bid.invariant.0 in
    let obeys = subst (λ l. Obeys run_set c.loop-bid.self c.lodge.new.self (lodge (get_or l j no_bid).buyer (get_or l j no_bid).price (get_or l j no_bid).«package») (reply lodge_refusal c.lodge.result)) value c.lodge.ensures.rules in
    lodge_next (min max_packages (vec_len c.args.self.now.table)) says c.requires.orderly c.requires.standing (omega arith) c.loop-bid.self c.lodge.new.self j (reply lodge_refusal c.lodge.result) lt held obeys

pub unwrap-requires-in-loop-bid : goal.unwrap-requires-in-loop-bid
unwrap-requires-in-loop-bid c = reply_ok lodge_refusal c.lodge.result (c.loop-bid.bid-index + 1) (lodged-next (goal.at.unwrap-requires-in-loop-bid c).After-lodge).1

pub loop-bid-preserved : goal.loop-bid-preserved
loop-bid-preserved c =
    let n : ℕ = length (vec_items c.args.contents.now.packages) in
    let next = lodged-next (goal.at.loop-bid-preserved c).After-lodge in (
      subst (λ m. Holds run_set c.lodge.new.self (part (contents_of c.args.contents.now) m n (c.loop-bid.bid-index + 1))) (sym c.loop-run.invariant.0.space) next.0,
      ap (λ t. vec_items t) c.lodge.ensures.table ∙ c.loop-bid.invariant.1,
    )
