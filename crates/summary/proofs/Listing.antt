-- The winning bids, listed from bids with bytes that mark them.
use Rattle.std.proofs.Common.{◌≡◌, ℕ, suc, ◌+◌, ◌-◌, ◌<◌, ◌≤◌, Bool, true, false, cond, eqb, List, [], ◌∷◌, map, length, get_or, sym, refl, ap, ◌∙◌, add-one, arith}
use Rattle.std.specs.List.{filter, enumerate_from, zip}
use Rattle.bids.specs.declared.bid.Bid.{Bid}
use Rattle.bids.specs.Bids.{no_bid, bid_at}
use Rattle.contest.specs.Contest.{Contest, Numbered, award}
use Rattle.contest.specs.Total.{from, keep}
use Rattle.contest.proofs.Algebra.{keep_outside}
use Rattle.summary.specs.declared.contents.Winner.{Winner}
use Rattle.summary.specs.Marked.{AwardMarked}
use Rattle.summary.specs.Reports.{winner_of, winners_of}

map_cond : {A B : Type 0} (f : A → B) (x : A) (xs : List A) (b : Bool) → map f (cond b (x ∷ xs) xs) ≡ cond b (f x ∷ map f xs) (map f xs)
map_cond f x xs true = refl
map_cond f x xs false = refl

-- what is said of a bid with its number
abbrev pub winner : ℕ → Bid → Winner
winner k b = record { number = k; buyer = b.buyer; price = b.price }

-- what is said of the bids whose byte is 1
abbrev pub marked_winners : ℕ → List Bid → List ℕ → List Winner
marked_winners i bids marks = map (λ (q : ℕ × (Bid × ℕ)). winner (q.0 + 1) q.1.0) (filter (λ (q : ℕ × (Bid × ℕ)). eqb q.1.1 1) (enumerate_from i (zip bids marks)))

marked_from :
    (f : ℕ → Winner) (p : ℕ → Bool) (i : ℕ) (bids : List Bid) (marks : List ℕ) →
    ((k : ℕ) → i < k → k ≤ i + length bids → (winner k (get_or bids (k - suc i) no_bid) ≡ f k) × (eqb (get_or marks (k - suc i) 0) 1 ≡ p k)) →
    marked_winners i bids marks ≡ map f (keep p (from (suc i) (length bids)))
marked_from f p i [] marks same = refl
marked_from f p i (b ∷ bids) [] same = sym (ap (map f) (keep_outside p (suc i) (suc (length bids)) (λ k low high. sym (same k (omega arith) (omega arith)).1)))
marked_from f p i (b ∷ bids) (m ∷ marks) same =
    let first : suc i - suc i ≡ 0 = omega arith in
    let here = same (suc i) (omega arith) (omega arith) in
    let is : winner (i + 1) b ≡ f (suc i) = ap (λ n. winner n b) (add-one i) ∙ ap (λ n. winner (suc i) (get_or (b ∷ bids) n no_bid)) (sym first) ∙ here.0 in
    let wins : eqb m 1 ≡ p (suc i) = ap (λ n. eqb (get_or (m ∷ marks) n 0) 1) (sym first) ∙ here.1 in
    let rest : marked_winners (i + 1) bids marks ≡ map f (keep p (from (suc (suc i)) (length bids))) =
    ap (λ n. marked_winners n bids marks) (add-one i)
    ∙ marked_from f p (suc i) bids marks (λ k low high.
    let next : suc (k - suc (suc i)) ≡ k - suc i = omega arith in
    let there = same k (omega arith) (omega arith) in
    (ap (λ n. winner k (get_or (b ∷ bids) n no_bid)) next ∙ there.0, ap (λ n. eqb (get_or (m ∷ marks) n 0) 1) next ∙ there.1))
    in
    map_cond (λ (q : ℕ × (Bid × ℕ)). winner (q.0 + 1) q.1.0) (i, (b, m)) (filter (λ (q : ℕ × (Bid × ℕ)). eqb q.1.1 1) (enumerate_from (i + 1) (zip bids marks))) (eqb m 1)
    ∙ (λ j. cond (wins j) (is j ∷ rest j) (rest j))
    ∙ sym (map_cond f (suc i) (keep p (from (suc (suc i)) (length bids))) (p (suc i)))

-- where the bytes mark an award, the bids whose byte is 1 are its winning bids
pub winners_marked : (c : Contest) (bids : List Bid) (marks : List ℕ) → AwardMarked c bids marks → marked_winners 0 bids marks ≡ winners_of c
winners_marked c bids marks m =
    marked_from (winner_of c) (award c) 0 bids marks (λ k low high.
    let at : Numbered c k = (low, omega (arith, m.count)) in
    let is : winner k (bid_at bids k) ≡ winner_of c k = λ i. record { number = k; buyer = sym (m.buyers k at) i; price = sym (m.prices k at) i } in
    (is, m.award k at))
    ∙ ap (λ n. map (winner_of c) (keep (award c) (from 1 n))) (sym m.count)
