-- Packages and bids that come in keep their places.
use Rattle.std.proofs.Common.{◌≡◌, ℕ, zero, suc, ◌<◌, ◌≤◌, true, List, [], ◌∷◌, ◌++◌, length, get_or, None, Option, sym, subst, arith}
use Rattle.bids.specs.declared.bid.Bid.{Bid}
use Rattle.bids.specs.Bids.{no_bid}
use Rattle.bids.specs.Limits.{highest_price}
use Rattle.nest.specs.Placed.{up_to, Lower, Placed}

-- What holds of each place of a list, and of one value more.
each_push : {A : Type 0} (d : A) (P : ℕ → A → Type 0) (xs : List A) (x : A) → ((i : ℕ) → i < length xs → P i (get_or xs i d)) → P (length xs) x → (i : ℕ) → i < length (xs ++ (x ∷ [])) → P i (get_or (xs ++ (x ∷ [])) i d)
each_push d P [] x each last zero low = last
each_push d P [] x each last (suc i) low = absurd (omega arith)
each_push d P (y ∷ xs) x each last zero low = each zero (omega arith)
each_push d P (y ∷ xs) x each last (suc i) low = each_push d (λ k. P (suc k)) xs x (λ k l. each (suc k) (omega arith)) last i (omega arith)

pub lower_push : (ps qs : List (Option ℕ)) (q : Option ℕ) → qs ≡ ps ++ (q ∷ []) → Lower ps → up_to (length ps) q ≡ true → Lower qs
lower_push ps qs q e lower last = subst Lower (sym e) (each_push None (λ i p. up_to i p ≡ true) ps q lower last)

abbrev At : ℕ → Bid → Type 0
At top b = (1 ≤ b.«package») × (b.«package» ≤ top) × (b.price ≤ highest_price)

pub placed_push : (top : ℕ) (xs ys : List Bid) (b : Bid) → ys ≡ xs ++ (b ∷ []) → Placed top xs → 1 ≤ b.«package» → b.«package» ≤ top → b.price ≤ highest_price → Placed top ys
placed_push top xs ys b e placed low high cheap = subst (Placed top) (sym e) (each_push no_bid (λ i. At top) xs b placed (low, high, cheap))
