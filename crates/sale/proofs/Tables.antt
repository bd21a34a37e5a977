-- A table whose first places are written one by one.
use Rattle.std.proofs.Common.{◌≡◌, ℕ, ◌+◌, ◌<◌, ◌≤◌, Bool, true, cond, List, [], ◌∷◌, ◌++◌, length, get_or, take, drop, set, sym, ap, ◌∙◌, ap₂, append_assoc, arith}
use Rattle.std.proofs.lemmas.List.{take_more, drop_more, set_at, length-take-le}

module _ {X : Type 0} (R T : List X) (i : ℕ) (d : X) (low : i < length R) (fits : length R ≤ length T) where
  pub store_more : set (take i R ++ drop i T) i (get_or R i d) ≡ take (i + 1) R ++ drop (i + 1) T
  store_more =
      ap (λ l. set (take i R ++ l) i (get_or R i d)) (drop_more T i d (omega arith))
      ∙ set_at (take i R) (get_or T i d) (drop (i + 1) T) (get_or R i d) i (length-take-le i R (omega arith))
      ∙ sym (append_assoc (take i R) (get_or R i d ∷ []) (drop (i + 1) T))
      ∙ ap (λ l. l ++ drop (i + 1) T) (sym (take_more R i d low))

  pub stored_next : (items items' : List X) (n : ℕ) (t : Bool) (x : X) → items ≡ take i R ++ drop i T → n ≡ i → t ≡ true → x ≡ get_or R i d → items' ≡ cond t (set items n x) items → items' ≡ take (i + 1) R ++ drop (i + 1) T
  stored_next items items' n t x e at good is new =
      new
      ∙ ap (λ b. cond b (set items n x) items) good
      ∙ ap (λ l. set l n x) e
      ∙ ap₂ (λ m y. set (take i R ++ drop i T) m y) at is
      ∙ store_more
