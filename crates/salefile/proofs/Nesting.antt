-- Laws of balanced lines.
use Rattle.std.proofs.Common.{◌≡◌, ℕ, ◌+◌, ◌-◌, ◌<◌, ◌≤◌, ◌⊎◌, List, [], ◌∷◌, ◌++◌, length, sym, refl, ap, ◌∙◌, subst, inl, inr, ⊎_elim, append_assoc, arith, length-append}
use mathlib.Core.List.{tail-eq_of_cons-eq, head-eq_of_cons-eq}
use Rattle.std.proofs.lemmas.Bool.{cases_lt}
use Rattle.lines.specs.Kinds.{Kind, opening, closing}
use Rattle.salefile.specs.Blocks.{count, is_lot, is_opening, is_closing, is_bid, lots, opens, closes, bids, Balanced, none, plain, block, Block, NoneOpen}

-- counts

pub count_append : (f : Kind → ℕ) (a b : List Kind) → count f (a ++ b) ≡ count f a + count f b
count_append f [] b = omega arith
count_append f (k ∷ a) b = omega (arith, count_append f a b)

pub lots_append : (a b : List Kind) → lots (a ++ b) ≡ lots a + lots b
lots_append = count_append is_lot

pub opens_append : (a b : List Kind) → opens (a ++ b) ≡ opens a + opens b
opens_append = count_append is_opening

pub closes_append : (a b : List Kind) → closes (a ++ b) ≡ closes a + closes b
closes_append = count_append is_closing

pub bids_append : (a b : List Kind) → bids (a ++ b) ≡ bids a + bids b
bids_append = count_append is_bid

-- one line more at the end

pub no_cons : (s : List Kind) (x : Kind) (a : List Kind) → [] ≡ s ++ (x ∷ a) → ⊥
no_cons s x a e = omega (arith, ap length e, length-append s (x ∷ a))

pub split_last : (ks : List Kind) (k : Kind) (s : List Kind) (x : Kind) (a : List Kind) → ks ++ (k ∷ []) ≡ s ++ (x ∷ a) → ((ks ≡ s) × (k ≡ x) × (a ≡ [])) ⊎ ((a' : List Kind) × (ks ≡ s ++ (x ∷ a')) × (a ≡ a' ++ (k ∷ [])))
split_last [] k [] x a e = inl (refl, head-eq_of_cons-eq e, sym (tail-eq_of_cons-eq e))
split_last [] k (y ∷ s) x a e = absurd (no_cons s x a (tail-eq_of_cons-eq e))
split_last (j ∷ ks) k [] x a e = inr (ks, ap (λ y. y ∷ ks) (head-eq_of_cons-eq e), sym (tail-eq_of_cons-eq e))
split_last (j ∷ ks) k (y ∷ s) x a e =
    let h = head-eq_of_cons-eq e in
    ⊎_elim
    (λ r. inl (((λ i. h i ∷ r.0 i)), r.1, r.2))
    (λ r. inr (r.0, (λ i. h i ∷ r.1 i), r.2))
    (split_last ks k s x a (tail-eq_of_cons-eq e))

-- balanced lines

pub balanced_append : {a b : List Kind} → Balanced a → Balanced b → Balanced (a ++ b)
balanced_append none q = q
balanced_append (plain p r) q = plain p (balanced_append r q)
balanced_append {b = b} (block {i} {ks} r s) q = subst (λ l. Balanced (opening ∷ l)) (sym (append_assoc i (closing ∷ ks) b)) (block r (balanced_append s q))

pub balanced_even : {ks : List Kind} → Balanced ks → opens ks ≡ closes ks
balanced_even none = refl
balanced_even (plain {k} {ks} p r) = omega (arith, p.0, p.1, balanced_even r)
balanced_even (block {i} {ks} r s) = omega (arith, balanced_even r, balanced_even s, opens_append i (closing ∷ ks), closes_append i (closing ∷ ks))

-- each end of the lines closes at least what it opens
abbrev pub Heavy : List Kind → Type 0
Heavy [] = Unit {0}
Heavy (k ∷ ks) = (opens (k ∷ ks) ≤ closes (k ∷ ks)) × Heavy ks

pub heavy_all : (ks : List Kind) → Heavy ks → opens ks ≤ closes ks
heavy_all [] h = omega arith
heavy_all (k ∷ ks) h = h.0

pub heavy_end : (a b : List Kind) → Heavy (a ++ b) → Heavy b
heavy_end [] b h = h
heavy_end (k ∷ a) b h = heavy_end a b h.1

heavy_append : (a b : List Kind) → Heavy a → Heavy b → Heavy (a ++ b)
heavy_append [] b h g = g
heavy_append (k ∷ a) b h g = (omega (arith, h.0, heavy_all b g, opens_append a b, closes_append a b), heavy_append a b h.1 g)

pub balanced_heavy : {ks : List Kind} → Balanced ks → Heavy ks
balanced_heavy none = tt
balanced_heavy (plain {k} {ks} p r) = (omega (arith, p.0, p.1, balanced_even r), balanced_heavy r)
balanced_heavy (block {i} {ks} r s) = (
  omega (arith, balanced_even r, balanced_even s, opens_append i (closing ∷ ks), closes_append i (closing ∷ ks)),
  heavy_append i (closing ∷ ks) (balanced_heavy r) (omega (arith, balanced_even s), balanced_heavy s),
)

-- no end of balanced lines is an opening and balanced lines
pub no_open_end : (ks b i : List Kind) → Balanced ks → ks ≡ b ++ (opening ∷ i) → Balanced i → ⊥
no_open_end ks b i h e g =
    let w = heavy_all (opening ∷ i) (heavy_end b (opening ∷ i) (subst Heavy e (balanced_heavy h))) in
    omega (arith, w, balanced_even g)

-- no balanced lines go on with a closing within balanced lines
pub no_close_inside : (ks i a : List Kind) → Balanced ks → ks ≡ i ++ (closing ∷ a) → Balanced i → ⊥
no_close_inside ks i a h e g =
    let w = heavy_all a (heavy_end (i ++ (closing ∷ [])) a (subst Heavy (e ∙ sym (append_assoc i (closing ∷ []) a)) (balanced_heavy h))) in
    let x : opens ks ≡ opens i + (0 + opens a) = ap opens e ∙ opens_append i (closing ∷ a) in
    let y : closes ks ≡ closes i + (1 + closes a) = ap closes e ∙ closes_append i (closing ∷ a) in
    omega (arith, w, x, y, balanced_even g, balanced_even h)

pub balanced_none_open : (ks : List Kind) → Balanced ks → NoneOpen ks
balanced_none_open ks h b i inn = no_open_end ks b i h inn.0 inn.1

-- the innermost open package is one
pub innermost_one : (b i b' i' : List Kind) → b ++ (opening ∷ i) ≡ b' ++ (opening ∷ i') → Balanced i → Balanced i' → (b ≡ b') × (i ≡ i')
innermost_one [] i [] i' e h h' = (refl, tail-eq_of_cons-eq e)
innermost_one [] i (y ∷ b') i' e h h' = absurd (no_open_end i b' i' h (tail-eq_of_cons-eq e) h')
innermost_one (x ∷ b) i [] i' e h h' = absurd (no_open_end i' b i h' (sym (tail-eq_of_cons-eq e)) h)
innermost_one (x ∷ b) i (y ∷ b') i' e h h' =
    let r = innermost_one b i b' i' (tail-eq_of_cons-eq e) h h' in
    let x≡y = head-eq_of_cons-eq e in
    ((λ j. x≡y j ∷ r.0 j), r.1)

-- an opening is known by how many stand before it
pub opening_one : (b x b' x' : List Kind) → b ++ (opening ∷ x) ≡ b' ++ (opening ∷ x') → opens b ≡ opens b' → (b ≡ b') × (x ≡ x')
opening_one [] x [] x' e n = (refl, tail-eq_of_cons-eq e)
opening_one [] x (y ∷ b') x' e n = absurd (omega (arith, n, ap is_opening (head-eq_of_cons-eq e)))
opening_one (y ∷ b) x [] x' e n = absurd (omega (arith, n, ap is_opening (head-eq_of_cons-eq e)))
opening_one (y ∷ b) x (z ∷ b') x' e n =
    let y≡z = head-eq_of_cons-eq e in
    let r = opening_one b x b' x' (tail-eq_of_cons-eq e) (omega (arith, n, ap is_opening y≡z)) in
    ((λ j. y≡z j ∷ r.0 j), r.1)

-- each opening of balanced lines has its block
pub nth_block : {ks : List Kind} → Balanced ks → (j : ℕ) → j < opens ks → (u : List Kind) × (v : List Kind) × (w : List Kind) × Block ks u v w × (opens u ≡ j)
nth_block none j lt = absurd (omega arith)
nth_block (plain {k} {ks} p r) j lt =
    let z : is_opening k ≡ 0 = p.0 in
    let s = nth_block r j (omega (arith, lt, z)) in
    (k ∷ s.0, s.1, s.2, (ap (λ l. k ∷ l) s.3.0, s.3.1), omega (arith, z, s.4))
nth_block (block {i} {ks} r s) j lt =
    let all : opens (i ++ (closing ∷ ks)) ≡ opens i + opens ks = opens_append i (closing ∷ ks) ∙ omega arith in
    ⊎_elim
    (λ zero. ([], i, ks, (refl, r), omega arith))
    (λ more.
    ⊎_elim
    (λ inside.
    let t = nth_block r (j - 1) inside in
    (opening ∷ t.0, t.1, t.2 ++ (closing ∷ ks), (ap (λ l. opening ∷ (l ++ (closing ∷ ks))) t.3.0 ∙ simp append_assoc, t.3.1), omega (arith, t.4)))
    (λ after.
    let t = nth_block s (j - 1 - opens i) (omega (arith, lt, all)) in
    (opening ∷ (i ++ (closing ∷ t.0)), t.1, t.2, (ap (λ l. opening ∷ (i ++ (closing ∷ l))) t.3.0 ∙ simp append_assoc, t.3.1), omega (arith, opens_append i (closing ∷ t.0), t.4)))
    (cases_lt (j - 1) (opens i)))
    (cases_lt j 1)
