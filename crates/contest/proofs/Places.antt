-- The workspace as a list: place g of it is the g-th.
use Rattle.std.proofs.Common.{◌≡◌, ℕ, zero, suc, ◌+◌, ◌<◌, ◌≤◌, ◌≢◌, List, length, get_or, set, sym, refl, ap, ◌∙◌, subst, arith, length-set, get_or-set_other, get_or-set_same}
use Rattle.scales.specs.Semiring.{Semiring, Laws}
use Rattle.contest.specs.Contest.{Contest}
use Rattle.contest.specs.Total.{total_by}
use Rattle.contest.specs.Nest.{Nested, own, part}
use Rattle.contest.proofs.Pass.{Turn, Pass, pass_start, pass_turn, pass_end}
use Rattle.contest.proofs.Listing.{get_d_any}

abbrev pub place : {S M : Type 0} → (S → M) → S → List S → ℕ → M
place f d ws zero = f d
place f d ws (suc k) = f (get_or ws k d)

module _ {S M : Type 0} (f : S → M) (d : S) where
  place_same : (ws : List S) (g : ℕ) (t : S) → g < length ws → place f d (set ws g t) (suc g) ≡ f t
  place_same ws g t low = ap f (get_or-set_same ws g t d low)

  place_other : (ws : List S) (g : ℕ) (t : S) (h : ℕ) → h ≢ suc g → place f d (set ws g t) h ≡ place f d ws h
  place_other ws g t zero ne = refl
  place_other ws g t (suc h) ne = ap f (get_or-set_other ws g h t d (λ e. ne (ap suc e)))

  module _ (r : Semiring M) (parent : ℕ → ℕ) (count : ℕ) (ws : List S) (g : ℕ) (t res : S) (low : g < length ws) where
    pub turn_outermost : (res' : S) → parent (suc g) ≡ 0 → f res' ≡ r.mul (f res) (f t) → Turn r parent count (suc g) (f t) (place f d ws) (place f d (set ws g t)) (f res) (f res')
    turn_outermost res' root made = record {
      here = place_same ws g t low;
      others = λ h a b ne nu. place_other ws g t h ne;
      inner = λ up. absurd (omega arith);
      outermost = λ e. made;
    }

    pub turn_inner : (p : ℕ) (u : S) → parent (suc g) ≡ suc p → p < g → f u ≡ r.mul (f (get_or (set ws g t) p d)) (f t) → Turn r parent count (suc g) (f t) (place f d ws) (place f d (set (set ws g t) p u)) (f res) (f res)
    turn_inner p u up below made = record {
      here = place_other (set ws g t) p u (suc g) (omega arith) ∙ place_same ws g t low;
      others = λ h a b ne nu. place_other (set ws g t) p u h (λ e. nu (e ∙ sym up)) ∙ place_other ws g t h ne;
      inner = λ a. (ap (place f d (set (set ws g t) p u)) up ∙ place_same (set ws g t) p u (omega (arith, length-set ws g t)) ∙ made ∙ ap (λ x. r.mul x (f t)) (place_other ws g t (suc p) (omega arith) ∙ ap (place f d ws) (sym up)), refl);
      outermost = λ e. absurd (omega (arith, up));
    }

-- the pass over a workspace, with `left` packages to do
abbrev pub Passing : {S M : Type 0} → (S → M) → Semiring M → Contest → (ℕ → ℕ) → (ℕ → ℕ) → ℕ → (ℕ → M) → List S → S → ℕ → Type 0
Passing {S} f r c parent on count w work result left = (d : S) → Pass r parent count (part r c on w parent) (place f d work) (f result) left

module _ {S M : Type 0} (f : S → M) {r : Semiring M} (laws : Laws r) (c : Contest) (parent on : ℕ → ℕ) (count : ℕ) (nested : Nested c parent on count) (w : ℕ → M) where
  pub passing_start : (work : List S) (result : S) → count ≤ length work → ((k : ℕ) (d : S) → k < count → f (get_or work k d) ≡ r.unit) → f result ≡ r.unit → Passing f r c parent on count w work result count
  passing_start work result room units one d = pass_start r parent count _ (place f d work) (f result) ones one
    where
      ones : (h : ℕ) → 1 ≤ h → h ≤ count → place f d work h ≡ r.unit
      ones zero a b = absurd (omega arith)
      ones (suc h) a b = units h d (omega arith)

  module _ (work : List S) (result x t : S) (left i : ℕ) (is : left ≡ suc i) (high : left ≤ count) (room : count ≤ length work) (pass : Passing f r c parent on count w work result left) (read : x ≡ get_or work i x) (made : f t ≡ r.add (f x) (own r c on w (i + 1))) where
    turned : (d : S) (work' : List S) (result' : S) → Turn r parent count (suc i) (f t) (place f d work) (place f d work') (f result) (f result') → Pass r parent count (part r c on w parent) (place f d work') (f result') i
    turned d work' result' turn =
        let next : i + 1 ≡ suc i = omega arith in
        let here : x ≡ get_or work i d = read ∙ get_d_any work i x d (omega (arith, is, high, room)) in
        pass_turn laws c parent on count nested w (place f d work) (place f d work') (f result) (f result') (f t) i (omega (arith, is, high))
        (subst (Pass r parent count (part r c on w parent) (place f d work) (f result)) is (pass d))
        (made ∙ ap (λ y. r.add (f y) (own r c on w (i + 1))) here ∙ ap (λ k. r.add (f (get_or work i d)) (own r c on w k)) next)
        turn

    pub passing_outermost : (result' : S) → parent (suc i) ≡ 0 → f result' ≡ r.mul (f result) (f t) → Passing f r c parent on count w (set work i t) result' i
    passing_outermost result' root done d =
        turned d (set work i t) result' (turn_outermost f d r parent count work i t result (omega (arith, is, high, room)) result' root done)

    pub passing_inner : (p : ℕ) (y u : S) → parent (suc i) ≡ suc p → y ≡ get_or (set work i t) p y → f u ≡ r.mul (f y) (f t) → Passing f r c parent on count w (set (set work i t) p u) result i
    passing_inner p y u up read' done d =
        let below : p < i = omega (arith, nested.falls (suc i), up) in
        turned d (set (set work i t) p u) result (turn_inner f d r parent count work i t result (omega (arith, is, high, room)) p u up below
        (done ∙ ap (λ z. r.mul (f z) (f t)) (read' ∙ get_d_any (set work i t) p y d (omega (arith, length-set work i t, is, high, room)))))

  pub passing_end : (work : List S) (result : S) → Passing f r c parent on count w work result 0 → f result ≡ total_by r c w
  passing_end work result pass = pass_end laws c parent on count nested w (place f result work) (f result) (pass result)

  pub passing_parts : (work : List S) (result : S) → Passing f r c parent on count w work result 0 → (g : ℕ) (d : S) → g < count → f (get_or work g d) ≡ part r c on w parent (g + 1)
  passing_parts work result pass g d high =
      let next : suc g ≡ g + 1 = omega arith in
      (pass d).done (suc g) (omega arith) high ∙ ap (part r c on w parent) next
