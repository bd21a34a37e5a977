-- One pass over the packages from the last to the first.
use Rattle.std.proofs.Common.{◌≡◌, ℕ, zero, suc, ◌+◌, ◌-◌, ◌<◌, ◌≤◌, Bool, true, false, cond, eqb, ◌≢◌, List, ◌∷◌, sym, refl, ap, ◌∙◌, ap₂, ⊎_elim, arith}
use Rattle.std.proofs.lemmas.Bool.{eq-eqb, ne_eqb, cases_eq}
use Rattle.scales.specs.Semiring.{Semiring, Laws}
use Rattle.contest.specs.Contest.{Contest}
use Rattle.contest.specs.Total.{from, keep, product_by, total_by}
use Rattle.contest.specs.Nest.{Falling, Nested, children, own, part}
use Rattle.contest.proofs.Totals.{part_is, total_is}

-- leave out a front of which nothing is kept
keep_skip : (q : ℕ → Bool) (k first m n : ℕ) → m ≡ k + n → ((x : ℕ) → first ≤ x → x < first + k → q x ≡ false) → keep q (from first m) ≡ keep q (from (first + k) n)
keep_skip q zero first m n e none =
    let same : m ≡ n = omega arith in
    let start : first ≡ first + 0 = omega arith in
    ap₂ (λ a b. keep q (from a b)) start same
keep_skip q (suc k) first zero n e none = absurd (omega arith)
keep_skip q (suc k) first (suc m) n e none =
    let start : suc first + k ≡ first + suc k = omega arith in
    ap (λ v. cond v (first ∷ keep q (from (suc first) m)) (keep q (from (suc first) m))) (none first (omega arith) (omega arith))
    ∙ keep_skip q k (suc first) m n (omega arith) (λ x h l. none x (omega arith) (omega arith))
    ∙ ap (λ a. keep q (from a n)) start

-- What one turn does: finish package g with the value t, and hand that to its parent, or to the result.
pub record Turn {M : Type 0} (r : Semiring M) (parent : ℕ → ℕ) (count g : ℕ) (t : M) (work work' : ℕ → M) (result result' : M) : Type 0 where
  pub here : work' g ≡ t
  pub others : (h : ℕ) → 1 ≤ h → h ≤ count → h ≢ g → h ≢ parent g → work' h ≡ work h
  pub inner : 1 ≤ parent g → (work' (parent g) ≡ r.mul (work (parent g)) t) × (result' ≡ result)
  pub outermost : parent g ≡ 0 → result' ≡ r.mul result t

module _ {M : Type 0} (r : Semiring M) (parent : ℕ → ℕ) (count : ℕ) (T : ℕ → M) where
  -- the product over the children of h with a number above `left`
  abbrev pub gather : ℕ → ℕ → M
  gather h left = product_by r T (keep (λ c. eqb (parent c) h) (from (suc left) (count - left)))

  -- With packages 1 to `left` still to do: each of them holds the product over its finished children, and each other its total.
  pub record Pass (work : ℕ → M) (result : M) (left : ℕ) : Type 0 where
    pub waiting : (h : ℕ) → 1 ≤ h → h ≤ left → work h ≡ gather h left
    pub done : (h : ℕ) → left < h → h ≤ count → work h ≡ T h
    pub outer : result ≡ gather 0 left

  gather_none : (h : ℕ) → gather h count ≡ r.unit
  gather_none h =
      let none : count - count ≡ 0 = omega arith in
      ap (λ m. product_by r T (keep (λ c. eqb (parent c) h) (from (suc count) m))) none

  gather_next : (h g : ℕ) → suc g ≤ count → gather h g ≡ cond (eqb (parent (suc g)) h) (r.mul (T (suc g)) (gather h (suc g))) (gather h (suc g))
  gather_next h g low =
      let more : count - g ≡ suc (count - suc g) = omega arith in
      ap (λ m. product_by r T (keep (λ c. eqb (parent c) h) (from (suc g) m))) more ∙ go (eqb (parent (suc g)) h) (keep (λ c. eqb (parent c) h) (from (suc (suc g)) (count - suc g)))
    where
      go : (v : Bool) (l : List ℕ) → product_by r T (cond v (suc g ∷ l) l) ≡ cond v (r.mul (T (suc g)) (product_by r T l)) (product_by r T l)
      go true l = refl
      go false l = refl

  gather_child : (h g : ℕ) → suc g ≤ count → parent (suc g) ≡ h → gather h g ≡ r.mul (T (suc g)) (gather h (suc g))
  gather_child h g low e =
      gather_next h g low ∙ ap (λ v. cond v (r.mul (T (suc g)) (gather h (suc g))) (gather h (suc g))) (eq-eqb _ _ e)

  gather_other : (h g : ℕ) → suc g ≤ count → parent (suc g) ≢ h → gather h g ≡ gather h (suc g)
  gather_other h g low ne =
      gather_next h g low ∙ ap (λ v. cond v (r.mul (T (suc g)) (gather h (suc g))) (gather h (suc g))) (ne_eqb _ _ ne)

  gather_all : Falling parent → (g : ℕ) → g ≤ count → product_by r T (children parent count g) ≡ gather g g
  gather_all falls g low =
      ap (product_by r T) (keep_skip (λ c. eqb (parent c) g) g 1 count (count - g) (omega arith) (λ x h l. ne_eqb _ _ (λ e. omega (arith, falls x, e)))
      ∙ ap (λ a. keep (λ c. eqb (parent c) g) (from a (count - g))) (let start : 1 + g ≡ suc g = omega arith in start))

  pub pass_start : (work : ℕ → M) (result : M) → ((h : ℕ) → 1 ≤ h → h ≤ count → work h ≡ r.unit) → result ≡ r.unit → Pass work result count
  pass_start work result ones one = record {
    waiting = λ h a b. ones h a b ∙ sym (gather_none h);
    done = λ h a b. absurd (omega arith);
    outer = one ∙ sym (gather_none 0);
  }

module _ {M : Type 0} {r : Semiring M} (laws : Laws r) (c : Contest) (parent on : ℕ → ℕ) (count : ℕ) (nested : Nested c parent on count) (w : ℕ → M) where
  abbrev T : ℕ → M
  T = part r c on w parent

  turn_total : (work : ℕ → M) (result : M) (g : ℕ) → suc g ≤ count → Pass r parent count T work result (suc g) → r.add (work (suc g)) (own r c on w (suc g)) ≡ T (suc g)
  turn_total work result g low pass =
      ap (λ x. r.add x (own r c on w (suc g))) (pass.waiting (suc g) (omega arith) (omega arith) ∙ sym (gather_all r parent count T nested.falls (suc g) low))
      ∙ sym (part_is laws c parent on count nested w (suc g))

  pub pass_turn : (work work' : ℕ → M) (result result' t : M) (g : ℕ) → suc g ≤ count → Pass r parent count T work result (suc g) → t ≡ r.add (work (suc g)) (own r c on w (suc g)) → Turn r parent count (suc g) t work work' result result' → Pass r parent count T work' result' g
  pass_turn work work' result result' t g low pass made turn =
      let up : parent (suc g) ≤ g = omega (arith, nested.falls (suc g)) in
      let whole : t ≡ T (suc g) = made ∙ turn_total work result g low pass in
      let pushed : (h : ℕ) (x : M) → x ≡ gather r parent count T h (suc g) → r.mul x t ≡ r.mul (T (suc g)) (gather r parent count T h (suc g)) = λ h x e. ap₂ r.mul e whole ∙ laws.mul_comm _ _ in
      record {
        waiting = λ h a b. ⊎_elim
            (λ e. ap work' (sym e) ∙ (turn.inner (omega arith)).0 ∙ ap (λ x. r.mul (work x) t) e ∙ pushed h (work h) (pass.waiting h a (omega arith)) ∙ sym (gather_child r parent count T h g low e))
            (λ ne. turn.others h a (omega arith) (omega arith) (λ e. ne (sym e)) ∙ pass.waiting h a (omega arith) ∙ sym (gather_other r parent count T h g low ne))
            (cases_eq (parent (suc g)) h);
        done = λ h a b. ⊎_elim
            (λ e. ap work' e ∙ turn.here ∙ whole ∙ ap T (sym e))
            (λ ne. turn.others h (omega arith) b ne (omega arith) ∙ pass.done h (omega arith) b)
            (cases_eq h (suc g));
        outer = ⊎_elim
            (λ e. turn.outermost e ∙ pushed 0 result pass.outer ∙ sym (gather_child r parent count T 0 g low e))
            (λ ne. (turn.inner (omega arith)).1 ∙ pass.outer ∙ sym (gather_other r parent count T 0 g low ne))
            (cases_eq (parent (suc g)) 0);
      }

  pub pass_end : (work : ℕ → M) (result : M) → Pass r parent count T work result 0 → result ≡ total_by r c w
  pass_end work result pass =
      pass.outer ∙ sym (gather_all r parent count T nested.falls 0 (omega arith)) ∙ sym (total_is laws c parent on count nested w)
