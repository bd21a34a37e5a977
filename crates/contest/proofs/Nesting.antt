-- Packages in a nest: what lies inside what.
use Rattle.std.proofs.Common.{◌≡◌, ℕ, zero, suc, ◌+◌, ◌<◌, ◌≤◌, Bool, true, false, ◌&&◌, ◌||◌, eqb, ◌≢◌, ◌⊎◌, List, [], ◌∷◌, sym, refl, ap, ◌∙◌, inl, inr, ⊎_elim, arith}
use mathlib.Core.Bool.{false≢true}
use Rattle.std.proofs.lemmas.Bool.{eqb-true, eq-eqb, or_cases, or_left, or_right, and_parts, and_from, cases_eq}
use Rattle.contest.specs.Total.{from}
use Rattle.contest.specs.Nest.{Falling, reaches, inside}

or_same : (b : Bool) → b ≡ (b || b)
or_same true = refl
or_same false = refl

module _ (parent : ℕ → ℕ) (falls : Falling parent) where
  reaches_root : (k g h : ℕ) → h ≤ 0 → reaches parent k g h ≡ eqb h g
  reaches_root zero g h root = refl
  reaches_root (suc k) g h root =
      let up : parent h ≡ h = omega (arith, falls h) in
      let rest : reaches parent k g (parent h) ≡ eqb h g = reaches_root k g (parent h) (omega arith) ∙ ap (λ x. eqb x g) up in
      ap (λ v. eqb h g || v) rest ∙ sym (or_same (eqb h g))

  -- h steps up from h are enough
  reaches_more : (k l g h : ℕ) → h ≤ k → h ≤ l → reaches parent k g h ≡ reaches parent l g h
  reaches_more zero l g h a b = sym (reaches_root l g h a)
  reaches_more (suc k) zero g h a b = reaches_root (suc k) g h b
  reaches_more (suc k) (suc l) g h a b =
      ap (λ v. eqb h g || v) (reaches_more k l g (parent h) (omega (arith, falls h)) (omega (arith, falls h)))

  pub inside_step : (g h : ℕ) → inside parent g h ≡ (eqb h g || inside parent g (parent h))
  inside_step g h =
      reaches_more h (suc h) g h (omega arith) (omega arith) ∙ ap (λ v. eqb h g || v) (reaches_more h (parent h) g (parent h) (omega (arith, falls h)) (omega arith))

  pub inside_self : (g : ℕ) → inside parent g g ≡ true
  inside_self g = inside_step g g ∙ or_left _ _ (eq-eqb g g refl)

  pub inside_up : (g h : ℕ) → inside parent g (parent h) ≡ true → inside parent g h ≡ true
  inside_up g h e = inside_step g h ∙ or_right _ _ e

  -- A child lies inside its parent.
  pub inside_parent : (g c : ℕ) → parent c ≡ g → inside parent g c ≡ true
  inside_parent g c e = inside_up g c (ap (inside parent g) e ∙ inside_self g)

  pub inside_cases : (g h : ℕ) → inside parent g h ≡ true → (h ≡ g) ⊎ (inside parent g (parent h) ≡ true)
  inside_cases g h e = ⊎_elim (λ a. inl (eqb-true h g a)) (λ b. inr b) (or_cases _ _ (sym (inside_step g h) ∙ e))

  root_only : (g h : ℕ) → h ≤ 0 → inside parent g h ≡ true → h ≡ g
  root_only g h root e = eqb-true h g (sym (reaches_root h g h root) ∙ e)

  -- Induction up the nest, with k at least the number of the package.
  le_by : (k g h : ℕ) → h ≤ k → inside parent g h ≡ true → g ≤ h
  le_by zero g h a e = omega (arith, root_only g h a e)
  le_by (suc k) g h a e =
      ⊎_elim (λ s. omega (arith, s)) (λ u. omega (arith, le_by k g (parent h) (omega (arith, falls h)) u, falls h)) (inside_cases g h e)

  pub inside_le : (g h : ℕ) → inside parent g h ≡ true → g ≤ h
  inside_le g h = le_by h g h (omega arith)

  root_by : (k h : ℕ) → h ≤ k → inside parent 0 h ≡ true
  root_by zero h l = reaches_root h 0 h l ∙ eq-eqb h 0 (omega arith)
  root_by (suc k) h l = inside_up 0 h (root_by k (parent h) (omega (arith, falls h)))

  -- 0 is above every package.
  pub inside_root : (h : ℕ) → inside parent 0 h ≡ true
  inside_root h = root_by h h (omega arith)

  trans_by : (k a b h : ℕ) → h ≤ k → inside parent a b ≡ true → inside parent b h ≡ true → inside parent a h ≡ true
  trans_by zero a b h l e f = ap (inside parent a) (root_only b h l f) ∙ e
  trans_by (suc k) a b h l e f =
      ⊎_elim (λ s. ap (inside parent a) s ∙ e) (λ u. inside_up a h (trans_by k a b (parent h) (omega (arith, falls h)) e u)) (inside_cases b h f)

  pub inside_trans : (a b h : ℕ) → inside parent a b ≡ true → inside parent b h ≡ true → inside parent a h ≡ true
  inside_trans a b h = trans_by h a b h (omega arith)

  linear_by : (k a b h : ℕ) → h ≤ k → inside parent a h ≡ true → inside parent b h ≡ true → (inside parent a b ≡ true) ⊎ (inside parent b a ≡ true)
  linear_by zero a b h l e f = inl (ap (inside parent a) (sym (root_only b h l f)) ∙ e)
  linear_by (suc k) a b h l e f =
      ⊎_elim (λ s. inr (ap (inside parent b) (sym s) ∙ f))
      (λ u. ⊎_elim (λ s. inl (ap (inside parent a) (sym s) ∙ e)) (λ v. linear_by k a b (parent h) (omega (arith, falls h)) u v) (inside_cases b h f))
      (inside_cases a h e)

  -- Of two packages around a third one lies inside the other.
  pub inside_linear : (a b h : ℕ) → inside parent a h ≡ true → inside parent b h ≡ true → (inside parent a b ≡ true) ⊎ (inside parent b a ≡ true)
  inside_linear a b h = linear_by h a b h (omega arith)

  -- A later package is not around its sibling.
  not_around : (c d : ℕ) → 0 < c → c ≢ d → parent c ≡ parent d → inside parent c d ≡ true → ⊥
  not_around c d pos ne same e =
      ⊎_elim (λ s. ne (sym s)) (λ u. omega (arith, inside_le c (parent d) u, falls c)) (inside_cases c d e)

  -- Nothing lies inside two children of one package.
  pub siblings : (c d h : ℕ) → 0 < c → 0 < d → c ≢ d → parent c ≡ parent d → inside parent c h ≡ true → inside parent d h ≡ true → ⊥
  siblings c d h pc pd ne same e f =
      ⊎_elim (not_around c d pc ne same) (not_around d c pd (λ s. ne (sym s)) (sym same)) (inside_linear c d h e f)

  abbrev pub Child : ℕ → ℕ → Type 0
  Child g h = (c : ℕ) × (parent c ≡ g) × (g < c) × (c ≤ h) × (inside parent c h ≡ true)

  child_by : (k g h : ℕ) → h ≤ k → inside parent g h ≡ true → h ≢ g → Child g h
  child_by zero g h l e ne = absurd (ne (root_only g h l e))
  child_by (suc k) g h l e ne =
      ⊎_elim (λ s. absurd (ne s))
      (λ u. ⊎_elim (λ s. (h, s, omega (arith, falls h), omega arith, inside_self h))
      (λ ns. let t = child_by k g (parent h) (omega (arith, falls h)) u ns in (t.0, t.1, t.2, omega (arith, falls h, t.3), inside_up t.0 h t.4))
      (cases_eq (parent h) g))
      (inside_cases g h e)

  -- What lies properly inside a package lies inside a child of it.
  pub inside_child : (g h : ℕ) → inside parent g h ≡ true → h ≢ g → Child g h
  inside_child g h = child_by h g h (omega arith)

  -- h lies inside a child of g among the listed packages.
  abbrev pub under : ℕ → List ℕ → ℕ → Bool
  under g [] h = false
  under g (c ∷ cs) h = (eqb (parent c) g && inside parent c h) || under g cs h

  abbrev pub Listed : ℕ → ℕ → ℕ → ℕ → Type 0
  Listed g first m h = (c : ℕ) × (first ≤ c) × (c < first + m) × (parent c ≡ g) × (inside parent c h ≡ true)

  pub under_child : (g first m h : ℕ) → under g (from first m) h ≡ true → Listed g first m h
  under_child g first zero h e = absurd (false≢true e)
  under_child g first (suc m) h e =
      ⊎_elim (λ a. let b = and_parts _ _ a in (first, omega arith, omega arith, eqb-true _ _ b.0, b.1))
      (λ a. let t = under_child g (suc first) m h a in (t.0, omega (arith, t.1), omega (arith, t.2), t.3, t.4))
      (or_cases _ _ e)

  pub child_under : (g first m h c : ℕ) → first ≤ c → c < first + m → parent c ≡ g → inside parent c h ≡ true → under g (from first m) h ≡ true
  child_under g first zero h c a b e f = absurd (omega arith)
  child_under g first (suc m) h c a b e f =
      ⊎_elim (λ s. or_left _ _ (and_from _ _ (eq-eqb _ _ (ap parent s ∙ e)) (ap (λ x. inside parent x h) s ∙ f)))
      (λ ns. or_right _ _ (child_under g (suc first) m h c (omega arith) (omega arith) e f))
      (cases_eq first c)
