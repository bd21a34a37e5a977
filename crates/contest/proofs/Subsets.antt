-- The lists that a total goes through, as sets of bids.
use Rattle.std.proofs.Common.{◌≡◌, ℕ, zero, suc, ◌+◌, ◌<◌, ◌≤◌, Bool, true, false, cond, not, ◌⊎◌, List, [], ◌∷◌, ◌++◌, map, sym, refl, ap, ◌∙◌, subst, ap₂, inl, inr, ⊎_elim, arith}
use Rattle.std.proofs.lemmas.Bool.{cases_eq, both_ways, and_parts, and_from, not-true, not_from_false, cond-true, cond-false}
use Rattle.contest.specs.Contest.{Contest, Bids, none, adding, sum_over, ClashFree}
use Rattle.contest.specs.Theorems.{TotalKeeps}
use Rattle.contest.specs.Total.{from, subsets, keep, apart, clash_free}
use Rattle.contest.proofs.Sets.{false_since, adding_same, adding_other, adding_cases}

abbrev pub In : {A : Type 0} → A → List A → Type 0
In a [] = ⊥
In a (x ∷ xs) = (a ≡ x) ⊎ In a xs

pub in_left : {A : Type 0} (a : A) (xs ys : List A) → In a xs → In a (xs ++ ys)
in_left a [] ys h = absurd h
in_left a (x ∷ xs) ys (inl e) = inl e
in_left a (x ∷ xs) ys (inr h) = inr (in_left a xs ys h)

pub in_right : {A : Type 0} (a : A) (xs ys : List A) → In a ys → In a (xs ++ ys)
in_right a [] ys h = h
in_right a (x ∷ xs) ys h = inr (in_right a xs ys h)

pub in_append : {A : Type 0} (a : A) (xs ys : List A) → In a (xs ++ ys) → In a xs ⊎ In a ys
in_append a [] ys h = inr h
in_append a (x ∷ xs) ys (inl e) = inl (inl e)
in_append a (x ∷ xs) ys (inr h) = ⊎_elim (λ l. inl (inr l)) inr (in_append a xs ys h)

pub in_map : {A B : Type 0} (f : A → B) (a : A) (xs : List A) → In a xs → In (f a) (map f xs)
in_map f a [] h = absurd h
in_map f a (x ∷ xs) (inl e) = inl (ap f e)
in_map f a (x ∷ xs) (inr h) = inr (in_map f a xs h)

pub in_mapped : {A B : Type 0} (f : A → B) (b : B) (xs : List A) → In b (map f xs) → (a : A) × In a xs × (b ≡ f a)
in_mapped f b [] h = absurd h
in_mapped f b (x ∷ xs) (inl e) = (x, inl refl, e)
in_mapped f b (x ∷ xs) (inr h) = (let r = in_mapped f b xs h in (r.0, inr r.1, r.2))

-- The members of s among m numbers from k on, in rising order.
abbrev pub listed : ℕ → ℕ → Bids → List ℕ
listed k m s = keep s (from k m)

-- The members of s are among m numbers from k on.
abbrev pub Among : ℕ → ℕ → Bids → Type 0
Among k m s = (j : ℕ) → s j ≡ true → (k ≤ j) × (j < k + m)

-- A set's list is gone through.
pub listed_in : (k m : ℕ) (s : Bids) → In (listed k m s) (subsets (from k m))
listed_in k zero s = inl refl
listed_in k (suc m) s = go (s k) (listed_in (suc k) m s)
  where
    go : (w : Bool) → In (listed (suc k) m s) (subsets (from (suc k) m)) → In (cond w (k ∷ listed (suc k) m s) (listed (suc k) m s)) (subsets (from (suc k) m) ++ map (λ t. k ∷ t) (subsets (from (suc k) m)))
    go true h = in_right _ (subsets (from (suc k) m)) _ (in_map (λ t. k ∷ t) (listed (suc k) m s) (subsets (from (suc k) m)) h)
    go false h = in_left _ (subsets (from (suc k) m)) _ h

-- Sets that agree from k on have the same list there.
pub listed_same : (k m : ℕ) (s t : Bids) → ((j : ℕ) → k ≤ j → s j ≡ t j) → listed k m s ≡ listed k m t
listed_same k zero s t h = refl
listed_same k (suc m) s t h =
    ap₂ (λ w l. cond w (k ∷ l) l) (h k (omega arith)) (listed_same (suc k) m s t (λ j p. h j (omega arith)))

-- What is gone through is a set's list.
pub in_listed : (k m : ℕ) (xs : List ℕ) → In xs (subsets (from k m)) → (s : Bids) × Among k m s × (xs ≡ listed k m s)
in_listed k zero xs (inl e) = (none, λ j h. absurd (both_ways false refl h), e)
in_listed k zero xs (inr h) = absurd h
in_listed k (suc m) xs h =
    elim (in_append xs (subsets (from (suc k) m)) (map (λ t. k ∷ t) (subsets (from (suc k) m))) h) [
      | inl l ↦ skipped (in_listed (suc k) m xs l)
      | inr i ↦ (let w = in_mapped (λ t. k ∷ t) xs (subsets (from (suc k) m)) i in taken w.0 w.2 (in_listed (suc k) m w.0 w.1))
    ]
  where
    skipped : (s : Bids) × Among (suc k) m s × (xs ≡ listed (suc k) m s) → (s : Bids) × Among k (suc m) s × (xs ≡ listed k (suc m) s)
    skipped w =
        let s = w.0 in
        let a = w.1 in
        (s, λ j g. (let b = a j g in (omega arith, omega arith)), w.2 ∙ sym (cond-false (s k) (k ∷ listed (suc k) m s) (listed (suc k) m s) (false_since (s k) (λ g. (let b = a k g in omega arith)))))

    taken : (ys : List ℕ) → xs ≡ k ∷ ys → (s : Bids) × Among (suc k) m s × (ys ≡ listed (suc k) m s) → (s : Bids) × Among k (suc m) s × (xs ≡ listed k (suc m) s)
    taken ys e w =
        let s = w.0 in
        let a = w.1 in
        let same : listed (suc k) m (adding k s) ≡ listed (suc k) m s = listed_same (suc k) m (adding k s) s (λ j p. adding_other k s j (λ d. omega arith)) in
        (adding k s, λ j g. ⊎_elim (λ d. (omega arith, omega arith)) (λ d. (let b = a j d in (omega arith, omega arith))) (adding_cases k s j g), e ∙ ap (λ l. k ∷ l) (w.2 ∙ sym same) ∙ sym (cond-true (adding k s k) (k ∷ listed (suc k) m (adding k s)) (listed (suc k) m (adding k s)) (adding_same k s)))

-- What is in a set's list.
pub listed_has : (k m : ℕ) (s : Bids) (j : ℕ) → k ≤ j → j < k + m → s j ≡ true → In j (listed k m s)
listed_has k zero s j p q h = absurd (omega arith)
listed_has k (suc m) s j p q h =
    ⊎_elim
    (λ e. subst (In j) (sym (cond-true (s k) (k ∷ listed (suc k) m s) (listed (suc k) m s) (ap s (sym e) ∙ h))) (inl e))
    (λ d. go (s k) (listed_has (suc k) m s j (omega arith) (omega arith) h))
    (cases_eq j k)
  where
    go : (w : Bool) → In j (listed (suc k) m s) → In j (cond w (k ∷ listed (suc k) m s) (listed (suc k) m s))
    go true i = inr i
    go false i = i

pub has_listed : (k m : ℕ) (s : Bids) (j : ℕ) → In j (listed k m s) → (k ≤ j) × (j < k + m) × (s j ≡ true)
has_listed k zero s j i = absurd i
has_listed k (suc m) s j i = go (s k) refl i (has_listed (suc k) m s j)
  where
    go : (w : Bool) → s k ≡ w → In j (cond w (k ∷ listed (suc k) m s) (listed (suc k) m s)) → (In j (listed (suc k) m s) → (suc k ≤ j) × (j < suc k + m) × (s j ≡ true)) → (k ≤ j) × (j < k + suc m) × (s j ≡ true)
    go true e (inl d) r = (omega arith, omega arith, ap s d ∙ e)
    go true e (inr d) r = (let b = r d in (omega arith, omega arith, b.2))
    go false e d r = (let b = r d in (omega arith, omega arith, b.2))

-- The test of a list, by its members: each stands, and none clashes with a later one.
pub apart_at : (clash : ℕ → ℕ → Bool) (b : ℕ) (xs : List ℕ) → apart clash b xs ≡ true → (j : ℕ) → In j xs → clash b j ≡ false
apart_at clash b [] e j i = absurd i
apart_at clash b (x ∷ xs) e j (inl d) = ap (clash b) d ∙ not-true _ (and_parts (not (clash b x)) _ e).0
apart_at clash b (x ∷ xs) e j (inr i) = apart_at clash b xs (and_parts (not (clash b x)) _ e).1 j i

pub apart_from : (clash : ℕ → ℕ → Bool) (b : ℕ) (xs : List ℕ) → ((j : ℕ) → In j xs → clash b j ≡ false) → apart clash b xs ≡ true
apart_from clash b [] h = refl
apart_from clash b (x ∷ xs) h = and_from _ _ (not_from_false _ (h x (inl refl))) (apart_from clash b xs (λ j i. h j (inr i)))

-- A list rises, from k on.
abbrev pub Rising : ℕ → List ℕ → Type 0
Rising k [] = Unit {0}
Rising k (x ∷ xs) = (k ≤ x) × Rising (suc x) xs

pub rising_less : (j k : ℕ) (xs : List ℕ) → j ≤ k → Rising k xs → Rising j xs
rising_less j k [] l r = tt
rising_less j k (x ∷ xs) l r = (let a = r.0 in (omega arith, r.1))

pub rising_at : (k : ℕ) (xs : List ℕ) → Rising k xs → (j : ℕ) → In j xs → k ≤ j
rising_at k [] r j i = absurd i
rising_at k (x ∷ xs) r j (inl e) = (let a = r.0 in omega arith)
rising_at k (x ∷ xs) r j (inr i) = (let a = r.0 in let b = rising_at (suc x) xs r.1 j i in omega arith)

pub listed_rising : (k m : ℕ) (s : Bids) → Rising k (listed k m s)
listed_rising k zero s = tt
listed_rising k (suc m) s = go (s k) (listed_rising (suc k) m s)
  where
    go : (w : Bool) → Rising (suc k) (listed (suc k) m s) → Rising k (cond w (k ∷ listed (suc k) m s) (listed (suc k) m s))
    go true r = (omega arith, r)
    go false r = rising_less k (suc k) (listed (suc k) m s) (omega arith) r

-- Each member stands, and no two clash.
pub record FreeList (c : Contest) (xs : List ℕ) : Type 0 where
  pub standing : (j : ℕ) → In j xs → c.stands j ≡ true
  pub pairs : (i j : ℕ) → i < j → In i xs → In j xs → c.clash i j ≡ false

pub test_free : (c : Contest) (k : ℕ) (xs : List ℕ) → Rising k xs → clash_free c.stands c.clash xs ≡ true → FreeList c xs
test_free c k [] r e = record { standing = λ j i. absurd i; pairs = λ i j l p q. absurd p }
test_free c k (x ∷ xs) r e =
    let both = and_parts (c.stands x) _ e in
    let rest = and_parts (apart c.clash x xs) _ both.1 in
    let ih = test_free c (suc x) xs r.1 rest.1 in
    record { standing = λ j i. ⊎_elim (λ d. ap c.stands d ∙ both.0) (ih.standing j) i; pairs = λ i j l p q. go rest.0 ih i j l p q }
  where
    go : apart c.clash x xs ≡ true → FreeList c xs → (i j : ℕ) → i < j → (i ≡ x) ⊎ In i xs → (j ≡ x) ⊎ In j xs → c.clash i j ≡ false
    go a ih i j l (inl p) (inl q) = absurd (omega arith)
    go a ih i j l (inl p) (inr q) = ap (λ h. c.clash h j) p ∙ apart_at c.clash x xs a j q
    go a ih i j l (inr p) (inl q) = (let b = rising_at (suc x) xs r.1 i p in absurd (omega arith))
    go a ih i j l (inr p) (inr q) = ih.pairs i j l p q

pub free_test : (c : Contest) (k : ℕ) (xs : List ℕ) → Rising k xs → FreeList c xs → clash_free c.stands c.clash xs ≡ true
free_test c k [] r f = refl
free_test c k (x ∷ xs) r f =
    and_from _ _ (f.standing x (inl refl)) (and_from _ _ (apart_from c.clash x xs (λ j i. f.pairs x j (rising_at (suc x) xs r.1 j i) (inl refl) (inr i))) (free_test c (suc x) xs r.1 (record { standing = λ j i. f.standing j (inr i); pairs = λ i j l p q. f.pairs i j l (inr p) (inr q) })))

-- The test says of a set's list that the set is clash-free.
pub passes_free : (c : Contest) (s : Bids) → Among 1 c.count s → clash_free c.stands c.clash (listed 1 c.count s) ≡ true → ClashFree c s
passes_free c s a e =
    let f = test_free c 1 (listed 1 c.count s) (listed_rising 1 c.count s) e in
    let has : (k : ℕ) → s k ≡ true → In k (listed 1 c.count s) = λ k h. (let b = a k h in listed_has 1 c.count s k b.0 b.1 h) in
    record {
      numbered = λ k h. (let b = a k h in (b.0, omega arith));
      standing = λ k h. f.standing k (has k h);
      apart = λ j k l g h. f.pairs j k l (has j g) (has k h);
    }

pub free_passes : (c : Contest) (s : Bids) → ClashFree c s → clash_free c.stands c.clash (listed 1 c.count s) ≡ true
free_passes c s f =
    free_test c 1 (listed 1 c.count s) (listed_rising 1 c.count s) (record {
      standing = λ j i. f.standing j (has_listed 1 c.count s j i).2;
      pairs = λ i j l p q. f.apart i j l (has_listed 1 c.count s i p).2 (has_listed 1 c.count s j q).2;
    })

-- The sum of f over a list, and over a set's list.
abbrev pub list_sum : (ℕ → ℕ) → List ℕ → ℕ
list_sum f [] = 0
list_sum f (x ∷ xs) = f x + list_sum f xs

pub listed_sum_from : (k m : ℕ) (s : Bids) (f : ℕ → ℕ) → sum_over (k + m) s f ≡ sum_over k s f + list_sum f (listed (suc k) m s)
listed_sum_from k zero s f = (let e : k + 0 ≡ k = omega arith in ap (λ n. sum_over n s f) e ∙ omega arith)
listed_sum_from k (suc m) s f =
    let e : k + suc m ≡ suc k + m = omega arith in
    let ih = listed_sum_from (suc k) m s f in
    ap (λ n. sum_over n s f) e ∙ ih ∙ go (s (suc k))
  where
    go : (w : Bool) → (sum_over k s f + cond w (f (suc k)) 0) + list_sum f (listed (suc (suc k)) m s) ≡ sum_over k s f + list_sum f (cond w (suc k ∷ listed (suc (suc k)) m s) (listed (suc (suc k)) m s))
    go true = omega arith
    go false = omega arith

pub listed_sum : (n : ℕ) (s : Bids) (f : ℕ → ℕ) → sum_over n s f ≡ list_sum f (listed 1 n s)
listed_sum n s f = (let e : 0 + n ≡ n = omega arith in let h = listed_sum_from 0 n s f in ap (λ m. sum_over m s f) (sym e) ∙ h ∙ omega arith)

pub total_keeps : TotalKeeps
total_keeps c s numbered =
    (λ e. passes_free c s (λ k h. let n = numbered k h in (n.0, omega arith)) e, free_passes c s)
