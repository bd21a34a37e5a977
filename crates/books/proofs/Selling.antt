-- The lots that clash-free bids sell are as many as their packages have together.
use Rattle.std.proofs.Common.{◌≡◌, ℕ, zero, suc, ◌+◌, ◌<◌, ◌≤◌, Bool, true, false, cond, ◌&&◌, ◌||◌, leb, length, sym, refl, ap, ◌∙◌, ap₂, ⊎_elim, zero-add, arith}
use Rattle.std.proofs.lemmas.Bool.{cases_Bool, cases_lt, or_cases, and_parts, cond-false, true≢false, leb-true, not-false}
use Rattle.packages.specs.Lots.{Lots, has, count, size_of, apart}
use Rattle.packages.specs.SetsLemmas.{apart_says}
use Rattle.contest.specs.Contest.{Bids, ClashFree, some, sum, sum_over}
use Rattle.books.specs.Book.{Book}
use Rattle.books.specs.History.{book_of}
use Rattle.books.specs.Nested.{Sound}
use Rattle.books.specs.Contests.{contest_of, lots_of}
use Rattle.books.specs.Sold.{lots_sold, SoldSizes}
use Rattle.books.proofs.Reached.{always_sound}

-- counting what passes one of two tests that no number passes both
count_either : (f g : ℕ → Bool) (n : ℕ) → ((k : ℕ) → f k ≡ true → g k ≡ true → ⊥) → count (λ k. f k || g k) n ≡ count f n + count g n
unfolding count
count_either f g zero apart = either_one (f 0) (g 0) (apart 0)
  where
    either_one : (x y : Bool) → (x ≡ true → y ≡ true → ⊥) → cond (x || y) 1 0 ≡ cond x 1 0 + cond y 1 0
    either_one true true h = absurd (h refl refl)
    either_one true false h = refl
    either_one false true h = refl
    either_one false false h = refl
count_either f g (suc n) apart = one_more (f (suc n)) (g (suc n)) (apart (suc n)) _ _ _ (count_either f g n apart)
  where
    one_more : (x y : Bool) → (x ≡ true → y ≡ true → ⊥) → (c a b : ℕ) → c ≡ a + b → cond (x || y) 1 0 + c ≡ (cond x 1 0 + a) + (cond y 1 0 + b)
    one_more true true h c a b e = absurd (h refl refl)
    one_more true false h c a b e = omega arith
    one_more false true h c a b e = omega arith
    one_more false false h c a b e = omega arith

-- counting where nothing passes
count_none : (f : ℕ → Bool) (n : ℕ) → ((k : ℕ) → f k ≡ false) → count f n ≡ 0
unfolding count
count_none f zero h = cond-false _ _ _ (h 0)
count_none f (suc n) h = ap₂ ◌+◌ (cond-false _ _ _ (h (suc n))) (count_none f n h)

-- what passes lies below the lower of two ends, so counting may stop there
count_stop : (f : ℕ → Bool) (n m : ℕ) → n ≤ m → ((k : ℕ) → n < k → f k ≡ false) → count f m ≡ count f n
unfolding count
count_stop f n zero le h = let e : n ≡ 0 = omega arith in ap (count f) (sym e)
count_stop f n (suc m) le h =
    ⊎_elim
    (λ lt. ap₂ ◌+◌ (cond-false (f (suc m)) 1 0 (h (suc m) lt)) (count_stop f n m (omega arith) h) ∙ zero-add (count f n))
    (λ ge. let e : n ≡ suc m = omega arith in ap (count f) (sym e))
    (cases_lt n (suc m))

count_ends : (f : ℕ → Bool) (n m : ℕ) → ((k : ℕ) → f k ≡ true → (k ≤ n) × (k ≤ m)) → count f n ≡ count f m
count_ends f n m h =
    ⊎_elim (λ lt. sym (count_stop f n m (omega arith) (beyond n (λ k e. (h k e).0)))) (λ ge. count_stop f m n ge (beyond m (λ k e. (h k e).1))) (cases_lt n m)
  where
    beyond : (top : ℕ) → ((k : ℕ) → f k ≡ true → k ≤ top) → (k : ℕ) → top < k → f k ≡ false
    beyond top g k lt = ⊎_elim (λ e. absurd (omega (arith, g k e))) (λ e. e) (cases_Bool (f k))

has_top : (t : Lots) (k : ℕ) → has t k ≡ true → k ≤ t.top
unfolding has
has_top t k e = leb-true k t.top (and_parts (leb k t.top) (t.test k) e).0

module _ (b : Book) (sound : Sound b) (s : Bids) (free : ClashFree (contest_of b) s) where
  abbrev sells : ℕ → ℕ → Bool
  sells lot n = s n && has (lots_of b n) lot

  -- a lot that some of the first bids sell is in the package of one of them
  seller : (n lot : ℕ) → some n (sells lot) ≡ true → (j : ℕ) × (1 ≤ j) × (j ≤ n) × (s j ≡ true) × (has (lots_of b j) lot ≡ true)
  seller zero lot e = absurd (true≢false (sym e))
  seller (suc n) lot e =
      ⊎_elim
      (λ h. let r = seller n lot h in (r.0, r.1, omega (arith, r.2), r.3, r.4))
      (λ h. let p = and_parts (s (suc n)) (has (lots_of b (suc n)) lot) h in (suc n, omega arith, omega arith, p.0, p.1))
      (or_cases (some n (sells lot)) (sells lot (suc n)) e)

  -- no lot is sold twice
  once : (n lot : ℕ) → some n (sells lot) ≡ true → sells lot (suc n) ≡ true → ⊥
  once n lot e f =
      let r = seller n lot e in
      let p = and_parts (s (suc n)) (has (lots_of b (suc n)) lot) f in
      let a = not-false _ (free.apart r.0 (suc n) (omega (arith, r.2)) r.3 p.0) in
      apart_says (lots_of b r.0) (lots_of b (suc n)) a lot r.4 p.1

  -- all lots of a package are lots of the sale
  sized : (n : ℕ) → 1 ≤ n → n ≤ length b.bids → count (has (lots_of b n)) b.lots ≡ size_of (lots_of b n)
  unfolding size_of
  sized n low high =
      count_ends (has (lots_of b n)) b.lots (lots_of b n).top
      (λ k h. (((sound.nest.fits _ (sound.bids n low high).on_package).1 k h).1, has_top (lots_of b n) k h))

  -- one bid sells the lots of its package, or none
  one_bid : (n : ℕ) → 1 ≤ n → n ≤ length b.bids → (x : Bool) → s n ≡ x → count (λ lot. sells lot n) b.lots ≡ cond x (size_of (lots_of b n)) 0
  one_bid n low high true e =
      ap (λ v. count (λ lot. v && has (lots_of b n) lot) b.lots) e ∙ sized n low high
  one_bid n low high false e = ap (λ v. count (λ lot. v && has (lots_of b n) lot) b.lots) e ∙ count_none (λ lot. false) b.lots (λ k. refl)

  first_bids : (n : ℕ) → n ≤ length b.bids → count (λ lot. some n (sells lot)) b.lots ≡ sum n (λ k. cond (s k) (size_of (lots_of b k)) 0)
  first_bids zero le = count_none (λ lot. false) b.lots (λ k. refl)
  first_bids (suc n) le =
      count_either (λ lot. some n (sells lot)) (λ lot. sells lot (suc n)) b.lots (once n)
      ∙ ap₂ ◌+◌ (first_bids n (omega arith)) (one_bid (suc n) (omega arith) le (s (suc n)) refl)

  pub sold_sizes_of : lots_sold b s ≡ sum_over (length b.bids) s (λ n. size_of (lots_of b n))
  sold_sizes_of = first_bids (length b.bids) (omega arith)

pub sold_sizes : SoldSizes
sold_sizes h s free = sold_sizes_of (book_of h) (always_sound h) s free
