-- The k greatest of a list of amounts, repeats counted.
--   Falling        no number of a list is above an earlier one
--   Best           up to k amounts of at most a limit, never rising
--   insert         a falling list with one number more: the greater stays, and the lesser goes on down
--   sorted         a list in falling order
--   best           the k greatest of a list, each cut at the limit
--   pair_sums      each number of one list added to each of another
--   bests          the sum keeps the k greatest of both lists, the product the k greatest of all pair sums
--   total          the sum of a function over a list
--   reaches        1 if a number reaches a threshold, else 0
--   reaching       how many numbers of a list reach a threshold
--   KeepsGreatest  of the k greatest as many reach a threshold as of the whole list, but at most k
--   OnlyGreatest   and no other value has that
-- The lemmas between them show that the k greatest are such a list.
use Rattle.std.specs.Prelude.{◌≡◌, ℕ, zero, suc, ◌+◌, ◌≤◌, min, max, cond, List, [], ◌∷◌, ◌++◌, map, length, take, nat_le}
use Rattle.std.proofs.Common.{arith, length-take}
use Rattle.std.specs.List.{AllByRecursion}
use Rattle.scales.specs.Semiring.{Semiring}

abbrev pub Falling : List ℕ → Type 0
Falling [] = Unit {0}
Falling (x ∷ xs) = AllByRecursion (λ y. y ≤ x) xs × Falling xs

pub record Best (k limit : ℕ) : Type 0 where
  pub amounts : List ℕ
  pub few : length amounts ≤ k
  pub within : AllByRecursion (λ x. x ≤ limit) amounts
  pub falling : Falling amounts

unfoldable pub insert : ℕ → List ℕ → List ℕ
insert x [] = x ∷ []
insert x (y ∷ ys) = max x y ∷ insert (min x y) ys

unfoldable pub sorted : List ℕ → List ℕ
sorted [] = []
sorted (x ∷ xs) = insert x (sorted xs)

insert_within : (m x : ℕ) (ys : List ℕ) → x ≤ m → AllByRecursion (λ y. y ≤ m) ys → AllByRecursion (λ y. y ≤ m) (insert x ys)
unfolding insert
insert_within m x [] h a = (h, tt)
insert_within m x (y ∷ ys) h a = (omega arith, insert_within m (min x y) ys (omega arith) a.1)

insert_falling : (x : ℕ) (ys : List ℕ) → Falling ys → Falling (insert x ys)
unfolding insert
insert_falling x [] f = (tt, tt)
insert_falling x (y ∷ ys) f =
    (insert_within (max x y) (min x y) ys (omega arith) (below_more (omega arith) ys f.0), insert_falling (min x y) ys f.1)
  where
    below_more : {m n : ℕ} → m ≤ n → (zs : List ℕ) → AllByRecursion (λ z. z ≤ m) zs → AllByRecursion (λ z. z ≤ n) zs
    below_more h [] a = tt
    below_more h (z ∷ zs) a = (omega arith, below_more h zs a.1)

pub sorted_falling : (xs : List ℕ) → Falling (sorted xs)
unfolding sorted
sorted_falling [] = tt
sorted_falling (x ∷ xs) = insert_falling x (sorted xs) (sorted_falling xs)

pub take_within : (m k : ℕ) (xs : List ℕ) → AllByRecursion (λ y. y ≤ m) xs → AllByRecursion (λ y. y ≤ m) (take k xs)
take_within m zero xs a = tt
take_within m (suc k) [] a = tt
take_within m (suc k) (x ∷ xs) a = (a.0, take_within m k xs a.1)

pub take_falling : (k : ℕ) (xs : List ℕ) → Falling xs → Falling (take k xs)
take_falling zero xs f = tt
take_falling (suc k) [] f = tt
take_falling (suc k) (x ∷ xs) f = (take_within x k xs f.0, take_falling k xs f.1)

pub cut_within : (limit : ℕ) (xs : List ℕ) → AllByRecursion (λ y. y ≤ limit) (sorted (map (min limit) xs))
unfolding sorted
cut_within limit [] = tt
cut_within limit (x ∷ xs) = insert_within limit (min limit x) (sorted (map (min limit) xs)) (omega arith) (cut_within limit xs)

abbrev pub best : (k limit : ℕ) → List ℕ → Best k limit
best k limit xs = record {
  amounts = take k (sorted (map (min limit) xs));
  few = omega (arith, length-take k (sorted (map (min limit) xs)));
  within = take_within limit k (sorted (map (min limit) xs)) (cut_within limit xs);
  falling = take_falling k (sorted (map (min limit) xs)) (sorted_falling (map (min limit) xs));
}

abbrev pub pair_sums : List ℕ → List ℕ → List ℕ
pair_sums [] ys = []
pair_sums (x ∷ xs) ys = map (λ y. x + y) ys ++ pair_sums xs ys

abbrev pub bests : (k limit : ℕ) → Semiring (Best k limit)
bests k limit = record {
  nought = best k limit [];
  unit = best k limit (0 ∷ []);
  add = λ a b. best k limit (a.amounts ++ b.amounts);
  mul = λ a b. best k limit (pair_sums a.amounts b.amounts);
}

abbrev pub total : (ℕ → ℕ) → List ℕ → ℕ
total g [] = 0
total g (x ∷ xs) = g x + total g xs

abbrev pub reaches : ℕ → ℕ → ℕ
reaches threshold x = cond (nat_le threshold x) 1 0

abbrev pub reaching : ℕ → List ℕ → ℕ
reaching threshold xs = total (reaches threshold) xs

abbrev pub KeepsGreatest : Type 0
KeepsGreatest = (k limit : ℕ) (xs : List ℕ) (threshold : ℕ) → reaching threshold (best k limit xs).amounts ≡ min k (reaching threshold (map (min limit) xs))

abbrev pub OnlyGreatest : Type 0
OnlyGreatest = (k limit : ℕ) (xs : List ℕ) (b : Best k limit) →
    ((threshold : ℕ) → reaching threshold b.amounts ≡ min k (reaching threshold (map (min limit) xs))) → b ≡ best k limit xs
