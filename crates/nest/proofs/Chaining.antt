-- The standing bids of each package, chained from the highest down.
use Rattle.std.proofs.Common.{◌≡◌, ℕ, zero, suc, ◌+◌, ◌-◌, ◌<◌, ◌≤◌, Bool, true, false, cond, not, eqb, List, length, get_or, set, replicate, sym, refl, ap, ◌∙◌, subst, ap₂, ⊎_elim, arith, get_or-set_other, get_or-set_same, vec_len, vec_items}
use Rattle.std.proofs.lemmas.Bool.{both_ways, and_parts, eqb-true, cases_eq, eq-eqb, ne_eqb, and_from, and_left, and_right}
use Rattle.scales.specs.Semiring.{Semiring, Laws}
use Rattle.contest.proofs.Listing.{sum_front, front_adds, front_skips}
use Rattle.bids.specs.declared.bid.Bid.{Bid}
use Rattle.bids.specs.Bids.{no_bid}
use Rattle.nest.specs.declared.nest.Nest.{Nest}
use Rattle.nest.specs.Chains.{bids_on, last_on, Chained}

pub last_le : (bids : List Bid) (g n : ℕ) → last_on bids g n ≤ n
last_le bids g zero = omega arith
last_le bids g (suc n) = let l = last_le bids g n in elim (bids_on bids g (suc n)) as (λ v. cond v (suc n) (last_on bids g n) ≤ suc n) [ true ↦ omega arith | false ↦ omega arith ]

pub last_is : (bids : List Bid) (g n : ℕ) → 1 ≤ last_on bids g n → bids_on bids g (last_on bids g n) ≡ true
last_is bids g zero pos = absurd (omega arith)
last_is bids g (suc n) pos = go (bids_on bids g (suc n)) refl (last_is bids g n) pos
  where
    go : (v : Bool) → bids_on bids g (suc n) ≡ v → (1 ≤ last_on bids g n → bids_on bids g (last_on bids g n) ≡ true) → 1 ≤ cond v (suc n) (last_on bids g n) → bids_on bids g (cond v (suc n) (last_on bids g n)) ≡ true
    go true e rest p = e
    go false e rest p = rest p

last_next : (bids : List Bid) (g i : ℕ) (v : Bool) → bids_on bids g (i + 1) ≡ v → last_on bids g (i + 1) ≡ cond v (i + 1) (last_on bids g i)
last_next bids g i v e =
    let next : i + 1 ≡ suc i = omega arith in
    ap (last_on bids g) next ∙ ap (λ n. cond (bids_on bids g n) n (last_on bids g i)) (sym next) ∙ ap (λ x. cond x (i + 1) (last_on bids g i)) e

module _ {M : Type 0} {r : Semiring M} (laws : Laws r) (w : ℕ → M) (bids : List Bid) (g : ℕ) where
  -- only the bids up to the last one count
  front_last : (n : ℕ) → sum_front r w (bids_on bids g) n ≡ sum_front r w (bids_on bids g) (last_on bids g n)
  front_last zero = refl
  front_last (suc n) = go (bids_on bids g (suc n)) refl (front_last n)
    where
      next : n + 1 ≡ suc n
      next = omega arith

      go : (v : Bool) → bids_on bids g (suc n) ≡ v → sum_front r w (bids_on bids g) n ≡ sum_front r w (bids_on bids g) (last_on bids g n) → sum_front r w (bids_on bids g) (suc n) ≡ sum_front r w (bids_on bids g) (cond v (suc n) (last_on bids g n))
      go true e rest = refl
      go false e rest = ap (sum_front r w (bids_on bids g)) (sym next) ∙ front_skips laws w (bids_on bids g) n (ap (bids_on bids g) next ∙ e) ∙ rest

  pub chain_start : (n k : ℕ) (x : M) → k ≡ last_on bids g n → x ≡ r.nought → r.add (sum_front r w (bids_on bids g) k) x ≡ sum_front r w (bids_on bids g) n
  chain_start n k x e z =
      ap₂ r_add (ap (sum_front r w (bids_on bids g)) e ∙ sym (front_last n)) z ∙ right _
    where
      r_add : M → M → M
      r_add = r.add

      right : (a : M) → r.add a r.nought ≡ a
      right a = laws.add_comm a r.nought ∙ laws.add_nought a

  -- one step down the chain
  pub chain_step : (k j : ℕ) (x y t : M) → 1 ≤ k → bids_on bids g k ≡ true → j ≡ last_on bids g (k - 1) → y ≡ r.add x (w k) → r.add (sum_front r w (bids_on bids g) k) x ≡ t → r.add (sum_front r w (bids_on bids g) j) y ≡ t
  chain_step k j x y t pos on e made inv =
      let next : k - 1 + 1 ≡ k = omega arith in
      let front : sum_front r w (bids_on bids g) k ≡ r.add (sum_front r w (bids_on bids g) j) (w k) =
      ap (sum_front r w (bids_on bids g)) (sym next) ∙ front_adds laws w (bids_on bids g) (k - 1) (ap (bids_on bids g) next ∙ on)
      ∙ ap₂ r.add (front_last (k - 1) ∙ ap (sum_front r w (bids_on bids g)) (sym e)) (ap w next) in
      ap (r.add (sum_front r w (bids_on bids g) j)) (made ∙ laws.add_comm x (w k))
      ∙ sym (laws.add_assoc (sum_front r w (bids_on bids g) j) (w k) x)
      ∙ ap (λ v. r.add v x) (sym front)
      ∙ inv

-- One bid more in the chains.
module _ (top : ℕ) (bids : List Bid) (last before : List ℕ) (i : ℕ) (chained : Chained top bids last before i) where
  index_is : i + 1 - 1 ≡ i
  index_is = omega arith

  off : (g : ℕ) → (get_or bids i no_bid).withdrawn ≡ true → bids_on bids g (i + 1) ≡ false
  off g e = and_left _ _ (ap (λ k. not (get_or bids k no_bid).withdrawn) index_is ∙ ap not e)

  pub chained_skips : (get_or bids i no_bid).withdrawn ≡ true → Chained top bids last before (i + 1)
  chained_skips e = record {
    lasts = λ g a b. chained.lasts g a b ∙ sym (last_next bids g i false (off g e));
    befores = λ j low w. ⊎_elim
        (λ s. absurd (both_ways (get_or bids i no_bid).withdrawn (ap (λ k. (get_or bids k no_bid).withdrawn) (sym s) ∙ w) e))
        (λ ns. chained.befores j (omega arith) w)
        (cases_eq j i);
  }

  pub chained_adds : (p x : ℕ) → (get_or bids i no_bid).withdrawn ≡ false → p ≡ (get_or bids i no_bid).«package» → 1 ≤ p → p ≤ top → top ≤ length last → i < length before → x ≡ get_or last (p - 1) 0
      → Chained top bids (set last (p - 1) (i + 1)) (set before i x) (i + 1)
  chained_adds p x e is low high room short read = record {
    lasts = λ g a b. ⊎_elim
        (λ s. ap (λ k. get_or (set last (p - 1) (i + 1)) (k - 1) 0) s ∙ get_or-set_same last (p - 1) (i + 1) 0 (omega arith)
        ∙ sym (last_next bids g i true (and_from _ _ (ap (λ k. not (get_or bids k no_bid).withdrawn) index_is ∙ ap not e) (eq-eqb _ _ (ap (λ k. (get_or bids k no_bid).«package») index_is ∙ sym is ∙ sym s)))))
        (λ ns. get_or-set_other last (p - 1) (g - 1) (i + 1) 0 (omega arith) ∙ chained.lasts g a b
        ∙ sym (last_next bids g i false (and_right _ _ (ne_eqb _ _ (λ s. ns (sym s ∙ ap (λ k. (get_or bids k no_bid).«package») index_is ∙ sym is))))))
        (cases_eq g p);
    befores = λ j l w. ⊎_elim
        (λ s. ap (λ k. get_or (set before i x) k 0) s ∙ get_or-set_same before i x 0 short ∙ read ∙ chained.lasts p low high ∙ ap₂ (λ q k. last_on bids q k) (is ∙ ap (λ k. (get_or bids k no_bid).«package») (sym s)) (sym s))
        (λ ns. get_or-set_other before i j x 0 ns ∙ chained.befores j (omega arith) w)
        (cases_eq j i);
  }

pub chained_moved : {top n : ℕ} {bids : List Bid} {last last' before before' : List ℕ} → last' ≡ last → before' ≡ before → Chained top bids last before n → Chained top bids last' before' n
chained_moved {top} {n} {bids} {last} {last'} {before} {before'} p q c = subst (λ x. Chained top bids last' x n) (sym q) (subst (λ x. Chained top bids x before n) (sym p) c)

not_back : (x : Bool) → not x ≡ true → x ≡ false
not_back true e = sym e
not_back false e = refl

-- the next bid down the chain
pub chain_next : (top : ℕ) (bids : List Bid) (last before : List ℕ) (n : ℕ) → Chained top bids last before n → (g k : ℕ) → 1 ≤ k → k ≤ n → bids_on bids g k ≡ true → get_or before (k - 1) 0 ≡ last_on bids g (k - 1)
chain_next top bids last before n c g k pos high on =
    let t = and_parts (not (get_or bids (k - 1) no_bid).withdrawn) (eqb (get_or bids (k - 1) no_bid).«package» g) on in
    c.befores (k - 1) (omega arith) (not_back _ t.0) ∙ ap (λ q. last_on bids q (k - 1)) (eqb-true _ _ t.1)

zeros : (n i z : ℕ) → get_or (replicate n z) i z ≡ z
zeros zero i z = refl
zeros (suc n) zero z = refl
zeros (suc n) (suc i) z = zeros n i z

-- all bids of a nest are chained
pub chained_all : {top : ℕ} {last before : List ℕ} (n : Nest) → Chained top (vec_items n.bids) last before (vec_len n.bids) → Chained top (vec_items n.bids) last before (length (vec_items n.bids))
chained_all {top} {last} {before} n c = subst (Chained top (vec_items n.bids) last before) n.bids.ok.0 c

-- no bids yet
pub chained_none : (top places : ℕ) (bids : List Bid) → Chained top bids (replicate top 0) (replicate places 0) 0
chained_none top places bids = record { lasts = λ g a b. zeros top (g - 1) 0; befores = λ i low. absurd (omega arith) }
