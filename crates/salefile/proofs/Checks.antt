-- Which check a line fails first.
use Rattle.std.proofs.Common.{◌≡◌, ℕ, ◌+◌, ◌<◌, ◌≤◌, List, [], ◌∷◌, ◌++◌, length, sym, refl, ap, ◌∙◌, subst, inl, inr, ⊎_elim, arith}
use Rattle.lines.specs.Kinds.{Kind, header, opening, closing, lot, bid, remark, ending, value}
use Rattle.bids.specs.Limits.{max_bids}
use Rattle.salefile.specs.Blocks.{lots, opens, bids, Innermost, NoneOpen}
use Rattle.salefile.specs.Files.{Item, over, illegible, line, Check, after_end, bad_line, none_open, out_of_range, no_space, too_many_bids, no_lots, same_lots, unclosed, no_end, order, Ended, InRange, Repeated, Fails, First, Clear, Rejects}
use Rattle.salefile.proofs.Nesting.{innermost_one, no_cons}

-- the header as the first line
pub clear_first : (space : ℕ) → Clear (Fails space [] (line header)) order
clear_first space = (
  (λ q w. no_cons w.0.0 ending [] w.0.1),
  (
    (λ q w. w.1 refl),
    (
      (λ q w. ⊎_elim (λ e. cc) (λ z. z.1 refl) w.0),
      (
        (λ q f. ⊎_elim (λ e. cc) (λ g. cc) f.0),
        ((λ q f. cc), ((λ q f. cc), ((λ q f. cc), ((λ q f. cc), ((λ q f. cc), ((λ q f. cc), ((λ q f. cc), tt))))))),
      ),
    ),
  ),
)

-- a line in the body: some line stands before it, and not the end
module _ (space : ℕ) (ks : List Kind) (begun : ks ≡ [] → ⊥) (going : Ended ks → ⊥) where
  clear_line :
      (k : Kind)
      → (line k ≡ line header → ⊥)
      → ((q : ℕ) → Fails space ks (line k) none_open q → ⊥)
      → ((q : ℕ) → Fails space ks (line k) out_of_range q → ⊥)
      → ((q : ℕ) → Fails space ks (line k) no_space q → ⊥)
      → ((q : ℕ) → Fails space ks (line k) too_many_bids q → ⊥)
      → ((q : ℕ) → Fails space ks (line k) no_lots q → ⊥)
      → ((q : ℕ) → Fails space ks (line k) same_lots q → ⊥)
      → ((q : ℕ) → Fails space ks (line k) unclosed q → ⊥)
      → Clear (Fails space ks (line k)) order
  clear_line k other a b c d e f g = (
    (λ q w. going w.0),
    (
      (λ q w. begun w.0),
      (
        (λ q w. ⊎_elim (λ z. cc) (λ z. other z.0) w.0),
        (a, (b, (c, (d, (e, (f, (g, ((λ q w. cc), tt)))))))),
      ),
    ),
  )

  -- past the first three checks
  past : (k : Kind) (c : Check) (p : ℕ) → (line k ≡ line header → ⊥) → First (Fails space ks (line k)) (none_open ∷ out_of_range ∷ no_space ∷ too_many_bids ∷ no_lots ∷ same_lots ∷ unclosed ∷ no_end ∷ []) c p → First (Fails space ks (line k)) order c p
  past k c p other r =
      inr (
        (λ q w. going w.0),
        inr (
          (λ q w. begun w.0),
          inr ((λ q w. ⊎_elim (λ z. cc) (λ z. other z.0) w.0), r),
        ),
      )

  pub clear_remark : (w : List ℕ) → Clear (Fails space ks (line (remark w))) order
  clear_remark w =
      clear_line (remark w) (λ e. cc) (λ q f. ⊎_elim (λ e. cc) (λ g. cc) f.0) (λ q f. cc) (λ q f. cc) (λ q f. cc) (λ q f. cc) (λ q f. cc) (λ q f. cc)

  pub clear_lot : Clear (Fails space ks (line lot)) order
  clear_lot =
      clear_line lot (λ e. cc) (λ q f. ⊎_elim (λ e. cc) (λ g. cc) f.0) (λ q f. cc) (λ q f. cc) (λ q f. cc) (λ q f. cc) (λ q f. cc) (λ q f. cc)

  pub clear_open : opens ks < space → Clear (Fails space ks (line opening)) order
  clear_open room =
      clear_line opening (λ e. cc) (λ q f. ⊎_elim (λ e. cc) (λ g. cc) f.0) (λ q f. cc) (λ q f. omega (arith, f.1)) (λ q f. cc) (λ q f. cc) (λ q f. cc) (λ q f. cc)

  pub clear_close : (b i : List Kind) → Innermost ks b i → 0 < lots i → (Repeated i → ⊥) → Clear (Fails space ks (line closing)) order
  clear_close b i inn some new =
      clear_line closing (λ e. cc) (λ q f. f.1 b i inn) (λ q f. cc) (λ q f. cc) (λ q f. cc)
      (λ q f. let same = innermost_one b i f.1.0 f.1.1 (sym inn.0 ∙ f.1.2.0) inn.1 f.1.2.1 in omega (arith, some, ap lots same.1, f.1.3))
      (λ q f. let same = innermost_one b i f.1.0 f.1.1 (sym inn.0 ∙ f.1.2.0) inn.1 f.1.2.1 in new (subst Repeated (sym same.1) f.1.3))
      (λ q f. cc)

  pub clear_bid : (n m : List ℕ) (b i : List Kind) → Innermost ks b i → InRange (value n) (value m) → bids ks < max_bids → Clear (Fails space ks (line (bid n m))) order
  clear_bid n m b i inn within room =
      clear_line (bid n m) (λ e. cc) (λ q f. f.1 b i inn)
      (λ q f.
      let buyers : n ≡ f.0 = cc f.2 in
      let prices : m ≡ f.1 = cc f.2 in
      f.3 (subst (λ x. InRange (value x) (value f.1)) buyers (subst (λ x. InRange (value n) (value x)) prices within)))
      (λ q f. cc) (λ q f. omega (arith, room, f.1)) (λ q f. cc) (λ q f. cc) (λ q f. cc)

  pub clear_end : NoneOpen ks → Clear (Fails space ks (line ending)) order
  clear_end shut =
      clear_line ending (λ e. cc) (λ q f. ⊎_elim (λ e. cc) (λ g. cc) f.0) (λ q f. cc) (λ q f. cc) (λ q f. cc) (λ q f. cc) (λ q f. cc) (λ q f. shut f.1.0 f.1.1 f.1.2)

  -- refusals

  pub reject_open : (p : ℕ) → p ≡ length ks + 1 → space ≤ opens ks → Rejects space ks (line opening) 22 p
  reject_open p e full = (
    no_space,
    past opening no_space p (λ e. cc)
        (inr ((λ q f. ⊎_elim (λ e. cc) (λ g. cc) f.0), inr ((λ q f. cc), inl (refl, (refl, full, e))))),
    refl,
  )

  pub reject_close_none : (p : ℕ) → p ≡ length ks + 1 → NoneOpen ks → Rejects space ks (line closing) 5 p
  reject_close_none p e shut = (none_open, past closing none_open p (λ e. cc) (inl (refl, (inl refl, shut, e))), refl)

  pub reject_bid_none : (n m : List ℕ) (p : ℕ) → p ≡ length ks + 1 → NoneOpen ks → Rejects space ks (line (bid n m)) 5 p
  reject_bid_none n m p e shut = (none_open, past (bid n m) none_open p (λ e. cc) (inl (refl, (inr (n, m, refl), shut, e))), refl)

  pub reject_range : (n m : List ℕ) (p : ℕ) (b i : List Kind) → p ≡ length ks + 1 → Innermost ks b i → (InRange (value n) (value m) → ⊥) → Rejects space ks (line (bid n m)) 4 p
  reject_range n m p b i e inn bad =
      (out_of_range, past (bid n m) out_of_range p (λ e. cc) (inr ((λ q f. f.1 b i inn), inl (refl, (n, m, refl, bad, e)))), refl)

  pub reject_bids : (n m : List ℕ) (p : ℕ) (b i : List Kind) → p ≡ length ks + 1 → Innermost ks b i → InRange (value n) (value m) → max_bids ≤ bids ks → Rejects space ks (line (bid n m)) 23 p
  reject_bids n m p b i e inn within full = (
    too_many_bids,
    past (bid n m) too_many_bids p (λ e. cc)
        (inr (
          (λ q f. f.1 b i inn),
          inr (
            (λ q f.
                let buyers : n ≡ f.0 = cc f.2 in
                let prices : m ≡ f.1 = cc f.2 in
                f.3 (subst (λ x. InRange (value x) (value f.1)) buyers (subst (λ x. InRange (value n) (value x)) prices within))),
            inr ((λ q f. cc), inl (refl, ((n, m, refl), full, e))),
          ),
        )),
    refl,
  )

  pub reject_no_lots : (p : ℕ) (b i : List Kind) → p ≡ length ks + 1 → Innermost ks b i → lots i ≡ 0 → Rejects space ks (line closing) 6 p
  reject_no_lots p b i e inn zero = (
    no_lots,
    past closing no_lots p (λ e. cc)
        (inr ((λ q f. f.1 b i inn), inr ((λ q f. cc), inr ((λ q f. cc), inr ((λ q f. cc), inl (refl, (refl, (b, i, inn, zero), e))))))),
    refl,
  )

  pub reject_same_lots : (p : ℕ) (b i : List Kind) → p ≡ length ks + 1 → Innermost ks b i → 0 < lots i → Repeated i → Rejects space ks (line closing) 7 p
  reject_same_lots p b i e inn some again = (
    same_lots,
    past closing same_lots p (λ e. cc)
        (inr (
          (λ q f. f.1 b i inn),
          inr (
            (λ q f. cc),
            inr (
              (λ q f. cc),
              inr (
                (λ q f. cc),
                inr (
                  (λ q f. let same = innermost_one b i f.1.0 f.1.1 (sym inn.0 ∙ f.1.2.0) inn.1 f.1.2.1 in omega (arith, some, ap lots same.1, f.1.3)),
                  inl (refl, (refl, (b, i, inn, again), e)),
                ),
              ),
            ),
          ),
        )),
    refl,
  )

  pub reject_end : (p : ℕ) (b i : List Kind) → p ≡ length b + 1 → Innermost ks b i → Rejects space ks (line ending) 8 p
  reject_end p b i e inn = (
    unclosed,
    past ending unclosed p (λ e. cc)
        (inr ((λ q f. ⊎_elim (λ e. cc) (λ g. cc) f.0), inr ((λ q f. cc), inr ((λ q f. cc), inr ((λ q f. cc), inr ((λ q f. cc), inr ((λ q f. cc), inl (refl, (refl, (b, i, inn, e)))))))))),
    refl,
  )

  -- a second header, bytes that are no line, and the end of the file

  pub reject_header : (p : ℕ) → p ≡ length ks + 1 → Rejects space ks (line header) 3 p
  reject_header p e = (bad_line, inr ((λ q w. going w.0), inr ((λ q w. begun w.0), inl (refl, (inr (refl, begun), e)))), refl)

  pub reject_illegible : (p : ℕ) → p ≡ length ks + 1 → Rejects space ks illegible 3 p
  reject_illegible p e = (bad_line, inr ((λ q w. going w.0), inr ((λ q w. begun w.0), inl (refl, (inl refl, e)))), refl)

  pub reject_over : (p : ℕ) → p ≡ length ks + 1 → Rejects space ks over 9 p
  reject_over p e = (
    no_end,
    inr (
      (λ q w. going w.0),
      inr (
        (λ q w. begun w.0),
        inr (
          (λ q w. ⊎_elim (λ e. cc) (λ z. cc) w.0),
          inr ((λ q f. ⊎_elim (λ e. cc) (λ g. cc) f.0), inr ((λ q f. cc), inr ((λ q f. cc), inr ((λ q f. cc), inr ((λ q f. cc), inr ((λ q f. cc), inr ((λ q f. cc), inl (refl, (refl, going, e))))))))),
        ),
      ),
    ),
    refl,
  )

-- past the end

pub clear_over : (space : ℕ) (ks : List Kind) → Clear (Fails space (ks ++ (ending ∷ [])) over) order
clear_over space ks = (
  (λ q w. w.1 refl),
  (
    (λ q w. no_cons ks ending [] (sym w.0)),
    (
      (λ q w. ⊎_elim (λ e. cc) (λ z. cc) w.0),
      (
        (λ q f. ⊎_elim (λ e. cc) (λ g. cc) f.0),
        ((λ q f. cc), ((λ q f. cc), ((λ q f. cc), ((λ q f. cc), ((λ q f. cc), ((λ q f. cc), ((λ q f. f.1 (ks, refl)), tt))))))),
      ),
    ),
  ),
)

pub reject_after : (space : ℕ) (ks : List Kind) (x : Item) (p : ℕ) → (x ≡ over → ⊥) → p ≡ length (ks ++ (ending ∷ [])) + 1 → Rejects space (ks ++ (ending ∷ [])) x 10 p
reject_after space ks x p some e = (after_end, inl (refl, ((ks, refl), some, e)), refl)
