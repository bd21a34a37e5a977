-- What is written of lists, one element more.
use Rattle.std.proofs.Common.{Bor, ◌≡◌, ℕ, ◌+◌, ◌<◌, true, List, [], ◌∷◌, ◌++◌, map, length, get_or, take, is_ok, Some, decimal, Option, Result, sym, refl, ap, ◌∙◌, subst, append_assoc, append-nil}
use Rattle.std.specs.declared.fmt.Error.{Error}
use Rattle.std.specs.declared.fmt.Formatter.{Formatter}
use Rattle.std.specs.Fmt.{HasWritten, DisplaysOnOk, WritesOnOk, option_append}
use Rattle.std.proofs.Output.{has_written_append, has_written_of_eq}
use Rattle.std.proofs.lemmas.List.{take_more, map-append}
use Rattle.books.specs.Worked.{ended}
use Rattle.summary.specs.Text.{spaced}

pub ended_append : (xs ys : List (List ℕ)) → ended (xs ++ ys) ≡ ended xs ++ ended ys
ended_append [] ys = refl
ended_append (x ∷ xs) ys = ap (λ (t : List ℕ). x ++ (10 ∷ t)) (ended_append xs ys) ∙ sym (append_assoc x (10 ∷ ended xs) (ended ys))

spaced_push : (ns : List ℕ) (n : ℕ) → spaced (ns ++ (n ∷ [])) ≡ spaced ns ++ (32 ∷ decimal n)
spaced_push [] n = append-nil (32 ∷ decimal n)
spaced_push (m ∷ ns) n = ap (λ (t : List ℕ). 32 ∷ (decimal m ++ t)) (spaced_push ns n) ∙ sym (append_assoc (32 ∷ decimal m) (spaced ns) (32 ∷ decimal n))

-- the parts of a report, each as it is written
pub parts_joined : (r w t : List ℕ) (bids payments : List (List ℕ)) → ((((((r ++ (10 ∷ [])) ++ ended bids) ++ ended payments) ++ (w ++ (10 ∷ []))) ++ t) ++ (10 ∷ [])) ≡ ended (r ∷ (bids ++ (payments ++ (w ∷ t ∷ []))))
parts_joined r w t bids payments = simp (ended_append, append_assoc)

ended_more : {D : Type 0} (line : D → List ℕ) (ds : List D) (i : ℕ) (d : D) → i < length ds → ended (map line (take (i + 1) ds)) ≡ ended (map line (take i ds)) ++ (line (get_or ds i d) ++ (10 ∷ []))
ended_more line ds i d h = rw (take_more ds i d h, map-append, ended_append)

-- one text after another
pub then_put : {W : Type 0} {took : W → List ℕ → W → Type 0} {f g h : Formatter W} {a b : List ℕ} → HasWritten took f a g → HasWritten took g b h → HasWritten took f (a ++ b) h
then_put {took = took} p q = has_written_append took _ _ _ _ _ p q

module _ {W : Type 0} (took : W → List ℕ → W → Type 0) where
  -- a value more, on a line of its own
  pub line_more :
      {D : Type 0} (shown : D → Option (List ℕ)) (line : D → List ℕ) → ((d : D) → shown d ≡ Some (line d)) →
      (ds : List D) (i : ℕ) (d : D) → i < length ds → d ≡ get_or ds i d →
      (f g h : Formatter W) (r : Result (Unit {0}) Error) → is_ok r ≡ true →
      HasWritten took f (ended (map line (take i ds))) g → DisplaysOnOk took g r (option_append (shown d) (Some (10 ∷ []))) h → HasWritten took f (ended (map line (take (i + 1) ds))) h
  line_more shown line shows ds i d lt is f g h r ok before now =
      let wrote : WritesOnOk took g r (line d ++ (10 ∷ [])) h = subst (λ (o : Option (List ℕ)). DisplaysOnOk took g r (option_append o (Some (10 ∷ []))) h) (shows d) now in
      let all = then_put before (wrote before.plain ok) in
      has_written_of_eq took f _ _ h (ap (λ (x : _). ended (map line (take i ds)) ++ (line x ++ (10 ∷ []))) is ∙ sym (ended_more line ds i d lt)) all

  -- a number more, after a space
  pub number_more :
      (ns : List (Bor ℕ)) (n : Bor ℕ) (f g h : Formatter W) →
      HasWritten took f (spaced (map (λ y. y.now) ns)) g → HasWritten took g (32 ∷ decimal n.now) h → HasWritten took f (spaced (map (λ y. y.now) (ns ++ (n ∷ [])))) h
  number_more ns n f g h before now =
      let text : spaced (map (λ y. y.now) ns) ++ (32 ∷ decimal n.now) ≡ spaced (map (λ y. y.now) (ns ++ (n ∷ []))) =
      sym (ap spaced (map-append (λ y. y.now) ns (n ∷ [])) ∙ spaced_push (map (λ y. y.now) ns) n.now)
      in
      has_written_of_eq took f _ _ h text (then_put before now)
