use Rattle.std.proofs.Common.{◌≡◌, ℕ, ◌/◌, ◌^◌, ◌<◌, ◌≤◌, Some, None, Option, not, nat_eq, sym, ap, ◌∙◌, zero-add, lt_of_lt_of_le, pow_mono, arith}
use Rattle.std.proofs.lemmas.Bool.{eq-eqb}
use Rattle.std.proofs.lemmas.Nat.{shr_below}
use Rattle.std.specs.Option.{SomeIff, unwrap_or}
use Rattle.packages.specs.Lots.{mask_lots, fits_in}
use Rattle.packages.specs.Masks.{mask_fits, mask_empty}
use Rattle.packages.proofs.mask.MaskPackage.fits.Goals as goal

-- nothing is left of a mask that is shifted by 64 or more
left_over : (n l : ℕ) → n < 2 ^ 64 → (o : Option ℕ) → SomeIff o (l < 64) (n / 2 ^ l) → unwrap_or o 0 ≡ n / 2 ^ l
left_over n l short (Some x) h = h.1
left_over n l short None h =
    let long : 64 ≤ l = omega arith in
    omega (arith, shr_below n 0 l (lt_of_lt_of_le short (rw zero-add (pow_mono long))))

pub returns-then-self-ne0 : goal.returns-then-self-ne0
returns-then-self-ne0 c =
    let bits = c.args.self.now.bits in
    let left = left_over bits c.args.lots (omega arith) c.checked_shr.result c.checked_shr.ensures in
    ap (λ n. nat_eq n 0) (c.unwrap_or.ensures ∙ left) ∙ mask_fits bits (omega arith) c.args.lots (omega arith)

pub returns-else-self-ne0 : goal.returns-else-self-ne0
returns-else-self-ne0 c =
    let bits = c.args.self.now.bits in
    ap not (eq-eqb bits 0 c.if-self-ne0.false) ∙ sym (mask_empty c.args.lots) ∙ ap (λ n. fits_in c.args.lots (mask_lots n)) (sym c.if-self-ne0.false)
