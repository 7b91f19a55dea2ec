-- Clamping, by its two tests; and what is computed exactly in 64 bits and then clamped.
use Prim.Native.Nat.{ℕ, ◌<◌}
use native.Mathlib.Omega.{arith}
use mathlib.Core.Path.{◌≡◌, refl, sym, ap, ◌∙◌, subst}
use mathlib.Core.Bool.{Bool, true, false}
use borrow.Author.Tests.{ltb-false}
use lib.IntN.{ℤ, pos, negsuc, neg_ℤ, ◌-ℤ◌, ◌*ℤ◌, +ℤ_idl}
use lib.Signed.{lt_z, quot_z}
use mir.Syntax.{w32, w64}
use mir.Val.{SFits, to_z}
use mir.ValLaws.{to_z-of_z, to_z_pos}
use Rattle.rules.specs.Pick.{pick}
use Rattle.counts.specs.Signed.{clamped, scaled, least, most}
use Rattle.counts.proofs.Magnitudes.{quot_fits, product_fits}
use Rattle.counts.proofs.Reading.{back, same_back, widens, both_are}

-- between the limits a number fits
between_fits : (z : ℤ) → lt_z z least ≡ false → lt_z most z ≡ false → SFits w32 z
between_fits (pos n) p q = record { sfits = omega (arith, ltb-false 2147483647 n q) }
between_fits (negsuc n) p q = record { sfits = omega (arith, ltb-false 2147483647 n p) }

pub clamped_fits : (z : ℤ) → SFits w32 (clamped z)
unfolding clamped
clamped_fits z = go (lt_z z least) refl (lt_z most z) refl
  where
    go : (s : Bool) → lt_z z least ≡ s → (t : Bool) → lt_z most z ≡ t → SFits w32 (pick s least (pick t most z))
    go true p t q = record { sfits = omega arith }
    go false p true q = record { sfits = omega arith }
    go false p false q = between_fits z p q

module _ {x : ℤ} (f : SFits w64 x) where
  low_same : lt_z (back w64 x) least ≡ lt_z x least
  low_same = ap (λ (v : ℤ). lt_z v least) (to_z-of_z w64 x f)

  high_same : lt_z most (back w64 x) ≡ lt_z most x
  high_same = ap (lt_z most) (to_z-of_z w64 x f)

  pub clamp_low : lt_z (back w64 x) least ≡ true → least ≡ clamped x
  unfolding clamped
  clamp_low t = rw (sym low_same ∙ t)

  module _ (s : lt_z (back w64 x) least ≡ false) where
    pub clamp_high : lt_z most (back w64 x) ≡ true → most ≡ clamped x
    unfolding clamped
    clamp_high t = rw (sym low_same ∙ s, sym high_same ∙ t)

    module _ (t : lt_z most (back w64 x) ≡ false) where
      fits : SFits w32 x
      fits = between_fits x (sym low_same ∙ s) (sym high_same ∙ t)

      pub clamp_asked : SFits w32 (back w64 x)
      clamp_asked = subst (SFits w32) (sym (to_z-of_z w64 x f)) fits

      pub clamp_given : {r : ℤ} → r ≡ back w64 x → back w32 r ≡ clamped x
      unfolding clamped
      clamp_given {r} e = rw (sym low_same ∙ s, sym high_same ∙ t) (same_back (e ∙ to_z-of_z w64 x f) fits)

-- exact in 64 bits, and then clamped
exact_given : {x r z : ℤ} → x ≡ z → r ≡ clamped x → back w32 r ≡ clamped z
exact_given {x} {r} {z} e g = same_back (g ∙ ap clamped e) (clamped_fits z)

-- an operation on two numbers of 32 bits, and then clamped
module _ (op : ℤ → ℤ → ℤ) (fits : (a b : ℤ) → SFits w32 a → SFits w32 b → SFits w64 (op a b)) where
  pub two_given : {a b p r : ℤ} → SFits w32 a → SFits w32 b → p ≡ op (back w32 a) (back w32 b) → r ≡ clamped (back w64 p) → back w32 r ≡ clamped (op a b)
  two_given f g e h = exact_given (both_are op fits f g e) h

-- zero less a number is its negation
pub negate_given : {a r : ℤ} → SFits w32 a → r ≡ clamped (pos 0 -ℤ back w32 a) → back w32 r ≡ clamped (neg_ℤ a)
negate_given {a} f e =
    same_back
    (e ∙ ap (λ (v : ℤ). clamped (pos 0 -ℤ v)) (to_z-of_z w32 a f) ∙ ap clamped (+ℤ_idl (neg_ℤ a)))
    (clamped_fits (neg_ℤ a))

-- a number of 32 bits times a setting
module _ {a x : ℤ} {s : ℕ} (f : SFits w32 a) (k : s < 65536) (e : x ≡ back w32 a) where
  product_same : back w64 x *ℤ to_z w64 s ≡ a *ℤ pos s
  product_same =
      ap (λ (v : ℤ). v *ℤ to_z w64 s) (same_back (e ∙ to_z-of_z w32 a f) (widens f))
      ∙ ap (λ (v : ℤ). a *ℤ v) (to_z_pos w64 s (omega arith))

  pub scale_asked : SFits w64 (back w64 x *ℤ to_z w64 s)
  scale_asked = subst (SFits w64) (sym product_same) (product_fits a s f k)

  pub scale_given : {p q r : ℤ} → p ≡ back w64 x *ℤ to_z w64 s → q ≡ quot_z (back w64 p) (pos 256) → r ≡ clamped (back w64 q) → back w32 r ≡ scaled a s
  unfolding scaled
  scale_given g h i =
      let fits = product_fits a s f k in
      let product = same_back (g ∙ product_same) fits in
      let quotient = ap (λ (v : ℤ). quot_z v (pos 256)) product in
      exact_given (same_back (h ∙ quotient) (quot_fits (a *ℤ pos s) 256 fits)) i
