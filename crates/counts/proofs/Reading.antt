-- What the machine reads back from the bits of a number that fits is the number.
use Prim.Native.Nat.{ℕ, ◌<◌}
use native.Mathlib.Omega.{arith}
use mathlib.Core.Path.{◌≡◌, refl, sym, ap, ◌∙◌, subst}
use mathlib.Core.Bool.{true, false}
use lib.IntN.{ℤ, pos}
use lib.Signed.{lt_z, quot_z}
use mir.Syntax.{Width, w32, w64}
use mir.Val.{SFits, to_z, of_z}
use mir.ValLaws.{to_z-of_z, to_z_pos}
use mir.Facts.{sfits_widen}
use Rattle.rules.specs.Pick.{pick}
use Rattle.counts.proofs.Magnitudes.{quot_fits}

-- read back from its bits
abbrev pub back : Width → ℤ → ℤ
back w z = to_z w (of_z w z)

pub same_back : {w : Width} {x z : ℤ} → x ≡ z → SFits w z → back w x ≡ z
same_back {w} {x} {z} e f = ap (back w) e ∙ to_z-of_z w z f

-- a number of 32 bits in 64
pub widens : {z : ℤ} → SFits w32 z → SFits w64 z
widens f = sfits_widen tt f

pub wide_asked : {z : ℤ} → SFits w32 z → SFits w64 (back w32 z)
wide_asked {z} f = subst (SFits w64) (sym (to_z-of_z w32 z f)) (widens f)

pub wide_given : {z : ℤ} → SFits w32 z → back w64 (back w32 z) ≡ z
wide_given {z} f = same_back (to_z-of_z w32 z f) (widens f)

pub wide_fits : {z : ℤ} → SFits w32 z → SFits w32 (back w64 (back w32 z))
wide_fits {z} f = subst (SFits w32) (sym (wide_given f)) f

-- a quotient by a number of 32 bits
module _ {a : ℤ} {b : ℕ} (f : SFits w64 a) (g : b < 4294967296) where
  quot_same : quot_z (back w64 a) (to_z w64 b) ≡ quot_z a (pos b)
  quot_same = ap (λ (v : ℤ). quot_z v (to_z w64 b)) (to_z-of_z w64 a f) ∙ ap (quot_z a) (to_z_pos w64 b (omega arith))

  pub quot_asked : SFits w64 (quot_z (back w64 a) (to_z w64 b))
  quot_asked = subst (SFits w64) (sym quot_same) (quot_fits a b f)

  pub quot_given : back w64 (quot_z (back w64 a) (to_z w64 b)) ≡ quot_z a (pos b)
  quot_given = same_back quot_same (quot_fits a b f)

  pub quot_back : SFits w64 (back w64 (quot_z (back w64 a) (to_z w64 b)))
  quot_back = subst (SFits w64) (sym quot_given) (quot_fits a b f)

-- an operation on two numbers of 32 bits, exact in 64
module _ (op : ℤ → ℤ → ℤ) (fits : (a b : ℤ) → SFits w32 a → SFits w32 b → SFits w64 (op a b)) where
  op_same : {x y : ℤ} → SFits w32 x → SFits w32 y → op (back w64 x) (back w64 y) ≡ op x y
  op_same {x} {y} f g =
      ap (λ (v : ℤ). op v (back w64 y)) (to_z-of_z w64 x (widens f)) ∙ ap (op x) (to_z-of_z w64 y (widens g))

  pub both_asked : {x y : ℤ} → SFits w32 x → SFits w32 y → SFits w64 (op (back w64 x) (back w64 y))
  both_asked {x} {y} f g = subst (SFits w64) (sym (op_same f g)) (fits x y f g)

  pub both_given : {a b x y p : ℤ} → SFits w32 a → SFits w32 b → x ≡ back w32 a → y ≡ back w32 b → p ≡ op (back w64 x) (back w64 y) → back w64 p ≡ op a b
  both_given {a} {b} {x} {y} f g d e h =
      same_back
      (h
      ∙ ap (λ (v : ℤ). op (back w64 v) (back w64 y)) (d ∙ to_z-of_z w32 a f)
      ∙ ap (λ (v : ℤ). op (back w64 a) (back w64 v)) (e ∙ to_z-of_z w32 b g)
      ∙ op_same f g)
      (fits a b f g)

  -- what a call gave of two numbers that were passed
  pub both_are : {a b p : ℤ} → SFits w32 a → SFits w32 b → p ≡ op (back w32 a) (back w32 b) → back w64 p ≡ op a b
  both_are {a} {b} f g e =
      same_back
      (e ∙ ap (λ (v : ℤ). op v (back w32 b)) (to_z-of_z w32 a f) ∙ ap (op a) (to_z-of_z w32 b g))
      (fits a b f g)

pub zero_fits : SFits w32 (pos 0)
zero_fits = record { sfits = omega arith }

-- the two ways of a test of two numbers, that picks u or v
module _ {p q : ℤ} (f : SFits w32 p) (g : SFits w32 q) where
  test_same : lt_z (back w32 p) (back w32 q) ≡ lt_z p q
  test_same = ap (λ (x : ℤ). lt_z x (back w32 q)) (to_z-of_z w32 p f) ∙ ap (lt_z p) (to_z-of_z w32 q g)

  pub first_given : {u : ℤ} (v : ℤ) → SFits w32 u → lt_z (back w32 p) (back w32 q) ≡ true → back w32 u ≡ pick (lt_z p q) u v
  first_given v h t = rw (sym test_same ∙ t) (same_back refl h)

  pub second_given : {v : ℤ} (u : ℤ) → SFits w32 v → lt_z (back w32 p) (back w32 q) ≡ false → back w32 v ≡ pick (lt_z p q) u v
  second_given u h t = rw (sym test_same ∙ t) (same_back refl h)
