-- How far a number is from 0, by its sign: below 0 it is one further than what is left of -1.
use Prim.Native.Nat.{ℕ, suc, ◌+◌}
use native.Mathlib.Omega.{arith}
use native.Mathlib.Numerals.{add-one}
use mathlib.Core.Path.{◌≡◌, refl, sym, ap, ◌∙◌, subst}
use mathlib.Core.Bool.{true, false}
use lib.Dec.{T}
use lib.IntN.{ℤ, pos, negsuc, nat_abs, ◌-ℤ◌}
use lib.Signed.{mag, lt_z, non_neg}
use borrow.Author.Tests.{ltb-true, le-ltb}
use mir.Syntax.{w32, w64}
use mir.Val.{Fits, SFits, to_z, of_z}
use mir.ValLaws.{to_z-of_z}

negative : (n : ℤ) → lt_z n (pos 0) ≡ true → n ≡ negsuc (mag n)
negative (pos k) t = absurd (omega (arith, ltb-true k 0 t))
negative (negsuc k) t = refl

positive : (n : ℤ) → lt_z n (pos 0) ≡ false → n ≡ pos (mag n)
positive (pos k) t = refl
positive (negsuc k) t = absurd (let z : ◌≡◌ {A = ℕ} 0 1 = cc in omega arith)

minus : (k : ℕ) → negsuc 0 -ℤ negsuc k ≡ pos k
minus k = simp (le-ltb (suc k) 1 (omega arith)) (ap pos (omega arith))

module _ {n : ℤ} (f : SFits w32 n) where
  back : to_z w32 (of_z w32 n) ≡ n
  back = to_z-of_z w32 n f

  module _ (t : lt_z (to_z w32 (of_z w32 n)) (pos 0) ≡ true) where
    below : n ≡ negsuc (mag n)
    below = negative n (subst (λ (v : ℤ). lt_z v (pos 0) ≡ true) back t)

    rest : negsuc 0 -ℤ to_z w32 (of_z w32 n) ≡ pos (mag n)
    rest = ap (λ (v : ℤ). negsuc 0 -ℤ v) (back ∙ below) ∙ minus (mag n)

    pub rest_fits : SFits w32 (negsuc 0 -ℤ to_z w32 (of_z w32 n))
    rest_fits = subst (SFits w32) (sym rest) (record { sfits = f.sfits })

    rest_read : to_z w32 (of_z w32 (negsuc 0 -ℤ to_z w32 (of_z w32 n))) ≡ pos (mag n)
    rest_read = to_z-of_z w32 (negsuc 0 -ℤ to_z w32 (of_z w32 n)) rest_fits ∙ rest

    pub rest_cast : T (non_neg (to_z w32 (of_z w32 (negsuc 0 -ℤ to_z w32 (of_z w32 n))))) × Fits w64 (nat_abs (to_z w32 (of_z w32 (negsuc 0 -ℤ to_z w32 (of_z w32 n)))))
    rest_cast =
        subst (λ (v : ℤ). T (non_neg v) × Fits w64 (nat_abs v)) (sym rest_read) (tt, record { fits = omega (arith, f.sfits) })

    pub size_fits : Fits w64 (nat_abs (to_z w32 (of_z w32 (negsuc 0 -ℤ to_z w32 (of_z w32 n)))) + 1)
    size_fits = subst (λ (v : ℤ). Fits w64 (nat_abs v + 1)) (sym rest_read) (record { fits = omega (arith, f.sfits) })

    pub size_below : nat_abs (to_z w32 (of_z w32 (negsuc 0 -ℤ to_z w32 (of_z w32 n)))) + 1 ≡ nat_abs n
    size_below = ap (λ (v : ℤ). nat_abs v + 1) rest_read ∙ add-one (mag n) ∙ sym (ap nat_abs below)

  module _ (t : lt_z (to_z w32 (of_z w32 n)) (pos 0) ≡ false) where
    above : to_z w32 (of_z w32 n) ≡ pos (mag n)
    above = back ∙ positive n (subst (λ (v : ℤ). lt_z v (pos 0) ≡ false) back t)

    pub size_cast : T (non_neg (to_z w32 (of_z w32 n))) × Fits w64 (nat_abs (to_z w32 (of_z w32 n)))
    size_cast = subst (λ (v : ℤ). T (non_neg v) × Fits w64 (nat_abs v)) (sym above) (tt, record { fits = omega (arith, f.sfits) })

    pub size_above : nat_abs (to_z w32 (of_z w32 n)) ≡ nat_abs n
    size_above = ap nat_abs back
