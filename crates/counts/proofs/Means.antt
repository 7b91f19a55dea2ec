-- A mean of four numbers of 32 bits is one, so that nothing is clamped.
use Prim.Native.Nat.{suc, ◌/◌, ◌≤◌, ◌<◌}
use native.Mathlib.Omega.{arith}
use mathlib.Core.Path.{◌≡◌, sym, ap, ◌∙◌, subst}
use lib.IntN.{ℤ, pos, negsuc, ◌+ℤ◌, +ℤ_assoc}
use lib.Signed.{mag, quot_z}
use mir.Syntax.{w32, w64}
use mir.Val.{SFits}
use Rattle.counts.specs.Signed.{mean_of_four}
use Rattle.counts.proofs.Magnitudes.{mag_add, mag_negated, sum_fits}
use Rattle.counts.proofs.Reading.{back, same_back, widens, both_are}

-- a sum of 34 bits over four has 32
quarter : (s : ℤ) → mag s < 8589934592 → mag (quot_z s (pos 4)) < 2147483648
quarter (pos n) l = omega arith
quarter (negsuc n) l = let k : mag (quot_z (negsuc n) (pos 4)) ≤ 2147483647 = mag_negated (suc n / 4) (omega arith) in omega arith

module _ {a b c d : ℤ} (e : SFits w32 a) (f : SFits w32 b) (g : SFits w32 c) (h : SFits w32 d) where
  mag_four : mag (a +ℤ b +ℤ c +ℤ d) < 8589934592
  mag_four =
      let k = mag_add a b in
      let l = mag_add (a +ℤ b) c in
      let m = mag_add (a +ℤ b +ℤ c) d in
      omega (arith, e.sfits, f.sfits, g.sfits, h.sfits)

  pub mean_fits : SFits w32 (mean_of_four a b c d)
  unfolding mean_of_four
  mean_fits = record { sfits = quarter (a +ℤ b +ℤ c +ℤ d) mag_four }

  module _ {p q : ℤ} (i : p ≡ back w32 a +ℤ back w32 b) (j : q ≡ back w32 c +ℤ back w32 d) where
    four_same : back w64 p +ℤ back w64 q ≡ a +ℤ b +ℤ c +ℤ d
    four_same =
        ap (λ (s : ℤ). s +ℤ back w64 q) (both_are ◌+ℤ◌ sum_fits e f i)
        ∙ ap (λ (s : ℤ). a +ℤ b +ℤ s) (both_are ◌+ℤ◌ sum_fits g h j)
        ∙ sym (+ℤ_assoc (a +ℤ b) c d)

    four_fits : SFits w64 (a +ℤ b +ℤ c +ℤ d)
    four_fits = let k = mag_four in record { sfits = omega arith }

    pub four_asked : SFits w64 (back w64 p +ℤ back w64 q)
    four_asked = subst (SFits w64) (sym four_same) four_fits

    module _ {t m : ℤ} (k : t ≡ back w64 p +ℤ back w64 q) (l : m ≡ quot_z (back w64 t) (pos 4)) where
      mean_back : back w64 m ≡ mean_of_four a b c d
      unfolding mean_of_four
      mean_back =
          same_back (l ∙ ap (λ (s : ℤ). quot_z s (pos 4)) (same_back (k ∙ four_same) four_fits)) (widens mean_fits)

      pub mean_asked : SFits w32 (back w64 m)
      mean_asked = subst (SFits w32) (sym mean_back) mean_fits

      pub mean_given : {r : ℤ} → r ≡ back w64 m → back w32 r ≡ mean_of_four a b c d
      mean_given n = same_back (n ∙ mean_back) mean_fits
