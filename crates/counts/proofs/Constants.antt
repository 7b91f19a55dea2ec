-- A setting as a signed 16-bit number: from 32,768 on less 65,536.
use Prim.Native.Nat.{ℕ, suc, ◌-◌, ◌≤◌, ◌<◌}
use native.Mathlib.Omega.{arith}
use mathlib.Core.Path.{◌≡◌, sym, ap, ◌∙◌, subst}
use borrow.Author.Tests.{lt-ltb, le-ltb}
use lib.IntN.{ℤ, pos, negsuc, ◌-ℤ◌}
use mir.Syntax.{w32, w64}
use mir.Val.{SFits, to_z}
use mir.ValLaws.{to_z_pos}
use Rattle.counts.specs.Signed.{signed16}
use Rattle.counts.proofs.Reading.{back, same_back, widens}

module _ {s : ℕ} (k : s < 65536) where
  below_zero : to_z w64 s -ℤ pos 65536 ≡ negsuc (65535 - s)
  below_zero =
      let same : 65536 - suc s ≡ 65535 - s = omega arith in
      ap (λ (v : ℤ). v -ℤ pos 65536) (to_z_pos w64 s (omega arith)) ∙ simp (lt-ltb s 65536 k, same)

  negative_fits : SFits w32 (negsuc (65535 - s))
  negative_fits = record { sfits = omega arith }

  pub negative_asked : SFits w64 (to_z w64 s -ℤ pos 65536)
  negative_asked = subst (SFits w64) (sym below_zero) (widens negative_fits)

  module _ {p : ℤ} (e : p ≡ to_z w64 s -ℤ pos 65536) where
    negative_back : back w64 p ≡ negsuc (65535 - s)
    negative_back = same_back (e ∙ below_zero) (widens negative_fits)

    pub narrow_asked : SFits w32 (back w64 p)
    narrow_asked = subst (SFits w32) (sym negative_back) negative_fits

    pub negative_given : {r : ℤ} → r ≡ back w64 p → 32767 < s → back w32 r ≡ signed16 s
    unfolding signed16
    negative_given f l = rw (le-ltb s 32768 (omega arith)) (same_back (f ∙ negative_back) negative_fits)

pub small_given : {s : ℕ} → s ≤ 32767 → to_z w32 s ≡ signed16 s
unfolding signed16
small_given {s} l = rw (lt-ltb s 32768 (omega arith)) (to_z_pos w32 s (omega arith))
