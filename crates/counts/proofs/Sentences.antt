-- What the definitions say, in sentences for any number.
use Prim.Native.Nat.{ℕ, suc, ◌-◌, ◌≤◌, ◌<◌}
use native.Mathlib.Omega.{arith}
use mathlib.Core.Path.{◌≡◌, refl, sym, subst}
use mathlib.Core.Bool.{Bool, true, false}
use borrow.Author.Tests.{lt-ltb, le-ltb}
use lib.Dec.{T}
use lib.IntN.{ℤ, pos, negsuc, ◌-ℤ◌}
use lib.Signed.{◌<ℤ◌, ◌≤ℤ◌, lt_z, clash_ℤ}
use mir.Syntax.{w32}
use mir.Val.{SFits}
use Rattle.counts.specs.Signed.{most, least, clamped, signed16, mean_of_four, greater, lesser, chosen}
use Rattle.counts.proofs.Means.{mean_fits}

-- ---- tests of order

module _ {a b : ℤ} where
  holds : a <ℤ b → lt_z a b ≡ true
  holds l = go (lt_z a b) refl
    where
      go : (t : Bool) → lt_z a b ≡ t → t ≡ true
      go true e = refl
      go false e = absurd (subst T e l.lt)

  fails : b ≤ℤ a → lt_z a b ≡ false
  fails l = go (lt_z a b) refl
    where
      go : (t : Bool) → lt_z a b ≡ t → t ≡ false
      go true e = clash_ℤ {a = a} {b = b} (record { lt = subst T (sym e) tt }) l
      go false e = refl

-- ---- clamped: a number of 32 bits stands, and any other becomes the limit it is beyond

pub clamped_below : (z : ℤ) → z <ℤ least → clamped z ≡ least
unfolding clamped
clamped_below z l = rw (holds l)

pub clamped_above : (z : ℤ) → most <ℤ z → clamped z ≡ most
unfolding clamped
clamped_above (pos n) l = rw (holds l)
clamped_above (negsuc n) l = absurd l.lt

pub clamped_stands : (z : ℤ) → SFits w32 z → clamped z ≡ z
unfolding clamped
clamped_stands (pos n) f = rw (le-ltb 2147483647 n (omega (arith, f.sfits)))
clamped_stands (negsuc n) f = rw (le-ltb 2147483647 n (omega (arith, f.sfits)))

-- a mean of four needs no clamping
pub mean_stands : {a b c d : ℤ} → SFits w32 a → SFits w32 b → SFits w32 c → SFits w32 d → clamped (mean_of_four a b c d) ≡ mean_of_four a b c d
mean_stands {a} {b} {c} {d} e f g h = clamped_stands (mean_of_four a b c d) (mean_fits e f g h)

-- ---- greater, lesser, choose

pub greater_second : {a b : ℤ} → a <ℤ b → greater a b ≡ b
unfolding greater
greater_second l = rw (holds l)

pub greater_first : {a b : ℤ} → b ≤ℤ a → greater a b ≡ a
unfolding greater
greater_first l = rw (fails l)

pub lesser_second : {a b : ℤ} → b <ℤ a → lesser a b ≡ b
unfolding lesser
lesser_second l = rw (holds l)

pub lesser_first : {a b : ℤ} → a ≤ℤ b → lesser a b ≡ a
unfolding lesser
lesser_first l = rw (fails l)

pub chosen_above : {a : ℤ} (b c : ℤ) → pos 0 <ℤ a → chosen a b c ≡ b
unfolding chosen
chosen_above b c l = rw (holds l)

pub chosen_else : {a : ℤ} (b c : ℤ) → a ≤ℤ pos 0 → chosen a b c ≡ c
unfolding chosen
chosen_else b c l = rw (fails l)

-- ---- a setting of 16 bits: below 32,768 the number, and from there on the number less 65,536

pub signed16_small : (s : ℕ) → s < 32768 → signed16 s ≡ pos s
unfolding signed16
signed16_small s l = rw (lt-ltb s 32768 l)

pub signed16_large : (s : ℕ) → 32768 ≤ s → s < 65536 → signed16 s ≡ pos s -ℤ pos 65536
unfolding signed16
signed16_large s l k =
    let same : 65535 - s ≡ 65536 - suc s = omega arith in simp (le-ltb s 32768 l, lt-ltb s 65536 k, same)
