-- Bounds of sums, products and quotients by magnitude: mag z is n both for n and for -(n + 1).
use Prim.Native.Nat.{ℕ, zero, suc, ◌+◌, ◌*◌, ◌-◌, ◌/◌, ◌≤◌, ◌<◌}
use native.Mathlib.Omega.{arith}
use native.Mathlib.Nat.{div-le_self, mul-le-mul_right}
use mathlib.Core.Bool.{Bool, true, false, cond}
use lib.Dec.{ltb}
use lib.IntN.{ℤ, pos, negsuc, neg_ℤ, sub_ℕ, ◌+ℤ◌, ◌-ℤ◌, ◌*ℤ◌}
use lib.Signed.{mag, quot_z}
use mir.Syntax.{Width, w32, w64}
use mir.Val.{SFits}
use mir.ValLaws.{sfits_le}

pub mag_negated : (r : ℕ) {m : ℕ} → r ≤ suc m → mag (neg_ℤ (pos r)) ≤ m
mag_negated zero l = omega arith
mag_negated (suc r) l = omega arith

mag_sub : (a b : ℕ) → mag (sub_ℕ a b) ≤ a + b
mag_sub a b = go (ltb a b)
  where
    go : (t : Bool) → mag (cond t (negsuc (b - suc a)) (pos (a - b))) ≤ a + b
    go true = omega arith
    go false = omega arith

pub mag_add : (a b : ℤ) → mag (a +ℤ b) ≤ mag a + mag b + 1
mag_add (pos a) (pos b) = omega arith
mag_add (pos a) (negsuc b) = let k = mag_sub a (suc b) in omega arith
mag_add (negsuc a) (pos b) = let k = mag_sub b (suc a) in omega arith
mag_add (negsuc a) (negsuc b) = omega arith

mag_neg : (a : ℤ) → mag (neg_ℤ a) ≤ suc (mag a)
mag_neg (pos a) = mag_negated a (omega arith)
mag_neg (negsuc a) = omega arith

-- a sum and a difference of two numbers of 32 bits, in 64
pub sum_fits : (a b : ℤ) → SFits w32 a → SFits w32 b → SFits w64 (a +ℤ b)
sum_fits a b s t = let k = mag_add a b in record { sfits = omega (arith, s.sfits, t.sfits) }

pub difference_fits : (a b : ℤ) → SFits w32 a → SFits w32 b → SFits w64 (a -ℤ b)
difference_fits a b s t =
    let k = mag_add a (neg_ℤ b) in let l = mag_neg b in record { sfits = omega (arith, s.sfits, t.sfits) }

-- a quotient is no greater
mag_quot : (z : ℤ) (d : ℕ) → mag (quot_z z (pos d)) ≤ mag z
mag_quot (pos a) d = div-le_self a d
mag_quot (negsuc a) d = mag_negated (suc a / d) (div-le_self (suc a) d)

pub quot_fits : {w : Width} (z : ℤ) (d : ℕ) → SFits w z → SFits w (quot_z z (pos d))
quot_fits z d f = sfits_le (mag_quot z d) f

-- a number of 32 bits times a setting
mag_scaled : (x : ℤ) (s : ℕ) → mag x < 2147483648 → s < 65536 → mag (x *ℤ pos s) < 140737488355328
mag_scaled (pos a) s l k = let m : a * s ≤ 2147483648 * s = mul-le-mul_right s (omega arith) in omega arith
mag_scaled (negsuc a) s l k =
    let m : suc a * s ≤ 2147483648 * s = mul-le-mul_right s (omega arith) in
    let n : mag (neg_ℤ (pos (suc a * s))) ≤ suc a * s = mag_negated (suc a * s) (omega arith) in
    omega arith

pub product_fits : (x : ℤ) (s : ℕ) → SFits w32 x → s < 65536 → SFits w64 (x *ℤ pos s)
product_fits x s f k = let l = mag_scaled x s f.sfits k in record { sfits = omega arith }
