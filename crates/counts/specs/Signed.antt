-- What the operations compute, on signed numbers: exact, and then clamped to 32 bits; a quotient goes toward zero.
use Rattle.std.specs.Prelude.{ℕ, ◌-◌, ltb, ℤ, pos, negsuc, ◌+ℤ◌, ◌*ℤ◌}
use Rattle.std.specs.Int.Signed.{lt_z, quot_z}
use Rattle.rules.specs.Pick.{pick}

-- 2,147,483,647 and -2,147,483,648
abbrev pub most : ℤ
most = pos 2147483647

abbrev pub least : ℤ
least = negsuc 2147483647

unfoldable pub clamped : ℤ → ℤ
clamped z = pick (lt_z z least) least (pick (lt_z most z) most z)

-- a setting as a signed 16-bit number
unfoldable pub signed16 : ℕ → ℤ
signed16 s = pick (ltb s 32768) (pos s) (negsuc (65535 - s))

-- a number times a setting over 256
unfoldable pub scaled : ℤ → ℕ → ℤ
scaled x s = clamped (quot_z (x *ℤ pos s) (pos 256))

unfoldable pub mean_of_four : (a b c d : ℤ) → ℤ
mean_of_four a b c d = quot_z (a +ℤ b +ℤ c +ℤ d) (pos 4)

unfoldable pub greater : (a b : ℤ) → ℤ
greater a b = pick (lt_z a b) b a

unfoldable pub lesser : (a b : ℤ) → ℤ
lesser a b = pick (lt_z b a) b a

-- the second if the first is above zero, else the third
unfoldable pub chosen : (a b c : ℤ) → ℤ
chosen a b c = pick (lt_z (pos 0) a) b c
