-- Every operation where numbers are largest, smallest, and about zero, computed. A line of a table is for one first number, from the least to the most;
-- in it the second goes through the same five.
use mathlib.Core.Path.{◌≡◌, refl}
use mathlib.Core.List.{List, [], ◌∷◌}
use lib.IntN.{ℤ, pos, negsuc, neg_ℤ, ◌+ℤ◌, ◌-ℤ◌, ◌*ℤ◌}
use lib.Signed.{quot_z}
use Rattle.counts.specs.Signed.{most, least, clamped, signed16, scaled, mean_of_four, greater, lesser, chosen}

abbrev minus_one : ℤ
minus_one = negsuc 0

abbrev zero : ℤ
zero = pos 0

abbrev one : ℤ
one = pos 1

abbrev five : (ℤ → ℤ) → List ℤ
five f = f least ∷ f minus_one ∷ f zero ∷ f one ∷ f most ∷ []

abbrev Table : (f : ℤ → ℤ → ℤ) → (a b c d e : List ℤ) → Type 0
Table f a b c d e =
    (five (f least) ≡ a) × (five (f minus_one) ≡ b) × (five (f zero) ≡ c) × (five (f one) ≡ d) × (five (f most) ≡ e)

sums : Table (λ a b. clamped (a +ℤ b))
    (least ∷ least ∷ least ∷ negsuc 2147483646 ∷ minus_one ∷ [])
    (least ∷ negsuc 1 ∷ minus_one ∷ zero ∷ pos 2147483646 ∷ [])
    (least ∷ minus_one ∷ zero ∷ one ∷ most ∷ [])
    (negsuc 2147483646 ∷ zero ∷ one ∷ pos 2 ∷ most ∷ [])
    (minus_one ∷ pos 2147483646 ∷ most ∷ most ∷ most ∷ [])
unfolding clamped
sums = (refl, refl, refl, refl, refl)

differences : Table (λ a b. clamped (a -ℤ b))
    (zero ∷ negsuc 2147483646 ∷ least ∷ least ∷ least ∷ [])
    (most ∷ zero ∷ minus_one ∷ negsuc 1 ∷ least ∷ [])
    (most ∷ one ∷ zero ∷ minus_one ∷ negsuc 2147483646 ∷ [])
    (most ∷ pos 2 ∷ one ∷ zero ∷ negsuc 2147483645 ∷ [])
    (most ∷ most ∷ most ∷ pos 2147483646 ∷ zero ∷ [])
unfolding clamped
differences = (refl, refl, refl, refl, refl)

greaters : Table greater
    (least ∷ minus_one ∷ zero ∷ one ∷ most ∷ [])
    (minus_one ∷ minus_one ∷ zero ∷ one ∷ most ∷ [])
    (zero ∷ zero ∷ zero ∷ one ∷ most ∷ [])
    (one ∷ one ∷ one ∷ one ∷ most ∷ [])
    (most ∷ most ∷ most ∷ most ∷ most ∷ [])
unfolding greater
greaters = (refl, refl, refl, refl, refl)

lessers : Table lesser
    (least ∷ least ∷ least ∷ least ∷ least ∷ [])
    (least ∷ minus_one ∷ minus_one ∷ minus_one ∷ minus_one ∷ [])
    (least ∷ minus_one ∷ zero ∷ zero ∷ zero ∷ [])
    (least ∷ minus_one ∷ zero ∷ one ∷ one ∷ [])
    (least ∷ minus_one ∷ zero ∷ one ∷ most ∷ [])
unfolding lesser
lessers = (refl, refl, refl, refl, refl)

-- the first chooses the second, or else -2
choices : Table (λ a b. chosen a b (negsuc 1))
    (negsuc 1 ∷ negsuc 1 ∷ negsuc 1 ∷ negsuc 1 ∷ negsuc 1 ∷ [])
    (negsuc 1 ∷ negsuc 1 ∷ negsuc 1 ∷ negsuc 1 ∷ negsuc 1 ∷ [])
    (negsuc 1 ∷ negsuc 1 ∷ negsuc 1 ∷ negsuc 1 ∷ negsuc 1 ∷ [])
    (least ∷ minus_one ∷ zero ∷ one ∷ most ∷ [])
    (least ∷ minus_one ∷ zero ∷ one ∷ most ∷ [])
unfolding chosen
choices = (refl, refl, refl, refl, refl)

-- the second stands three times
means : Table (λ a b. mean_of_four a b b b)
    (least ∷ negsuc 536870911 ∷ negsuc 536870911 ∷ negsuc 536870910 ∷ pos 1073741823 ∷ [])
    (negsuc 1610612735 ∷ minus_one ∷ zero ∷ zero ∷ pos 1610612735 ∷ [])
    (negsuc 1610612735 ∷ zero ∷ zero ∷ zero ∷ pos 1610612735 ∷ [])
    (negsuc 1610612734 ∷ zero ∷ zero ∷ one ∷ pos 1610612735 ∷ [])
    (negsuc 1073741823 ∷ pos 536870911 ∷ pos 536870911 ∷ pos 536870912 ∷ most ∷ [])
unfolding mean_of_four
means = (refl, refl, refl, refl, refl)

negations : five (λ a. clamped (neg_ℤ a)) ≡ most ∷ one ∷ zero ∷ minus_one ∷ negsuc 2147483646 ∷ []
unfolding clamped
negations = refl

-- by 0, 1, 255, 256, 257 and 65,535
scaled_by_0 : five (λ a. scaled a 0) ≡ zero ∷ zero ∷ zero ∷ zero ∷ zero ∷ []
unfolding scaled clamped
scaled_by_0 = refl

scaled_by_1 : five (λ a. scaled a 1) ≡ negsuc 8388607 ∷ zero ∷ zero ∷ zero ∷ pos 8388607 ∷ []
unfolding scaled clamped
scaled_by_1 = refl

scaled_by_255 : five (λ a. scaled a 255) ≡ negsuc 2139095039 ∷ zero ∷ zero ∷ zero ∷ pos 2139095039 ∷ []
unfolding scaled clamped
scaled_by_255 = refl

scaled_by_256 : five (λ a. scaled a 256) ≡ least ∷ minus_one ∷ zero ∷ one ∷ most ∷ []
unfolding scaled clamped
scaled_by_256 = refl

scaled_by_257 : five (λ a. scaled a 257) ≡ least ∷ minus_one ∷ zero ∷ one ∷ most ∷ []
unfolding scaled clamped
scaled_by_257 = refl

scaled_by_65535 : five (λ a. scaled a 65535) ≡ least ∷ negsuc 254 ∷ zero ∷ pos 255 ∷ most ∷ []
unfolding scaled clamped
scaled_by_65535 = refl

-- ---- sentences of the request

least_negated : clamped (neg_ℤ least) ≡ most
unfolding clamped
least_negated = refl

-- toward zero, not down
scaled_toward_zero : scaled (negsuc 0) 1 ≡ pos 0
unfolding scaled clamped
scaled_toward_zero = refl

-- the greatest number that 65,535 scales without clamping, and the next
scaled_to_most : scaled (pos 8388736) 65535 ≡ most
unfolding scaled clamped
scaled_to_most = refl

scaled_past_most : (quot_z (pos 8388737 *ℤ pos 65535) (pos 256) ≡ pos 2147483903) × (scaled (pos 8388737) 65535 ≡ most)
unfolding scaled clamped
scaled_past_most = (refl, refl)

constants : (signed16 0 ≡ pos 0) × (signed16 32767 ≡ pos 32767) × (signed16 32768 ≡ negsuc 32767) × (signed16 65535 ≡ negsuc 0)
unfolding signed16
constants = (refl, refl, refl, refl)
