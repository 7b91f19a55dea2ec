-- The fewest digits that hold a number are its decimal digits, and a number below a power of ten has so many at most.
use Prim.Native.Nat.{ℕ, zero, suc, ◌+◌, ◌-◌, ◌/◌, ◌%◌, ◌^◌, ◌≤◌, ◌<◌}
use native.Mathlib.Omega.{arith}
use native.Mathlib.Nat.{pow-suc, pow-zero}
use native.Mathlib.Decide.{dec_lt}
use borrow.Author.Tests.{lt-ltb, le-ltb}
use mathlib.Core.Path.{◌≡◌, sym, ap, ap₂, ◌∙◌}
use mathlib.Core.List.{List, [], ◌∷◌, ◌++◌}
use lib.ListN.{length, take, length-append}
use Rattle.io.specs.Digits.{last_digits, hex_digit_ascii, IsDigitCount}
use Rattle.text.specs.Decimal.{digits_in, decimal}

pub digits_one : (most n : ℕ) → n < 10 → digits_in (suc most) n ≡ (48 + n % 10) ∷ []
unfolding digits_in
digits_one most n h = simp (lt-ltb n 10 h)

pub digits_more : (most n : ℕ) → 10 ≤ n → digits_in (suc most) n ≡ digits_in most (n / 10) ++ ((48 + n % 10) ∷ [])
unfolding digits_in
digits_more most n h = simp (le-ltb n 10 h)

glyph_digit : (n : ℕ) → hex_digit_ascii (n % 10) ≡ 48 + n % 10
glyph_digit n = let h : n % 10 < 10 = omega arith in simp (lt-ltb (n % 10) 10 h)

fewest_digits : (k n most : ℕ) → IsDigitCount 10 1 n k → n < most → last_digits 10 k n ≡ digits_in most n
fewest_digits zero n most f h = absurd (omega (arith, f.0))
fewest_digits (suc k) n zero f h = absurd (omega arith)
fewest_digits (suc zero) n (suc most) f h =
    let l : n < 10 = f.1 in
    ap (λ (d : ℕ). d ∷ []) (glyph_digit n) ∙ sym (digits_one most n l)
fewest_digits (suc (suc k)) n (suc most) f h =
    let p = pow-suc 10 k in
    let q = pow-suc 10 (suc k) in
    let less : suc (suc k) - 1 ≡ suc k = omega arith in
    let low : 10 ^ suc k ≤ n = rw less at (f.2 (omega arith)) in
    let one = pow_one k in
    let g : IsDigitCount 10 1 (n / 10) (suc k) = (omega arith, omega (arith, p, q, f.1), λ l. tenth) in
    ap₂ (λ (a : List ℕ) (d : ℕ). a ++ (d ∷ [])) (fewest_digits (suc k) (n / 10) most g (omega (arith, low, p, one))) (glyph_digit n)
    ∙ sym (digits_more most n (omega (arith, low, p, one)))
  where
    pow_one : (k : ℕ) → 1 ≤ 10 ^ k
    pow_one zero = omega (arith, pow-zero 10)
    pow_one (suc k) = omega (arith, pow-suc 10 k, pow_one k)

    tenth : 10 ^ (suc k - 1) ≤ n / 10
    tenth =
        let less : suc (suc k) - 1 ≡ suc k = omega arith in
        let same : suc k - 1 ≡ k = omega arith in
        let low : 10 ^ suc k ≤ n = rw less at (f.2 (omega arith)) in
        rw same (omega (arith, low, pow-suc 10 k))

pub fewest_decimal : (n k : ℕ) (d : List ℕ) → take k d ≡ last_digits 10 k n → IsDigitCount 10 1 n k → take k d ≡ decimal n
fewest_decimal n k d e f = e ∙ fewest_digits k n (suc n) f (omega arith)

digits_few : (most k n : ℕ) → n < 10 ^ suc k → length (digits_in most n) ≤ suc k
unfolding digits_in
digits_few zero k n h = omega arith
digits_few (suc most) k n h = go (dec_lt n 10) k h (digits_few most)
  where
    go : Dec (n < 10) → (k : ℕ) → n < 10 ^ suc k → ((k n : ℕ) → n < 10 ^ suc k → length (digits_in most n) ≤ suc k) → length (digits_in (suc most) n) ≤ suc k
    go (yes q) k h ih = rw (digits_one most n q) (omega arith)
    go (no q) zero h ih = absurd (omega arith)
    go (no q) (suc k) h ih =
        rw (digits_more most n (omega arith))
        (omega (arith, length-append (digits_in most (n / 10)) ((48 + n % 10) ∷ []), ih k (n / 10) (omega (arith, pow-suc 10 (suc k)))))

pub decimal_one : (n : ℕ) → n < 10 → length (decimal n) ≤ 1
decimal_one n h = digits_few (suc n) 0 n h

pub decimal_four : (n : ℕ) → n < 10000 → length (decimal n) ≤ 4
decimal_four n h = digits_few (suc n) 3 n h

pub decimal_five : (n : ℕ) → n < 100000 → length (decimal n) ≤ 5
decimal_five n h = digits_few (suc n) 4 n h
