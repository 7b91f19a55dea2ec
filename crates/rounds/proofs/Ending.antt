-- Rounds end: classes only rise, to at most the row itself, so the sum over rows of the row less its class falls whenever a row moves.
use Prim.Native.Nat.{ℕ, zero, suc, ◌+◌, ◌-◌, ◌≤◌, ◌<◌}
use native.Mathlib.Omega.{arith}
use native.Mathlib.Decide.{dec_lt}
use mathlib.Core.Path.{◌≡◌, refl, ap₂}
use Rattle.rounds.specs.Ending.{spread}

-- it goes by the first n classes alone
pub spread_same : (n : ℕ) (c d : ℕ → ℕ) → ((u : ℕ) → u < n → d u ≡ c u) → spread n d ≡ spread n c
unfolding spread
spread_same zero c d e = refl
spread_same (suc n) c d e = ap₂ (λ x y. x + (n - y)) (spread_same n c d (λ u h. e u (omega arith))) (e n (omega arith))

-- d has risen from c, to at most the row itself
pub record Risen (n : ℕ) (c d : ℕ → ℕ) : Type 0 where
  pub up : (u : ℕ) → u < n → c u ≤ d u
  pub low : (u : ℕ) → u < n → d u ≤ u

less : {n : ℕ} {c d : ℕ → ℕ} → Risen (suc n) c d → Risen n c d
less r = record { up = λ u h. r.up u (omega arith); low = λ u h. r.low u (omega arith) }

spread_most : (n : ℕ) (c d : ℕ → ℕ) → Risen n c d → spread n d ≤ spread n c
unfolding spread
spread_most zero c d r = omega arith
spread_most (suc n) c d r = let i = spread_most n c d (less r) in let a = r.up n (omega arith) in omega arith

pub spread_falls : (n : ℕ) (c d : ℕ → ℕ) → Risen n c d → (w : ℕ) → w < n → (d w ≡ c w → ⊥) → spread n d < spread n c
unfolding spread
spread_falls zero c d r w h f = absurd (omega arith)
spread_falls (suc n) c d r w h f = go (dec_lt w n) (spread_falls n c d (less r) w)
  where
    go : Dec (w < n) → (w < n → (d w ≡ c w → ⊥) → spread n d < spread n c) → spread n d + (n - d n) < spread n c + (n - c n)
    go (yes q) ih = let i = ih q f in let a = r.up n (omega arith) in omega arith
    go (no q) ih =
        let i = spread_most n c d (less r) in
        let e : w ≡ n = omega arith in
        let a = r.up n (omega arith) in
        let b = r.low n (omega arith) in
        let g : d n ≡ c n → ⊥ = rw e at f in
        omega arith
