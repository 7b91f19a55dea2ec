-- Where later rows start.
use Prim.Native.Nat.{ℕ, ◌≤◌}
use native.Mathlib.Omega.{arith}
use native.Mathlib.Decide.{dec_le}
use mathlib.Core.Path.{◌≡◌}
use Rattle.store.specs.Layout.{row_word}
use Rattle.store.proofs.Room.{word_later}

pub row_later : (most m k : ℕ) → m ≤ k → row_word most m ≤ row_word most k
row_later most m k h = go (dec_le k m)
  where
    go : Dec (k ≤ m) → row_word most m ≤ row_word most k
    go (yes q) = let e : m ≡ k = omega arith in rw e (omega arith)
    go (no q) = omega (arith, word_later most m k (omega arith))
