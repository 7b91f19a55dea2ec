-- Inner: how far classes are from the end of sorting.
use Rattle.std.specs.Prelude.{ℕ, zero, suc, ◌+◌, ◌-◌}

unfoldable pub spread : ℕ → (ℕ → ℕ) → ℕ
spread zero c = 0
spread (suc n) c = spread n c + (n - c n)
