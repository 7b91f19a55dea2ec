-- Inner: how many rows have no name.
use Rattle.std.specs.Prelude.{ℕ, zero, suc, ◌+◌, eqb}
use Rattle.rules.specs.Pick.{pick}

unfoldable pub waits : ℕ → ℕ
waits x = pick (eqb x 1) 0 1

unfoldable pub waiting : ℕ → (ℕ → ℕ) → ℕ
waiting zero mark = 0
waiting (suc n) mark = waiting n mark + waits (mark n)
