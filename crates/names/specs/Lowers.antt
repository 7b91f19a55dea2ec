-- Inner: mark and name in one number.
use Rattle.std.specs.Prelude.{ℕ, ◌+◌, eqb}
use Rattle.rules.specs.Pick.{pick}

-- mark and name in one number
unfoldable pub key_of : (m mark : ℕ → ℕ) → ℕ → ℕ
key_of m mark v = m v + pick (eqb (mark v) 1) 0 2048
