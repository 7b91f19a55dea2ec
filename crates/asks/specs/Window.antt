-- The bytes of the input that are held, and those that a read brings.
use Rattle.std.specs.Prelude.{ℕ, ◌+◌, ◌-◌, ◌≤◌, ◌<◌, ◌≡◌, List, length, take, drop}
use Rattle.requests.specs.declared.argument.Stop.{Stop}
use Rattle.requests.specs.declared.argument.Stop.TheVariants.{More}

-- a place among the bytes held, and room for more where more are needed
pub record Roomy (room : ℕ) (stop : Stop) (at held : ℕ) : Type 0 where
  pub among : at ≤ held
  pub inside : held ≤ room
  pub more : stop ≡ More → held - at < room

-- the bytes left over stand at the front, and with those that came they fit
pub record ReadAfter (old : List ℕ) (at held got : ℕ) (new : List ℕ) : Type 0 where
  pub left : take (held - at) new ≡ take (held - at) (drop at old)
  pub fits : held - at + got ≤ length new
