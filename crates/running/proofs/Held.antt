-- What a hold gives, and a tick's values by it.
use Prim.Native.Nat.{ℕ, zero, suc}
use mathlib.Core.Path.{◌≡◌, refl}
use mathlib.Core.List.{List}
use lib.IntN.{ℤ, pos}
use Rattle.trees.specs.Graph.{Graph}
use Rattle.running.specs.Values.{of_inputs, tick_value, value, most_deep}

-- 0 at tick 0, later its input one tick before
unfoldable pub held_at : Graph → (tr : ℕ → List ℤ) → (t u : ℕ) → ℤ
held_at g tr zero u = pos 0
held_at g tr (suc t) u = of_inputs g (value g tr t) u 0

pub value_tick : (g : Graph) (tr : ℕ → List ℤ) (t u : ℕ) → value g tr t u ≡ tick_value g (tr t) (held_at g tr t) most_deep u
unfolding value held_at
value_tick g tr zero u = refl
value_tick g tr (suc t) u = refl
