-- What each operation gives at each tick, one law an operation. Holds, channels and constants look at no input of the same tick, and the others
-- are said of a row that settles.
use Prim.Native.Nat.{ℕ, suc, ◌+◌, ◌*◌, ◌<◌}
use native.Mathlib.Omega.{arith}
use mathlib.Core.Path.{◌≡◌, ◌∙◌}
use mathlib.Core.List.{List}
use lib.ListN.{get_or}
use lib.Seq.{get_or-take, get_or-drop}
use lib.IntN.{ℤ, pos, neg_ℤ, ◌+ℤ◌, ◌-ℤ◌}
use Rattle.trees.specs.Graph.{Graph}
use Rattle.loops.specs.Operations.{operation_of, setting_of}
use Rattle.counts.specs.Signed.{clamped, signed16, scaled, mean_of_four, greater, lesser, chosen}
use Rattle.running.specs.Results.{result_of}
use Rattle.running.specs.Values.{of_inputs, tick_value, value}
use Rattle.running.specs.Run.{trace}
use Rattle.running.proofs.Held.{held_at, value_tick}
use Rattle.running.proofs.Steps.{inputs_hit, tick_next, Settles, value_step}

-- channel s of tick t, where s is below the channel count
pub trace_at : (values : List ℤ) (channels t s : ℕ) → s < channels → get_or (trace values channels t) s (pos 0) ≡ get_or values (t * channels + s) (pos 0)
unfolding trace
trace_at values channels t s l = rw (get_or-take, get_or-drop)

-- ---- what needs no input of the same tick

module _ (g : Graph) (tr : ℕ → List ℤ) (t u : ℕ) where
  once : value g tr t u ≡ result_of (operation_of (g.label u)) (setting_of (g.label u)) (tr t) (held_at g tr t u) (of_inputs g (tick_value g (tr t) (held_at g tr t) 1023) u)
  once = value_tick g tr t u ∙ tick_next g (tr t) (held_at g tr t) 1023 u

  pub value_channel : operation_of (g.label u) ≡ 1 → value g tr t u ≡ get_or (tr t) (setting_of (g.label u)) (pos 0)
  unfolding result_of
  value_channel o = once ∙ rw o

  pub value_constant : operation_of (g.label u) ≡ 2 → value g tr t u ≡ signed16 (setting_of (g.label u))
  unfolding result_of
  value_constant o = once ∙ rw o

  value_hold : operation_of (g.label u) ≡ 6 → value g tr t u ≡ held_at g tr t u
  unfolding result_of
  value_hold o = once ∙ rw o

-- a hold gives 0 at tick 0
pub value_hold_first : (g : Graph) (tr : ℕ → List ℤ) (u : ℕ) → operation_of (g.label u) ≡ 6 → value g tr 0 u ≡ pos 0
unfolding held_at
value_hold_first g tr u o = value_hold g tr 0 u o

-- and later its input one tick before
pub value_hold_later : (g : Graph) (tr : ℕ → List ℤ) (t u : ℕ) → operation_of (g.label u) ≡ 6 → g.count u ≡ 1 → value g tr (suc t) u ≡ value g tr t (g.input u 0)
unfolding held_at
value_hold_later g tr t u o c = value_hold g tr (suc t) u o ∙ inputs_hit g (value g tr t) u 0 (omega arith)

-- ---- what needs inputs of the same tick

module _ {g : Graph} {u : ℕ} (s : Settles g u) (tr : ℕ → List ℤ) (t : ℕ) where
  -- input j of the row at this tick
  abbrev at : ℕ → ℤ
  at j = value g tr t (g.input u j)

  there : (j : ℕ) → j < g.count u → of_inputs g (value g tr t) u j ≡ at j
  there j l = inputs_hit g (value g tr t) u j l

  pub value_difference : operation_of (g.label u) ≡ 3 → g.count u ≡ 2 → value g tr t u ≡ clamped (at 0 -ℤ at 1)
  unfolding result_of
  value_difference o c = value_step s tr t ∙ rw (o, there 0 (omega arith), there 1 (omega arith))

  pub value_sum : operation_of (g.label u) ≡ 4 → g.count u ≡ 2 → value g tr t u ≡ clamped (at 0 +ℤ at 1)
  unfolding result_of
  value_sum o c = value_step s tr t ∙ rw (o, there 0 (omega arith), there 1 (omega arith))

  pub value_scale : operation_of (g.label u) ≡ 5 → g.count u ≡ 1 → value g tr t u ≡ scaled (at 0) (setting_of (g.label u))
  unfolding result_of
  value_scale o c = value_step s tr t ∙ rw (o, there 0 (omega arith))

  pub value_greater : operation_of (g.label u) ≡ 8 → g.count u ≡ 2 → value g tr t u ≡ greater (at 0) (at 1)
  unfolding result_of
  value_greater o c = value_step s tr t ∙ rw (o, there 0 (omega arith), there 1 (omega arith))

  pub value_lesser : operation_of (g.label u) ≡ 9 → g.count u ≡ 2 → value g tr t u ≡ lesser (at 0) (at 1)
  unfolding result_of
  value_lesser o c = value_step s tr t ∙ rw (o, there 0 (omega arith), there 1 (omega arith))

  pub value_choose : operation_of (g.label u) ≡ 10 → g.count u ≡ 3 → value g tr t u ≡ chosen (at 0) (at 1) (at 2)
  unfolding result_of
  value_choose o c = value_step s tr t ∙ rw (o, there 0 (omega arith), there 1 (omega arith), there 2 (omega arith))

  pub value_mean_of_four : operation_of (g.label u) ≡ 11 → g.count u ≡ 4 → value g tr t u ≡ mean_of_four (at 0) (at 1) (at 2) (at 3)
  unfolding result_of
  value_mean_of_four o c = value_step s tr t ∙ rw (o, there 0 (omega arith), there 1 (omega arith), there 2 (omega arith), there 3 (omega arith))

  pub value_negate : operation_of (g.label u) ≡ 12 → g.count u ≡ 1 → value g tr t u ≡ clamped (neg_ℤ (at 0))
  unfolding result_of
  value_negate o c = value_step s tr t ∙ rw (o, there 0 (omega arith))
