-- Where no steps go on for ever, none of them from a hold, the depth is never felt: a row's value is its operation's result on its inputs'
-- values at the same tick.
use Prim.Native.Nat.{ℕ, zero, suc, ◌+◌, ◌-◌, ◌≤◌, ◌<◌}
use native.Mathlib.Omega.{arith}
use native.Mathlib.Decide.{dec_lt, ℕ_discrete}
use mathlib.Core.Path.{◌≡◌, refl, sym, ap, ◌∙◌}
use mathlib.Core.List.{List}
use lib.ListN.{get_or}
use lib.IntN.{ℤ, pos}
use borrow.Author.Tests.{lt-ltb, le-ltb}
use Rattle.trees.specs.Graph.{Graph, Closed}
use Rattle.loops.specs.Operations.{operation_of, setting_of, hold}
use Rattle.loops.specs.Loops.{Hold, Unheld}
use Rattle.loops.specs.Orders.{StandsIn, Ordered}
use Rattle.loops.proofs.Running.{Runs, runs_none, runs_on, runs_first, runs_fewer, runs_loop}
use Rattle.running.specs.Results.{result_of}
use Rattle.running.specs.Values.{of_inputs, tick_value, value, most_deep}
use Rattle.running.proofs.Held.{held_at, value_tick}

-- ---- inputs

module _ (g : Graph) where
  pub inputs_hit : (f : ℕ → ℤ) (u j : ℕ) → j < g.count u → of_inputs g f u j ≡ f (g.input u j)
  unfolding of_inputs
  inputs_hit f u j l = simp (lt-ltb j (g.count u) l)

  pub inputs_miss : (f : ℕ → ℤ) (u j : ℕ) → g.count u ≤ j → of_inputs g f u j ≡ pos 0
  unfolding of_inputs
  inputs_miss f u j l = simp (le-ltb j (g.count u) l)

  -- two functions that say the same of a row's inputs
  pub inputs_alike : (f k : ℕ → ℤ) (u : ℕ) → ((j : ℕ) → j < g.count u → f (g.input u j) ≡ k (g.input u j)) → (j : ℕ) → of_inputs g f u j ≡ of_inputs g k u j
  inputs_alike f k u r j = go (dec_lt j (g.count u))
    where
      go : Dec (j < g.count u) → of_inputs g f u j ≡ of_inputs g k u j
      go (yes l) = inputs_hit f u j l ∙ r j l ∙ sym (inputs_hit k u j l)
      go (no l) = inputs_miss f u j (omega arith) ∙ sym (inputs_miss k u j (omega arith))

-- ---- at one tick

-- a hold does not look at its input now
hold_only : (o s : ℕ) (channels : List ℤ) (x : ℤ) (f k : ℕ → ℤ) → o ≡ hold → result_of o s channels x f ≡ result_of o s channels x k
unfolding result_of
hold_only o s channels x f k e = rw e

module _ (g : Graph) (channels : List ℤ) (held : ℕ → ℤ) where
  -- the operation's result on what a function says of the row's inputs
  abbrev result_at : (ℕ → ℤ) → ℕ → ℤ
  result_at f u = result_of (operation_of (g.label u)) (setting_of (g.label u)) channels (held u) (of_inputs g f u)

  pub tick_next : (d u : ℕ) → tick_value g channels held (suc d) u ≡ result_at (tick_value g channels held d) u
  unfolding tick_value
  tick_next d u = refl

  -- only inputs of a row that is no hold matter
  pub result_alike : (f k : ℕ → ℤ) (u : ℕ) → ((Hold g u → ⊥) → (j : ℕ) → j < g.count u → f (g.input u j) ≡ k (g.input u j)) → result_at f u ≡ result_at k u
  result_alike f k u r = go (ℕ_discrete (operation_of (g.label u)) hold)
    where
      go : Dec (operation_of (g.label u) ≡ hold) → result_at f u ≡ result_at k u
      go (yes z) = hold_only (operation_of (g.label u)) (setting_of (g.label u)) channels (held u) (of_inputs g f u) (of_inputs g k u) z
      go (no z) =
          let x : of_inputs g f u ≡ of_inputs g k u = λ i j. inputs_alike g f k u (r (λ h. z h.is)) j i in
          ap (result_of (operation_of (g.label u)) (setting_of (g.label u)) channels (held u)) x

  -- depths that the steps from a row do not reach are all the same
  pub deep_enough : (d e u : ℕ) → (Runs g d u → ⊥) → d ≤ e → tick_value g channels held d u ≡ tick_value g channels held e u
  deep_enough zero e u s l = absurd (s (runs_none g u))
  deep_enough (suc d) zero u s l = absurd (omega arith)
  deep_enough (suc d) (suc e) u s l =
      tick_next d u
      ∙ result_alike (tick_value g channels held d) (tick_value g channels held e) u
      (λ plain j h. deep_enough d e (g.input u j) (λ r. s (runs_on g d u (record { plain = plain; input = j; of_row = h; goes = r }))) (omega arith))
      ∙ sym (tick_next e u)

-- ---- rows from which fewer than 1,024 steps go on

pub record Settles (g : Graph) (u : ℕ) : Type 0 where
  pub stops : Runs g most_deep u → ⊥

pub settles_fewer : (g : Graph) (n u : ℕ) → n ≤ most_deep → (Runs g n u → ⊥) → Settles g u
settles_fewer g n u l s =
    record { stops = λ r. let e : most_deep ≡ (most_deep - n) + n = omega arith in s (runs_fewer g (most_deep - n) n u (rw e at r)) }

-- a row from which no loop without a hold is reached
pub unlooped_settles : {g : Graph} {n u : ℕ} → Closed g n → n ≤ most_deep → u < n → (Unheld g u → ⊥) → Settles g u
unlooped_settles {g} {n} {u} c few l no_loop = settles_fewer g n u few (λ r. no_loop (runs_loop g c l r))

-- a row that stands in an order
module _ {g : Graph} {rows : List ℕ} {filled : ℕ} (o : Ordered g rows filled) where
  ordered_stops : (n k : ℕ) → k < filled → filled ≤ k + n → Runs g n (get_or rows k 0) → ⊥
  ordered_stops zero k l m r = omega arith
  ordered_stops (suc n) k l m r =
      let w = runs_first g n (get_or rows k 0) r in
      let s = o.behind k w.input l w.plain w.of_row in
      ordered_stops n s.place s.high (omega (arith, s.low)) (rw (sym s.is) at w.goes)

  pub ordered_settles : filled ≤ most_deep → (k : ℕ) → k < filled → Settles g (get_or rows k 0)
  ordered_settles few k l = settles_fewer g filled (get_or rows k 0) few (ordered_stops filled k l (omega arith))

  pub standing_settles : filled ≤ most_deep → {u : ℕ} → StandsIn rows 0 filled u → Settles g u
  standing_settles few {u} s = let e = s.is in rw (← e) (ordered_settles few s.place s.high)

module _ {g : Graph} {u : ℕ} (s : Settles g u) where
  -- the depth is not felt
  pub tick_step : (channels : List ℤ) (held : ℕ → ℤ)
      → tick_value g channels held most_deep u
      ≡ result_of (operation_of (g.label u)) (setting_of (g.label u)) channels (held u) (of_inputs g (tick_value g channels held most_deep) u)
  tick_step channels held =
      tick_next g channels held 1023 u
      ∙ result_alike g channels held (tick_value g channels held 1023) (tick_value g channels held 1024) u
      (λ plain j h.
      deep_enough g channels held 1023 1024 (g.input u j) (λ r. s.stops (runs_on g 1023 u (record { plain = plain; input = j; of_row = h; goes = r })))
      (omega arith))

-- ---- at every tick

-- a row's value is its operation's result on its inputs' values at the same tick
pub value_step : {g : Graph} {u : ℕ} → Settles g u → (tr : ℕ → List ℤ) (t : ℕ)
    → value g tr t u ≡ result_of (operation_of (g.label u)) (setting_of (g.label u)) (tr t) (held_at g tr t u) (of_inputs g (value g tr t) u)
value_step {g} {u} s tr t =
    value_tick g tr t u ∙ tick_step s (tr t) (held_at g tr t)
    ∙ sym (result_alike g (tr t) (held_at g tr t) (value g tr t) (tick_value g (tr t) (held_at g tr t) most_deep) u (λ plain j h. value_tick g tr t (g.input u j)))
