-- Rows taken away one after another: a hold, or a row all of whose inputs are gone. Those that are left have each an input that is left.
use Prim.Native.Nat.{ℕ, zero, suc, ◌<◌}
use Rattle.trees.specs.Graph.{Graph, Closed}
use Rattle.loops.specs.Loops.{Hold, Onward, Loop, Unheld}
use Rattle.loops.proofs.Running.{Runs, runs_none, runs_on, runs_first, runs_less, onward_map, loop_runs, runs_loop}

-- from none of the rows that are gone can so many steps be taken
pub record Stopped (g : Graph) (Gone : ℕ → Type 0) (depth : ℕ) : Type 0 where
  pub stops : (u : ℕ) → Gone u → Runs g depth u → ⊥

module _ (g : Graph) where
  pub stopped_more : {Gone : ℕ → Type 0} {depth : ℕ} → Stopped g Gone depth → Stopped g Gone (suc depth)
  stopped_more {depth = k} s = record { stops = λ u x r. s.stops u x (runs_less g k u r) }

  pub stopped_hold : (k u : ℕ) → Hold g u → Runs g (suc k) u → ⊥
  stopped_hold k u h r = (runs_first g k u r).plain h

  pub stopped_inputs : {Gone : ℕ → Type 0} {depth : ℕ} → Stopped g Gone depth → (u : ℕ) → ((j : ℕ) → j < g.count u → Gone (g.input u j)) → Runs g (suc depth) u → ⊥
  stopped_inputs {depth = k} s u all r =
      let o = runs_first g k u r in
      s.stops (g.input u o.input) (all o.input o.of_row) o.goes

  -- where nothing more can be taken away, the rest goes on for ever
  pub left_runs : (Left : ℕ → Type 0) → ((u : ℕ) → Left u → Onward g u Left) → (k u : ℕ) → Left u → Runs g k u
  left_runs Left on zero u l = runs_none g u
  left_runs Left on (suc k) u l = runs_on g k u (onward_map g (λ x. left_runs Left on k x) (on u l))

  -- the verdict: a row that is left leads to a loop without a hold, and a row that is gone is on none
  pub left_loop : {n : ℕ} → Closed g n → (Left : ℕ → Type 0) → ((u : ℕ) → Left u → Onward g u Left) → (u : ℕ) → u < n → Left u → Unheld g u
  left_loop {n} c Left on u h l = runs_loop g c h (left_runs Left on n u l)

  pub gone_no_loop : {Gone : ℕ → Type 0} {depth : ℕ} → Stopped g Gone depth → {u : ℕ} → Gone u → Loop g u → ⊥
  gone_no_loop {depth = k} s {u} x l = s.stops u x (loop_runs g l k)
