-- What running the rows of a queue leaves, and whether its channels are there.
use Rattle.std.specs.Prelude.{ℕ, ◌≤◌, ◌<◌, ◌≡◌, List, length, get_or, ℤ, pos}
use Rattle.trees.specs.Graph.{Graph}
use Rattle.loops.specs.Operations.{operation_of, setting_of, channel}
use Rattle.running.specs.Values.{value}
use Rattle.running.specs.Run.{trace, ticks}

-- one output a tick, and entries past the ticks stand
pub record Outputs (g : Graph) (row channels : ℕ) (values output output' : List ℤ) : Type 0 where
  pub long : length output' ≡ length output
  pub each : (t : ℕ) → t < ticks values channels → get_or output' t (pos 0) ≡ value g (trace values channels) t row
  pub past : (t : ℕ) → ticks values channels ≤ t → get_or output' t (pos 0) ≡ get_or output t (pos 0)

-- row u is a channel whose setting is not below the channel count
pub record Astray (g : Graph) (channels u : ℕ) : Type 0 where
  pub reads : operation_of (g.label u) ≡ channel
  pub astray : channels ≤ setting_of (g.label u)

-- so is the row at one of the first places of the queue
pub record SomeAstray (g : Graph) (queue : List ℕ) (filled channels : ℕ) : Type 0 where
  pub place : ℕ
  pub within : place < filled
  pub row_astray : Astray g channels (get_or queue place 0)
