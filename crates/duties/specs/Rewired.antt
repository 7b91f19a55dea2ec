-- A sheet without wires, and the same sheet with wires put between its boxes.
use Rattle.std.specs.Prelude.{ℕ, ◌+◌, ◌≤◌, ◌<◌, ◌≡◌, List}
use Rattle.trees.specs.Agreement.{Alike}
use Rattle.sheet.specs.Format.{row_count_of}
use Rattle.wires.specs.Wires.{Wire, through}
use Rattle.store.specs.Layout.{in_use}
use Rattle.fronting.specs.Together.{as_drawn}

-- beside store w: each box keeps its place, its label and its input count, each of its inputs leads through wires to what it led to, and all rows
-- behind the boxes are wires
pub record Rewired (w b d : List ℕ) : Type 0 where
  pub plain : (i : ℕ) → i < row_count_of b → Wire (as_drawn w b) (in_use w + i) → ⊥
  pub more : row_count_of b ≤ row_count_of d
  pub boxes : (i : ℕ) → i < row_count_of b → Alike (as_drawn w b) (in_use w + i) (as_drawn w d) (in_use w + i)
  pub leads : (i j : ℕ) → i < row_count_of b → j < (as_drawn w b).count (in_use w + i) → through (as_drawn w d) ((as_drawn w d).input (in_use w + i) j) ≡ (as_drawn w b).input (in_use w + i) j
  pub wires : (i : ℕ) → row_count_of b ≤ i → i < row_count_of d → Wire (as_drawn w d) (in_use w + i)
