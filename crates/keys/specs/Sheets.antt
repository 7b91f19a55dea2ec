-- A sheet without store numbers as a graph of its own, and what bytes are a key.
use Rattle.std.specs.Prelude.{ℕ, ◌<◌, ◌≡◌, List, Bool}
use Rattle.rules.specs.Lists.{firsts}
use Rattle.rules.specs.Answers.{Says}
use Rattle.trees.specs.Graph.{Graph}
use Rattle.trees.specs.Agreement.{Minimal}
use Rattle.sheet.specs.Format.{row_count_of, label_at, count_at, input_at, start}
use Rattle.sheet.specs.Points.{PointsNowhere}
use Rattle.sheet.specs.Refusals.{Readable}
use Rattle.walks.specs.Key.{walk_all}
use Rattle.wires.specs.Wires.{Plain}
use Rattle.keys.specs.Bytes.{EachByte}

unfoldable pub sheet_graph : List ℕ → Graph
sheet_graph b =
    record {
      label = λ k. label_at b (start b k);
      count = λ k. count_at b (start b k);
      input = λ k j. input_at b (start b k) j;
    }

-- a row's own number
abbrev pub itself : ℕ → ℕ
itself k = k

-- a readable sheet of at least one row, without store numbers and with no input that points nowhere (an input of 32,768 or more points to no
-- row where there is no store), without wires, no two rows of the same tree, and rows in the walk's order from row 0
pub record IsKey (b : List ℕ) : Type 0 where
  pub readable : Readable b
  pub some : 0 < row_count_of b
  pub leads : PointsNowhere b 0 → ⊥
  pub plain : Plain (sheet_graph b) (row_count_of b)
  pub distinct : Minimal (sheet_graph b) (row_count_of b)
  pub ordered : walk_all (sheet_graph b) (row_count_of b) 0 ≡ firsts itself (row_count_of b)

-- the answer of the key test: yes exactly where the bytes are a key. Lent bytes are bytes, and so no theorem on keys asks more of them
pub record KeySays (b : List ℕ) (yes : Bool) : Type 0 where
  pub says : Says (IsKey b) yes
  pub each : EachByte b
