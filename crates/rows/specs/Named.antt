-- A sheet's rows by the numbers that its inputs use: below 32,768 a row of the sheet; from there on a row of the store, which is no wire.
use Rattle.std.specs.Prelude.{ℕ, ◌<◌, ◌≡◌, List, ltb}
use Rattle.rules.specs.Pick.{pick}
use Rattle.trees.specs.Graph.{Graph}
use Rattle.sheet.specs.Format.{label_at, count_at, input_at, start, row_count_of, store_numbers}
use Rattle.wires.specs.Wires.{Wire, WireLoop}

unfoldable pub named : List ℕ → Graph
named b =
    record {
      label = λ x. pick (ltb x store_numbers) (label_at b (start b x)) 0;
      count = λ x. count_at b (start b x);
      input = λ x j. input_at b (start b x) j;
    }

-- 14: a wire without exactly one input
pub record ShortWire (b : List ℕ) : Type 0 where
  pub row : ℕ
  pub of_sheet : row < row_count_of b
  pub wire : Wire (named b) row
  pub counts : count_at b (start b row) ≡ 1 → ⊥

-- 15: a loop of wires only
pub record SheetWireLoop (b : List ℕ) : Type 0 where
  pub row : ℕ
  pub of_sheet : row < row_count_of b
  pub loop : WireLoop (named b) row
