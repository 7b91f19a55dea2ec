-- Inner: the walk from row 0 over rows that stand in its order: after each step the rows met are the first ones, and how many they are says it all.
use Rattle.std.specs.Prelude.{ℕ, ◌+◌, ◌<◌, ◌≡◌, Option, Some, None}
use Rattle.rules.specs.Lists.{firsts}
use Rattle.trees.specs.Graph.{Graph}
use Rattle.walks.specs.Walk.{meet_inputs}
use Rattle.walks.specs.Key.{walk_all}
use Rattle.keys.specs.Sheets.{itself}

-- a row met when the first `met` rows have been: one of them, the next one, or a later one
pub data Sight (met x : ℕ) : Option ℕ → Type 0 where
  sight_known : x < met → Sight met x (Some met)
  sight_next : x ≡ met → Sight met x (Some (met + 1))
  sight_later : met < x → Sight met x None

-- the inputs of row k met when the first `seen` rows have been: the first rows again; or some input is a row later than the next one
pub data RowSays (g : Graph) (k seen : ℕ) : Option ℕ → Type 0 where
  row_rows : {met : ℕ} → meet_inputs g k (firsts itself seen) (g.count k) ≡ firsts itself met → RowSays g k seen (Some met)
  row_broken : {j met : ℕ} → j < g.count k → meet_inputs g k (firsts itself seen) j ≡ firsts itself met → met < g.input k j → RowSays g k seen None

-- the walk over n rows meets row k at place k
pub record InOrder (g : Graph) (n : ℕ) : Type 0 where
  pub ordered : walk_all g n 0 ≡ firsts itself n
