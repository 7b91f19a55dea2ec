-- Inner: the place of a row of the store and the sheet joined, from the places noted of the store's rows; and of a row's inputs.
use Rattle.std.specs.Prelude.{ℕ, ◌-◌, ◌≤◌, ◌<◌, List, length, get_or, ltb}
use Rattle.rules.specs.Pick.{pick}
use Rattle.rules.specs.Lists.{widest}
use Rattle.trees.specs.Graph.{Graph}

unfoldable pub place_put : (stored : ℕ) → List ℕ → ℕ → ℕ
place_put stored places x = pick (ltb x stored) (get_or places x 0) (x - stored)

-- the inputs of a row by value, as places: of this graph only inputs are looked at
unfoldable pub placed_inputs : (stored : ℕ) → (places inputs : List ℕ) → Graph
placed_inputs stored places inputs =
    record {
      label = λ k. 0;
      count = λ k. 0;
      input = λ k j. place_put stored places (get_or inputs j 0);
    }

-- each of the first inputs has a place of 16 bits
pub record InputsPlaced (stored : ℕ) (places inputs : List ℕ) (count : ℕ) : Type 0 where
  pub entries : stored ≤ length places
  pub few : count ≤ widest
  pub small : (j : ℕ) → j < count → place_put stored places (get_or inputs j 0) < 65536
