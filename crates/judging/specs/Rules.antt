-- Inner: the two rules. Inputs of met rows are met; a met row goes if it is a hold or all its inputs are gone.
use Rattle.std.specs.Prelude.{ℕ, ◌≤◌, ◌<◌, ◌≡◌, List, length, get_or}
use Rattle.std.proofs.Common.{arith}
use Rattle.rules.specs.Lists.{widest}
use Rattle.trees.specs.Graph.{Graph}
use Rattle.loops.specs.Operations.{operation_of}
use Rattle.loops.specs.Catalogue.{free, inputs_of}
use Rattle.loops.specs.Loops.{Hold}
use Rattle.judging.specs.Verdicts.{state_of}
use Rattle.judging.specs.Moves.{Rule, Settled}

-- ---- a row by value

-- the first inputs of a row by value have states
pub record AllThere (state inputs : List ℕ) (count : ℕ) : Type 0 where
  pub few : count ≤ widest
  pub each : (j : ℕ) → j < count → get_or inputs j 0 < length state

-- they are gone
pub record AllGone (state inputs : List ℕ) (count : ℕ) : Type 0 where
  pub each : (j : ℕ) → j < count → state_of state (get_or inputs j 0) ≡ 2

-- label and input count are of the catalogue
pub record ListedAs (label count : ℕ) : Type 0 where
  pub known : inputs_of (operation_of label) ≡ free → ⊥
  pub counts : count ≡ inputs_of (operation_of label)

-- ---- met

-- x is an input of a row by value
pub record InputIn (inputs : List ℕ) (count x : ℕ) : Type 0 where
  pub place : ℕ
  pub of_row : place < count
  pub is : get_or inputs place 0 ≡ x

-- the inputs of a row by value are met: the places looked at are the inputs
unfoldable pub meeting_these : (inputs : List ℕ) → (count : ℕ) → Rule
meeting_these inputs count =
    record {
      from = 0;
      low = omega arith;
      may = λ state x. InputIn inputs count x;
      quiet = λ state j. state_of state (get_or inputs j 0) ≡ 0 → ⊥;
    }

-- x is an input of a met row of the first n
pub record InputOfMet (g : Graph) (n : ℕ) (state : List ℕ) (x : ℕ) : Type 0 where
  pub row : ℕ
  pub within : row < n
  pub met : state_of state row ≡ 1
  pub input : ℕ
  pub of_row : input < g.count row
  pub is : g.input row input ≡ x

-- no input of row u is left to be met
pub record InputsMet (g : Graph) (state : List ℕ) (u : ℕ) : Type 0 where
  pub each : state_of state u ≡ 1 → (j : ℕ) → j < g.count u → state_of state (g.input u j) ≡ 0 → ⊥

unfoldable pub meeting : Graph → ℕ → Rule
meeting g n = record { from = 0; low = omega arith; may = InputOfMet g n; quiet = InputsMet g }

-- all rows met
abbrev pub Met : Graph → ℕ → (old new : List ℕ) → Type 0
Met g n = Settled (meeting g n) n

-- ---- gone

-- row u may go: it is a hold, or all its inputs are gone
pub data Peels (g : Graph) (state : List ℕ) (u : ℕ) : Type 0 where
  peels_hold : Hold g u → Peels g state u
  peels_gone : ((j : ℕ) → j < g.count u → state_of state (g.input u j) ≡ 2) → Peels g state u

-- row u is not met, is gone, or may not go
pub record Stays (g : Graph) (state : List ℕ) (u : ℕ) : Type 0 where
  pub stays : state_of state u ≡ 1 → Peels g state u → ⊥

unfoldable pub peeling : Graph → Rule
peeling g = record { from = 1; low = omega arith; may = Peels g; quiet = Stays g }

-- all rows gone that can go
abbrev pub Peeled : Graph → ℕ → (old new : List ℕ) → Type 0
Peeled g n = Settled (peeling g) n
