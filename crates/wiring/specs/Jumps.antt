-- Inner: jumps in memory: for each row of a sheet the number of a row that wires lead to, as the sheet names it.
use Rattle.std.specs.Prelude.{ℕ, ◌+◌, ◌≤◌, ◌<◌, List, length, get_or, ltb}
use Rattle.rules.specs.Pick.{pick}
use Rattle.trees.specs.Graph.{Graph}
use Rattle.sheet.specs.Format.{store_numbers}
use Rattle.wires.specs.Wires.{Wire, most_wires}
use Rattle.wires.specs.Jumps.{Jump}

-- an entry for each row, and each below 32,768 is a row of the sheet
pub record JumpsThere (rows : ℕ) (jumps : List ℕ) : Type 0 where
  pub few : rows ≤ store_numbers
  pub long : rows ≤ length jumps
  pub row : (i : ℕ) → i < rows → get_or jumps i 0 < store_numbers → get_or jumps i 0 < rows

-- each entry is where at least so many wires lead from its row
pub record Leaps (g : Graph) (rows least : ℕ) (jumps : List ℕ) : Type 0 where
  pub jump : (i : ℕ) → i < rows → Jump g least i (get_or jumps i 0)

-- no number of the store is a wire
pub record StorePlain (g : Graph) : Type 0 where
  pub plain : (x : ℕ) → store_numbers ≤ x → Wire g x → ⊥

-- where a number leads on
abbrev pub onward_of : List ℕ → ℕ → ℕ
onward_of jumps x = pick (ltb x store_numbers) (get_or jumps x 0) x

-- a pass makes jumps of so many wires jumps of twice as many, whatever the sheet
pub record Doubled (rows : ℕ) (old new : List ℕ) : Type 0 where
  pub of : (g : Graph) (least : ℕ) → StorePlain g → Leaps g rows least old → Leaps g rows (least + least) new

-- all passes make jumps of one wire jumps of as many as can follow one another
pub record AllDoubled (rows : ℕ) (old new : List ℕ) : Type 0 where
  pub of : (g : Graph) → StorePlain g → Leaps g rows 1 old → Leaps g rows most_wires new
