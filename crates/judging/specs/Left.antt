-- What is left when no more row can go, and the order in which the rows gone stand.
use Rattle.std.specs.Prelude.{ℕ, ◌≤◌, ◌<◌, ◌≡◌, Bool, List, get_or, Result, Ok, Err}
use Rattle.rules.specs.Answers.{Says}
use Rattle.trees.specs.Graph.{Graph}
use Rattle.loops.specs.Loops.{Loop, Unheld}
use Rattle.loops.specs.Orders.{StandsIn, Ordered}
use Rattle.rows.specs.Joined.{Source, drawn}
use Rattle.rows.specs.View.{view_rows}
use Rattle.judging.specs.declared.misfit.Misfit.{Misfit}
use Rattle.judging.specs.declared.misfit.Misfit.TheVariants.{NotListed, NotHeld}
use Rattle.judging.specs.Verdicts.{state_of, Led, SomeMarked, VerdictSays}
use Rattle.judging.specs.Moves.{SettledFrom}
use Rattle.judging.specs.Rules.{peeling}

-- ---- the sheet's rows

-- a row from one up to another is met and not gone
pub record LeftBetween (from to : ℕ) (state : List ℕ) : Type 0 where
  pub row : ℕ
  pub low : from ≤ row
  pub high : row < to
  pub left : state_of state row ≡ 1

-- rows went until none from one up to another could
abbrev pub SheetPeeled : Graph → (from to : ℕ) → (old new : List ℕ) → Type 0
SheetPeeled g = SettledFrom (peeling g)

-- whether one of them is left then
pub record SheetLeft (g : Graph) (from to : ℕ) (state : List ℕ) (r : Bool) : Type 0 where
  pub left : List ℕ
  pub peeled : SheetPeeled g from to state left
  pub says : Says (LeftBetween from to left) r

-- ---- all rows met

-- the queue has the store's rows met, in order
pub record MetInOrder (g : Graph) (stored : ℕ) (met queue : List ℕ) (filled : ℕ) : Type 0 where
  pub ordered : Ordered g queue filled
  pub few : filled ≤ stored
  pub each : (k : ℕ) → k < filled → (get_or queue k 0 < stored) × (state_of met (get_or queue k 0) ≡ 1)
  pub all : (u : ℕ) → u < stored → state_of met u ≡ 1 → StandsIn queue 0 filled u

-- a row met leads to a loop without a hold; or none is on one, and the queue is in order
pub data HeldSays (s : Source) (table met queue : List ℕ) : Result ℕ Misfit → Type 0 where
  held_not : SomeMarked (view_rows s table) met (Unheld (drawn s)) → HeldSays s table met queue (Err NotHeld)
  held_fine : {filled : ℕ} → (SomeMarked (view_rows s table) met (Loop (drawn s)) → ⊥) → MetInOrder (drawn s) s.stored met queue filled
      → HeldSays s table met queue (Ok filled)

-- ---- from the starts on

-- the queue has the store's rows to which a start leads, in an order in which each that is no hold stands before its inputs
pub record InOrder (s : Source) (table starts queue : List ℕ) (filled : ℕ) : Type 0 where
  pub ordered : Ordered (drawn s) queue filled
  pub few : filled ≤ s.stored
  pub within : (k : ℕ) → k < filled → get_or queue k 0 < s.stored
  pub led : (k : ℕ) → k < filled → Led (drawn s) (view_rows s table) starts (get_or queue k 0)
  pub all : (u : ℕ) → u < s.stored → Led (drawn s) (view_rows s table) starts u → StandsIn queue 0 filled u

-- where all is fine they are left so
pub data OrderLeft (s : Source) (table starts queue : List ℕ) : Result ℕ Misfit → Type 0 where
  left_order : {filled : ℕ} → InOrder s table starts queue filled → OrderLeft s table starts queue (Ok filled)
  left_unlisted : OrderLeft s table starts queue (Err NotListed)
  left_unheld : OrderLeft s table starts queue (Err NotHeld)

-- the verdict, and what it leaves
pub record Judges (s : Source) (table starts queue : List ℕ) (r : Result ℕ Misfit) : Type 0 where
  pub says : VerdictSays (drawn s) (view_rows s table) starts r
  pub order : OrderLeft s table starts queue r
