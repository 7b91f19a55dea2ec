-- The verdict on all rows that the starts lead to. Each row has a state in memory, and 1 marks a start.
use Rattle.std.specs.Prelude.{ℕ, ◌≤◌, ◌<◌, ◌≡◌, List, [], ◌∷◌, length, get_or, ltb, Result, Ok, Err}
use Rattle.rules.specs.Pick.{pick}
use Rattle.rules.specs.Refusals.{Refusal, ◌when◌}
use Rattle.trees.specs.Graph.{Graph}
use Rattle.trees.specs.Paths.{Leads}
use Rattle.trees.specs.Agreement.{SameTree}
use Rattle.loops.specs.Catalogue.{Unlisted}
use Rattle.loops.specs.Loops.{Unheld}
use Rattle.judging.specs.declared.misfit.Misfit.{Misfit}
use Rattle.judging.specs.declared.misfit.Misfit.TheVariants.{NotListed, NotHeld}

-- the state of row u: 0 not met, 1 met, 2 met and gone
abbrev pub state_of : List ℕ → ℕ → ℕ
state_of state u = get_or state u 0

-- row u is marked, and P holds of it
pub record Marked (state : List ℕ) (P : ℕ → Type 0) (u : ℕ) : Type 0 where
  pub marked : state_of state u ≡ 1
  pub holds : P u

-- one of the first n rows is so
pub record SomeMarked (n : ℕ) (state : List ℕ) (P : ℕ → Type 0) : Type 0 where
  pub row : ℕ
  pub within : row < n
  pub is : Marked state P row

-- a start leads to a row of a free operation or with a wrong input count
abbrev pub SomeUnlisted : Graph → ℕ → List ℕ → Type 0
SomeUnlisted g n starts = SomeMarked n starts (Unlisted g)

-- a start leads to a loop without a hold
abbrev pub SomeUnheld : Graph → ℕ → List ℕ → Type 0
SomeUnheld g n starts = SomeMarked n starts (Unheld g)

-- the verdict's refusals, in their order
abbrev pub verdict_refusals : Graph → ℕ → List ℕ → List Refusal
verdict_refusals g n starts = (12 when SomeUnlisted g n starts) ∷ (13 when SomeUnheld g n starts) ∷ []

-- the number of the table that each verdict has
abbrev pub verdict_number : Result ℕ Misfit → ℕ
verdict_number (Ok rows) = 0
verdict_number (Err NotListed) = 12
verdict_number (Err NotHeld) = 13

-- not listed exactly if a start is so; else not held exactly if a start is so
pub data VerdictSays (g : Graph) (n : ℕ) (starts : List ℕ) : Result ℕ Misfit → Type 0 where
  says_unlisted : SomeUnlisted g n starts → VerdictSays g n starts (Err NotListed)
  says_unheld : (SomeUnlisted g n starts → ⊥) → SomeUnheld g n starts → VerdictSays g n starts (Err NotHeld)
  says_fine : {rows : ℕ} → (SomeUnlisted g n starts → ⊥) → (SomeUnheld g n starts → ⊥) → VerdictSays g n starts (Ok rows)

-- a start leads to row x
pub record Led (g : Graph) (n : ℕ) (starts : List ℕ) (x : ℕ) : Type 0 where
  pub start : ℕ
  pub within : start < n
  pub marked : state_of starts start ≡ 1
  pub leads : Leads g start x

-- a state for each of n rows: a start, or not met yet
pub record Begun (n : ℕ) (state : List ℕ) : Type 0 where
  pub long : n ≤ length state
  pub each : (u : ℕ) → u < n → state_of state u ≤ 1

-- the state that row u begins with where the starts are the rows from one up to another
unfoldable pub start_state : (from to u : ℕ) → ℕ
start_state from to u = pick (ltb u from) 0 (pick (ltb u to) 1 0)

-- each of n rows has the state that it begins with
pub record Starts (n from to : ℕ) (state : List ℕ) : Type 0 where
  pub long : n ≤ length state
  pub each : (u : ℕ) → u < n → state_of state u ≡ start_state from to u

-- P holds of a row from one up to another
pub record SomeBetween (from to : ℕ) (P : ℕ → Type 0) : Type 0 where
  pub row : ℕ
  pub low : from ≤ row
  pub high : row < to
  pub holds : P row

-- each start of the first graph has its tree among the starts of the second
pub record StartsAmong (g : Graph) (n : ℕ) (starts : List ℕ) (h : Graph) (m : ℕ) (others : List ℕ) : Type 0 where
  pub each : (u : ℕ) → u < n → state_of starts u ≡ 1 → SomeMarked m others (SameTree g u h)
