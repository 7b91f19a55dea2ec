-- Inner: the queue of the store rows met, and how rows are met. The sheet's rows are all starts and need no place in it.
use Rattle.std.specs.Prelude.{ℕ, ◌≤◌, ◌<◌, ◌≡◌, List, length, get_or, set, Result, Ok, Err}
use Rattle.rules.specs.Lists.{widest}
use Rattle.trees.specs.Graph.{Graph}
use Rattle.loops.specs.Catalogue.{Listed}
use Rattle.loops.specs.Orders.{StandsIn}
use Rattle.rows.specs.Joined.{Source, drawn}
use Rattle.rows.specs.View.{Drawn, view_rows, Entries}
use Rattle.judging.specs.declared.misfit.Misfit.{Misfit}
use Rattle.judging.specs.declared.misfit.Misfit.TheVariants.{NotListed}
use Rattle.judging.specs.Verdicts.{state_of}
use Rattle.judging.specs.Moves.{Moved}
use Rattle.judging.specs.Rules.{meeting_these, meeting}

-- ---- the queue

-- so many first entries are rows below stored, each once
pub record EachOnce (stored : ℕ) (queue : List ℕ) (filled : ℕ) : Type 0 where
  pub space : stored ≤ length queue
  pub few : stored ≤ 1024
  pub least : filled ≤ stored
  pub within : (i : ℕ) → i < filled → get_or queue i 0 < stored
  pub apart : (i k : ℕ) → i < filled → k < filled → get_or queue i 0 ≡ get_or queue k 0 → i ≡ k

-- they are the store rows met
pub record Queueing (stored : ℕ) (state queue : List ℕ) (filled : ℕ) : Type 0 where
  pub once : EachOnce stored queue filled
  pub long : stored ≤ length state
  pub met : (i : ℕ) → i < filled → state_of state (get_or queue i 0) ≡ 1
  pub all : (u : ℕ) → u < stored → (state_of state u ≡ 0 → ⊥) → StandsIn queue 0 filled u

-- the entries filled before stand as they were, and there may be more
pub record Longer (old : List ℕ) (filled : ℕ) (queue : List ℕ) (now : ℕ) : Type 0 where
  pub more : filled ≤ now
  pub kept : (i : ℕ) → i < filled → get_or queue i 0 ≡ get_or old i 0

-- ---- a row by value

-- row x has a state, and is one of the store's if it is not met
pub record Askable (stored : ℕ) (state : List ℕ) (x : ℕ) : Type 0 where
  pub there : x < length state
  pub low : state_of state x ≡ 0 → x < stored

-- so have the first inputs of a row by value
pub record AllAskable (stored : ℕ) (state inputs : List ℕ) (count : ℕ) : Type 0 where
  pub few : count ≤ widest
  pub each : (j : ℕ) → j < count → Askable stored state (get_or inputs j 0)

-- row x was met; or it is met now and stands in the queue
pub data Meets (stored : ℕ) (old oldq : List ℕ) (filled x : ℕ) : (state queue : List ℕ) → ℕ → Type 0 where
  met_before : (state_of old x ≡ 0 → ⊥) → Meets stored old oldq filled x old oldq filled
  meets_now : {queue : List ℕ} {now : ℕ} → state_of old x ≡ 0 → x < length old → Queueing stored (set old x 1) queue now → Longer oldq filled queue now
      → Meets stored old oldq filled x (set old x 1) queue now

-- of the first inputs of a row by value so many are met
pub record TheseMet (stored : ℕ) (inputs : List ℕ) (count : ℕ) (old oldq : List ℕ) (filled j : ℕ) (state queue : List ℕ) (now : ℕ) : Type 0 where
  pub moved : Moved (meeting_these inputs count) old state
  pub same : length state ≡ length old
  pub each : (i : ℕ) → i < j → state_of state (get_or inputs i 0) ≡ 0 → ⊥
  pub queued : Queueing stored state queue now
  pub longer : Longer oldq filled queue now

-- ---- the rows of a view

-- rows as they are drawn, with a state for each: the sheet's rows are met, and the store rows met stand in the queue
pub record Starting (s : Source) (table state queue : List ℕ) (filled : ℕ) : Type 0 where
  pub view : Drawn s table
  pub long : Entries s table state
  pub sheet : (u : ℕ) → s.stored ≤ u → u < view_rows s table → state_of state u ≡ 1
  pub queued : Queueing s.stored state queue filled

-- row u is listed, and its inputs are met
pub record Visited (g : Graph) (state : List ℕ) (u : ℕ) : Type 0 where
  pub listed : Listed g u
  pub inputs : (j : ℕ) → j < g.count u → state_of state (g.input u j) ≡ 0 → ⊥

-- rows are met on from a state, and stand in the queue
pub record MetOn (s : Source) (table old : List ℕ) (state queue : List ℕ) (filled : ℕ) : Type 0 where
  pub moved : Moved (meeting (drawn s) (view_rows s table)) old state
  pub same : length state ≡ length old
  pub queued : Queueing s.stored state queue filled

-- what looking at row u says
pub data RowSays (s : Source) (table old oldq : List ℕ) (filled u : ℕ) (state queue : List ℕ) : Result ℕ Misfit → Type 0 where
  row_wrong : (Listed (drawn s) u → ⊥) → RowSays s table old oldq filled u state queue (Err NotListed)
  row_met : {now : ℕ} → MetOn s table old state queue now → Longer oldq filled queue now → Visited (drawn s) state u
      → RowSays s table old oldq filled u state queue (Ok now)

-- from a state on a row was met that is not listed
pub record WrongMet (s : Source) (table old : List ℕ) : Type 0 where
  pub mid : List ℕ
  pub moved : Moved (meeting (drawn s) (view_rows s table)) old mid
  pub row : ℕ
  pub within : row < view_rows s table
  pub met : state_of mid row ≡ 1
  pub unfit : Listed (drawn s) row → ⊥

-- the sheet's rows have been looked at
pub record SheetVisited (s : Source) (table state queue : List ℕ) (filled : ℕ) : Type 0 where
  pub starting : Starting s table state queue filled
  pub sheet : (u : ℕ) → s.stored ≤ u → u < view_rows s table → Visited (drawn s) state u

pub data SheetSays (s : Source) (table old state queue : List ℕ) : Result ℕ Misfit → Type 0 where
  sheet_wrong : WrongMet s table old → SheetSays s table old state queue (Err NotListed)
  sheet_met : {now : ℕ} → MetOn s table old state queue now → SheetVisited s table state queue now → SheetSays s table old state queue (Ok now)

-- all rows met have been looked at
pub record AllVisited (s : Source) (table state queue : List ℕ) (filled : ℕ) : Type 0 where
  pub view : Drawn s table
  pub long : Entries s table state
  pub queued : Queueing s.stored state queue filled
  pub low : (u : ℕ) → u < view_rows s table → state_of state u ≤ 1
  pub each : (u : ℕ) → u < view_rows s table → state_of state u ≡ 1 → Visited (drawn s) state u

pub data MeetSays (s : Source) (table old state queue : List ℕ) : Result ℕ Misfit → Type 0 where
  meet_wrong : WrongMet s table old → MeetSays s table old state queue (Err NotListed)
  meet_done : {now : ℕ} → MetOn s table old state queue now → AllVisited s table state queue now → MeetSays s table old state queue (Ok now)
