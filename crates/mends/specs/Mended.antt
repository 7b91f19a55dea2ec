-- Mending a store: what refuses it, and what is done. Every word of the store and of the list is said, and four counts.
use Rattle.std.specs.Prelude.{ℕ, ◌≤◌, ◌<◌, ◌≡◌, List, [], ◌∷◌, length}
use Rattle.rules.specs.Refusals.{Refusal, ◌when◌}
use Rattle.rules.specs.Lists.{firsts}
use Rattle.rules.specs.Writes.{over_front}
use Rattle.mends.specs.Dropped.{taken, Dropped, NoBox, left}
use Rattle.mends.specs.Lowest.{Lowest}
use Rattle.mends.specs.Counts.{tally, total, goes_at, wire_of, wire_at, merged_at, cleared_at}
use Rattle.mends.specs.Words.{MendedWords, listed}

-- 1 with no words, then 16 where the list is shorter than the count taken
abbrev pub mend_refusals : (most : ℕ) → (w list : List ℕ) → List Refusal
mend_refusals most w list = (1 when (length w ≡ 0)) ∷ (16 when (length list < taken most w)) ∷ []

-- w and list become w' and list': class gives each row that is not dropped the lowest of them with its tree, box the same among boxes
pub record MendDone (most : ℕ) (w list w' list' : List ℕ) (dropped wires merged cleared : ℕ) : Type 0 where
  pub words : 0 < length w
  pub long : taken most w ≤ length list
  pub class : ℕ → ℕ
  pub lowest : Lowest (left most w) (taken most w) (Dropped most w (taken most w)) class
  pub box : ℕ → ℕ
  pub boxes : Lowest (left most w) (taken most w) (NoBox most w (taken most w)) box
  pub stored : MendedWords most (left most w) class (taken most w) w w'
  pub listing : list' ≡ over_front (firsts (listed (taken most w) class) (taken most w)) list
  pub drops : dropped ≡ tally (goes_at (taken most w) class) (taken most w)
  pub wired : wires ≡ tally (wire_at (taken most w) class (wire_of most w)) (taken most w)
  pub merges : merged ≡ tally (merged_at box) (taken most w)
  pub clears : cleared ≡ total (cleared_at most w (taken most w) class) (taken most w)
