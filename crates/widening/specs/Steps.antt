-- Inner: what looking at an old store tells, and what the steps that write ask.
use Rattle.std.specs.Prelude.{ℕ, ◌≤◌, ◌<◌, ◌≡◌, List, [], ◌∷◌, length, Result, Ok, Err}
use Rattle.rules.specs.Lists.{widest}
use Rattle.rules.specs.Refusals.{Refusal, ◌when◌, First}
use Rattle.store.specs.Layout.{in_use, capacity_of}
use Rattle.store.specs.Rows.{RowThere}
use Rattle.store.specs.Sound.{Shaped, Sound, flaw_number}
use Rattle.store.specs.declared.shape.Flaw.{Flaw}

-- an old store with words, in shape, with so many rows in use
pub record OldShaped (from : ℕ) (w : List ℕ) (rows : ℕ) : Type 0 where
  pub limit : from ≤ widest
  pub words : 0 < length w
  pub shaped : Shaped from w
  pub counted : rows ≡ in_use w

-- a sound one
pub record OldSound (from : ℕ) (w : List ℕ) (rows : ℕ) : Type 0 where
  pub words : 0 < length w
  pub sound : Sound from w
  pub counted : rows ≡ in_use w

-- 1 with no words, 2 when it is not sound in its layout
abbrev pub old_refusals : (from : ℕ) → List ℕ → List Refusal
old_refusals from w = (1 when (length w ≡ 0)) ∷ (2 when (Sound from w → ⊥)) ∷ []

pub data LookedSays (from : ℕ) (w : List ℕ) : Result ℕ Flaw → Type 0 where
  looked_refused : {flaw : Flaw} → First (old_refusals from w) (flaw_number flaw) → (flaw_number flaw ≡ 0 → ⊥) → LookedSays from w (Err flaw)
  looked_rows : {rows : ℕ} → OldSound from w rows → LookedSays from w (Ok rows)

-- the words of the first rows are there, in both runs
pub record BothThere (from to : ℕ) (old target : List ℕ) (rows : ℕ) : Type 0 where
  pub here : (n : ℕ) → n < rows → RowThere from old n
  pub there : (n : ℕ) → n < rows → RowThere to target n

-- the rows of a sound old store have room in the target
pub record Fitting (from to : ℕ) (old target : List ℕ) (rows : ℕ) : Type 0 where
  pub grows : from ≤ to
  pub limit : to ≤ widest
  pub sound : OldSound from old rows
  pub words : 0 < length target
  pub room : rows ≤ capacity_of to (length target)
