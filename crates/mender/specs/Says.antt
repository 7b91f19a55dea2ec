-- Mending a store: every outcome, for every input.
use Rattle.std.specs.Prelude.{ℕ, ◌≡◌, List}
use Rattle.rules.specs.Refusals.{First}
use Rattle.mends.specs.Mended.{mend_refusals, MendDone}
use Rattle.mender.specs.declared.mending.Mended.{Mended}

-- refused with the first number that applies, nothing counted and nothing changed; or done
pub data MendSays (most : ℕ) (w list : List ℕ) : Mended → (w' list' : List ℕ) → Type 0 where
  mend_refused : {r : ℕ} → First (mend_refusals most w list) r → (r ≡ 0 → ⊥) → MendSays most w list (record { number = r; dropped = 0; wires = 0; merged = 0; cleared = 0 }) w list
  mend_done : {w' list' : List ℕ} {dropped wires merged cleared : ℕ} → MendDone most w list w' list' dropped wires merged cleared → MendSays most w list (record { number = 0; dropped = dropped; wires = wires; merged = merged; cleared = cleared }) w' list'

-- two outcomes of mending are the same: what is given back, the stores and the lists
pub record SameOutcome (r s : Mended) (w₁ w₂ list₁ list₂ : List ℕ) : Type 0 where
  pub results : r ≡ s
  pub words : w₁ ≡ w₂
  pub lists : list₁ ≡ list₂
