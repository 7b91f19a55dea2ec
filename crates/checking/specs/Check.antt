-- Checking a store: 1 with no words, 2 when it is not sound, else 0.
use Rattle.std.specs.Prelude.{ℕ, ◌<◌, ◌≡◌, List, [], ◌∷◌, length}
use Rattle.rules.specs.Refusals.{Refusal, ◌when◌}
use Rattle.store.specs.Layout.{in_use, room}
use Rattle.store.specs.Sound.{Shaped, Sound}

abbrev pub check_refusals : List ℕ → List Refusal
check_refusals w = (1 when (length w ≡ 0)) ∷ (2 when (Sound room w → ⊥)) ∷ []

-- a store with words, in shape, with so many rows in use
pub record InShape (w : List ℕ) (rows : ℕ) : Type 0 where
  pub words : 0 < length w
  pub shaped : Shaped room w
  pub counted : rows ≡ in_use w
