-- What a write leaves: the new entries stand where they were put, and the rest stands as it was.
use Rattle.std.specs.Prelude.{ℕ, ◌+◌, ◌≡◌, List, ◌++◌, length, drop}
use Rattle.std.proofs.lemmas.List.Edits.{sets}

-- at the front
unfoldable pub over_front : {A : Type 0} → List A → List A → List A
over_front new old = new ++ drop (length new) old

-- bytes from a place on; `to` is the place past them
pub record Wrote (old : List ℕ) (at : ℕ) (bytes new : List ℕ) (to : ℕ) : Type 0 where
  pub wrote : new ≡ sets old at bytes
  pub next : to ≡ at + length bytes
