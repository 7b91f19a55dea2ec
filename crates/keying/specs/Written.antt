-- The key of a row of a store, and what writing it leaves.
use Rattle.std.specs.Prelude.{ℕ, ◌≤◌, ◌<◌, ◌≡◌, List, [], ◌∷◌, length}
use Rattle.rules.specs.Refusals.{Refusal, ◌when◌, First}
use Rattle.rules.specs.Writes.{over_front}
use Rattle.store.specs.Layout.{in_use, store_graph, room}
use Rattle.store.specs.Sound.{Sound}
use Rattle.walks.specs.Key.{walk_all, key_graph}
use Rattle.keys.specs.Bytes.{sheet_bytes}
use Rattle.keying.specs.declared.Written.{Written}

-- the rows that the walk from a row of a store meets
abbrev pub walk_of : List ℕ → ℕ → List ℕ
walk_of w row = walk_all (store_graph room w) (in_use w) row

-- the key of a row: those rows as a sheet
abbrev pub key_of : List ℕ → ℕ → List ℕ
key_of w row = sheet_bytes (key_graph (store_graph room w) (in_use w) row) (length (walk_of w row))

-- key writing tests 1, 2, 9, 10
abbrev pub write_refusals : List ℕ → ℕ → List ℕ → List Refusal
write_refusals w row key =
    (1 when (length w ≡ 0))
    ∷ (2 when (Sound room w → ⊥))
    ∷ (9 when (in_use w ≤ row))
    ∷ (10 when (length key < length (key_of w row)))
    ∷ []

-- refused, and no byte changes; or the key stands over the front of the buffer, and bytes past it stand
pub data WriteSays (w : List ℕ) (row : ℕ) (old : List ℕ) : Written → List ℕ → Type 0 where
  write_refused : {r : ℕ} → First (write_refusals w row old) r → (r ≡ 0 → ⊥) → WriteSays w row old (record { number = r; bytes = 0 }) old
  write_done : First (write_refusals w row old) 0 → WriteSays w row old (record { number = 0; bytes = length (key_of w row) }) (over_front (key_of w row) old)
