-- A channel and a hold of it, with room for one input a row, in a target of eleven words with room for two; and in one where only the first has room.
use mathlib.Core.Path.{◌≡◌, refl}
use mathlib.Core.List.{List, [], ◌∷◌}
use Prim.Native.Nat.{ℕ}
use Rattle.rules.specs.Lists.{firsts, in_room}
use Rattle.rules.specs.Writes.{over_front}
use Rattle.store.specs.Layout.{row_word, capacity_of}
use Rattle.store.specs.Rows.{row_of, words_of_row}
use Rattle.widens.specs.Widened.{rows_widened, widened}

abbrev pub narrow : List ℕ
narrow = 2 ∷ 65536 ∷ 0 ∷ 0 ∷ 393216 ∷ 1 ∷ 0 ∷ []

pub widened_hold :
    (widened 1 2 narrow (9 ∷ 9 ∷ 9 ∷ 9 ∷ 9 ∷ 9 ∷ 9 ∷ 9 ∷ 9 ∷ 9 ∷ 9 ∷ []) ≡ 2 ∷ 65536 ∷ 0 ∷ 0 ∷ 0 ∷ 393216 ∷ 1 ∷ 0 ∷ 0 ∷ 9 ∷ 9 ∷ [])
    × (capacity_of 2 11 ≡ 2)
    × (capacity_of 2 8 ≡ 1)
unfolding widened rows_widened row_of words_of_row row_word capacity_of firsts in_room over_front
widened_hold = (refl, refl, refl)
