-- A row read by value: what stands in it.
use Prim.Native.Nat.{ℕ, ◌≤◌, ◌<◌}
use mathlib.Core.Path.{◌≡◌, refl}
use mathlib.Core.List.{List}
use lib.ListN.{length, get_or}
use Rattle.rules.specs.Lists.{in_room, widest}
use Rattle.rules.proofs.Lists.{room_length, room_at}
use Rattle.store.specs.Layout.{label_of, count_of, input_of}
use Rattle.store.specs.Rows.{row_of}

module _ (most : ℕ) (w : List ℕ) (n : ℕ) where
  pub row_made : (label count : ℕ) (inputs : List ℕ) → label ≡ label_of most w n → count ≡ count_of most w n → inputs ≡ in_room widest (input_of most w n) most → record { label = label; count = count; inputs = inputs } ≡ row_of most w n
  unfolding row_of
  row_made label count inputs l c i = rw (l, c, i)

  pub row_label : (row_of most w n).label ≡ label_of most w n
  unfolding row_of
  row_label = refl

  pub row_count : (row_of most w n).count ≡ count_of most w n
  unfolding row_of
  row_count = refl

  module _ (limit : most ≤ widest) where
    pub row_input : (j : ℕ) → j < most → get_or (row_of most w n).inputs j 0 ≡ input_of most w n j
    unfolding row_of
    row_input = room_at widest (input_of most w n) most limit

    pub row_long : length (row_of most w n).inputs ≡ widest
    unfolding row_of
    row_long = room_length widest (input_of most w n) most limit
