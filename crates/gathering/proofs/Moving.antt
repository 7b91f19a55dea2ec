-- A row read, its inputs through the list, and put further down.
use Rattle.std.proofs.Common.{ℕ, ◌+◌, ◌≤◌, ◌<◌, arith, ◌≡◌, refl, sym, ap, ◌∙◌, List, length, get_or, set, replicate}
use lib.Seq.{sets}
use Rattle.rules.specs.Lists.{in_room, widest}
use Rattle.rules.proofs.Lists.{Filled, filled_more, room_length, room_at, room_past, room_same}
use Rattle.store.specs.Layout.{row_word, label_of, count_of, input_of}
use Rattle.store.specs.Rows.{RowThere, row_of, words_of_row}
use Rattle.store.specs.declared.row.Row.{Row}
use Rattle.store.proofs.Rows.{row_label, row_count, row_input}
use Rattle.mends.proofs.Rooms.{row_later}
use Rattle.mends.specs.Entries.{entry_of}
use Rattle.gathering.specs.Gathered.{listed_input, InputsListed, RowListed, moved_input, moved_row, MoveAsks, RowMoved, row_stays, row_moves}

-- ---- the loop over a row's inputs

pub input_more : (list inputs : List ℕ) (count : ℕ) (found : List ℕ) (j v : ℕ) → InputsListed list inputs count → Filled (replicate widest 0) (listed_input list inputs) count found j → j < count → v ≡ entry_of list (get_or inputs j 0) → Filled (replicate widest 0) (listed_input list inputs) count (set found j v) (j + 1)
input_more list inputs count found j v i s h e =
    filled_more (replicate widest 0) (listed_input list inputs) count found j v s h i.few e

-- ---- a row by value

module _ (most : ℕ) (w list : List ℕ) (u : ℕ) (a : RowListed most w list u) (row : Row) (e : row ≡ row_of most w u) where
  counted : row.count ≡ count_of most w u
  counted = rw e (row_count most w u)

  input : (j : ℕ) → j < count_of most w u → get_or row.inputs j 0 ≡ input_of most w u j
  input j h = rw e (row_input most w u a.there.limit j (omega (arith, a.few)))

  pub moved_inputs : InputsListed list row.inputs row.count
  moved_inputs =
      record {
        few = omega (arith, counted, a.few, a.there.limit);
        each = λ j h. let q : j < count_of most w u = omega (arith, counted) in omega (arith, input j q, a.used j q);
      }

  pub moved_made : (inputs : List ℕ) → inputs ≡ in_room widest (listed_input list row.inputs) row.count → record { label = row.label; count = row.count; inputs = inputs } ≡ moved_row most w list u
  unfolding moved_row
  moved_made inputs q =
      let l : row.label ≡ label_of most w u = rw e (row_label most w u) in
      let s : inputs ≡ in_room widest (moved_input most w list u) (count_of most w u) =
      q ∙ room_same widest (listed_input list row.inputs) (moved_input most w list u) row.count (λ j h. ap (entry_of list) (input j (omega (arith, counted)))) ∙ ap (in_room widest (moved_input most w list u)) counted in
      rw (l, counted, s)

-- ---- what the moved row is

module _ (most : ℕ) (w list : List ℕ) (u : ℕ) where
  pub moved_label : (moved_row most w list u).label ≡ label_of most w u
  unfolding moved_row
  moved_label = refl

  pub moved_count : (moved_row most w list u).count ≡ count_of most w u
  unfolding moved_row
  moved_count = refl

  module _ (few : count_of most w u ≤ widest) where
    pub moved_full : length (moved_row most w list u).inputs ≡ widest
    unfolding moved_row
    moved_full = room_length widest (moved_input most w list u) (count_of most w u) few

    pub moved_used : (j : ℕ) → j < count_of most w u → get_or (moved_row most w list u).inputs j 0 ≡ entry_of list (input_of most w u j)
    unfolding moved_row
    moved_used = room_at widest (moved_input most w list u) (count_of most w u) few

    pub moved_unused : (j : ℕ) → count_of most w u ≤ j → j < widest → get_or (moved_row most w list u).inputs j 0 ≡ 0
    unfolding moved_row
    moved_unused = room_past widest (moved_input most w list u) (count_of most w u) few

-- ---- a row moved, if it is the next

module _ (most : ℕ) (w list : List ℕ) (u k : ℕ) (a : MoveAsks most w list u k) where
  pub move_there : RowThere most w k
  move_there =
      record {
        limit = a.row.there.limit;
        low = omega (arith, a.low, a.row.there.low);
        room = omega (arith, row_later most k u a.low, a.row.there.room);
      }

  module _ (x : ℕ) (e : x ≡ entry_of list u) where
    pub move_stays : (x ≡ k → ⊥) → RowMoved most list u k w w k
    move_stays f = row_stays (λ z. f (e ∙ z)) refl refl

    pub move_moves : (v : List ℕ) (row : Row) → x ≡ k → row ≡ moved_row most w list u → v ≡ sets w (row_word most k) (words_of_row most row) → RowMoved most list u k w v (k + 1)
    move_moves v row q r s = row_moves (sym e ∙ q) (s ∙ ap (λ y. sets w (row_word most k) (words_of_row most y)) r) refl
