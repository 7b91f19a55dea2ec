-- The row of a box by value.
use Rattle.std.proofs.Common.{ℕ, ◌+◌, ◌≤◌, ◌<◌, arith, ◌≡◌, refl, sym, ap, ◌∙◌, List, length, get_or, set, replicate, eq-eqb, ne_eqb}
use Rattle.rules.specs.Lists.{in_room, widest}
use Rattle.rules.proofs.Lists.{Filled, filled_more, room_length, room_at, room_past, room_same}
use Rattle.store.specs.Layout.{label_of, count_of, input_of}
use Rattle.store.specs.Rows.{RowThere, row_of}
use Rattle.store.specs.declared.row.Row.{Row}
use Rattle.store.proofs.Rows.{row_label, row_count, row_input}
use Rattle.mends.specs.Entries.{entry_of, Marked}
use Rattle.cleaning.specs.Cleaned.{input_at, no_row, trimmed_row, box_row, BoxAsks, CleanRowAsks}

-- ---- the loop over a row's inputs

pub trim_more : (inputs : List ℕ) (count : ℕ) (found : List ℕ) (j : ℕ) → count ≤ widest → Filled (replicate widest 0) (input_at inputs) count found j → j < count → Filled (replicate widest 0) (input_at inputs) count (set found j (get_or inputs j 0)) (j + 1)
trim_more inputs count found j few s h = filled_more (replicate widest 0) (input_at inputs) count found j (get_or inputs j 0) s h few refl

-- ---- the row

trim_is : (most : ℕ) (w : List ℕ) (n : ℕ) {label count : ℕ} {inputs : List ℕ} → label ≡ label_of most w n → count ≡ count_of most w n → inputs ≡ in_room widest (input_of most w n) (count_of most w n) → record { label = label; count = count; inputs = inputs } ≡ trimmed_row most w n
unfolding trimmed_row
trim_is most w n l c i = rw (l, c, i)

-- what stands in it

module _ (most : ℕ) (w : List ℕ) (n : ℕ) where
  pub trim_label : (trimmed_row most w n).label ≡ label_of most w n
  unfolding trimmed_row
  trim_label = refl

  pub trim_count : (trimmed_row most w n).count ≡ count_of most w n
  unfolding trimmed_row
  trim_count = refl

  module _ (few : count_of most w n ≤ widest) where
    pub trim_full : length (trimmed_row most w n).inputs ≡ widest
    unfolding trimmed_row
    trim_full = room_length widest (input_of most w n) (count_of most w n) few

    pub trim_used : (j : ℕ) → j < count_of most w n → get_or (trimmed_row most w n).inputs j 0 ≡ input_of most w n j
    unfolding trimmed_row
    trim_used = room_at widest (input_of most w n) (count_of most w n) few

    pub trim_unused : (j : ℕ) → count_of most w n ≤ j → j < widest → get_or (trimmed_row most w n).inputs j 0 ≡ 0
    unfolding trimmed_row
    trim_unused = room_past widest (input_of most w n) (count_of most w n) few

module _ (most : ℕ) (w list : List ℕ) (u : ℕ) where
  pub box_gone : Marked list u → box_row most w list u ≡ no_row
  unfolding box_row
  box_gone e = simp (eq-eqb _ _ e)

  pub box_left : (Marked list u → ⊥) → box_row most w list u ≡ trimmed_row most w (entry_of list u)
  unfolding box_row
  box_left f = simp (ne_eqb _ _ f)

  module _ (a : BoxAsks most w list u) (at : ℕ) (p : at ≡ entry_of list u) where
    pub box_none : at ≡ 4294967295 → record { label = 0; count = 0; inputs = replicate widest 0 } ≡ box_row most w list u
    box_none e = sym (box_gone (sym p ∙ e))

    module _ (f : at ≡ 4294967295 → ⊥) where
      not : Marked list u → ⊥
      not m = f (p ∙ m)

      module _ (row : Row) (e : row ≡ row_of most w at) where
        counted : row.count ≡ count_of most w at
        counted = rw e (row_count most w at)

        low : count_of most w at ≤ most
        low = rw p (a.few not)

        input : (j : ℕ) → j < count_of most w at → get_or row.inputs j 0 ≡ input_of most w at j
        input j h = rw e (row_input most w at a.limit j (omega (arith, low)))

        pub box_few : row.count ≤ widest
        box_few = omega (arith, counted, low, a.limit)

        pub box_made : (inputs : List ℕ) → inputs ≡ in_room widest (input_at row.inputs) row.count → record { label = row.label; count = row.count; inputs = inputs } ≡ box_row most w list u
        box_made inputs q = made ∙ ap (trimmed_row most w) p ∙ sym (box_left not)
          where
            l : row.label ≡ label_of most w at
            l = rw e (row_label most w at)

            s : inputs ≡ in_room widest (input_of most w at) (count_of most w at)
            s = q ∙ room_same widest (input_at row.inputs) (input_of most w at) row.count (λ j h. input j (omega (arith, counted))) ∙ ap (in_room widest (input_of most w at)) counted

            made : record { label = row.label; count = row.count; inputs = inputs } ≡ trimmed_row most w at
            made = trim_is most w at l counted s

pub clean_row_lem : (most : ℕ) (w list : List ℕ) (u : ℕ) → CleanRowAsks most w list u → RowThere most w u
clean_row_lem most w list u a = a.row
