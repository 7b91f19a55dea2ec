-- The view's rows as they are drawn: the store's below the rows in use, the sheet's from there on. No other file unfolds the view.
use Prim.Native.Nat.{ℕ, ◌≤◌, ◌<◌}
use mathlib.Core.Path.{◌≡◌}
use borrow.Author.Tests.{lt-ltb, le-ltb}
use Rattle.sheet.specs.Format.{label_at, count_at}
use Rattle.store.specs.Layout.{label_of, count_of, input_of}
use Rattle.rows.specs.Joined.{Source, resolved_at, row_place, drawn}

module _ (s : Source) (u : ℕ) where
  module _ (h : u < s.stored) where
    pub store_label : (drawn s).label u ≡ label_of s.most s.words u
    unfolding drawn
    store_label = simp (lt-ltb u s.stored h)

    pub store_count : (drawn s).count u ≡ count_of s.most s.words u
    unfolding drawn
    store_count = simp (lt-ltb u s.stored h)

    pub store_input : (j : ℕ) → (drawn s).input u j ≡ input_of s.most s.words u j
    unfolding drawn
    store_input j = simp (lt-ltb u s.stored h)

  module _ (h : s.stored ≤ u) where
    pub sheet_label : (drawn s).label u ≡ label_at s.bytes (row_place s u)
    unfolding drawn
    sheet_label = simp (le-ltb u s.stored h)

    pub sheet_count : (drawn s).count u ≡ count_at s.bytes (row_place s u)
    unfolding drawn
    sheet_count = simp (le-ltb u s.stored h)

    pub sheet_input : (j : ℕ) → (drawn s).input u j ≡ resolved_at s.bytes s.stored (row_place s u) j
    unfolding drawn
    sheet_input j = simp (le-ltb u s.stored h)
