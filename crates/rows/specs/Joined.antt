-- A store and a sheet joined: the store's rows in use first, then the sheet's rows, each by the place where it starts.
-- A store alone is the view of which no sheet row is looked at, a sheet alone the view with no row in use.
use Rattle.std.specs.Prelude.{ℕ, ◌+◌, ◌-◌, List, Bool, ltb}
use Rattle.rules.specs.Pick.{pick}
use Rattle.rules.specs.Lists.{in_room, widest}
use Rattle.trees.specs.Graph.{Graph}
use Rattle.wires.specs.Wires.{through, skipping}
use Rattle.sheet.specs.Format.{label_at, count_at, input_at, start, store_numbers}
use Rattle.store.specs.Layout.{label_of, count_of, input_of}
use Rattle.store.specs.declared.row.Row.{Row}
use Rattle.rows.specs.declared.viewing.View.{View}

-- a store's words, with room for so many inputs a row and so many rows in use, and a sheet's bytes
pub record Source : Type 0 where
  pub most : ℕ
  pub words : List ℕ
  pub stored : ℕ
  pub bytes : List ℕ

abbrev pub source : (most : ℕ) → List ℕ → (stored : ℕ) → List ℕ → Source
source most w stored b = record { most = most; words = w; stored = stored; bytes = b }

-- what a view of lent memory looks at
abbrev pub source_of : View → Source
source_of v = source v.most v.store.now v.stored v.bytes.now

-- where an input of a sheet row leads: below 32,768 to a row of this sheet; in an old sheet 32,768 + n to row n of the store
unfoldable pub leads_to : (stored : ℕ) → ℕ → ℕ
leads_to stored x = pick (ltb x store_numbers) (stored + x) (x - store_numbers)

-- where input j of the sheet row at a place leads
abbrev pub resolved_at : List ℕ → (stored at j : ℕ) → ℕ
resolved_at b stored at j = leads_to stored (input_at b at j)

-- and 0 where the row has no such input
abbrev pub resolved_or : List ℕ → (stored at count j : ℕ) → ℕ
resolved_or b stored at count j = pick (ltb j count) (resolved_at b stored at j) 0

-- where row u of the view starts in the sheet, if it is one of its rows
abbrev pub row_place : Source → ℕ → ℕ
row_place s u = start s.bytes (u - s.stored)

abbrev pub in_store : Source → ℕ → Bool
in_store s u = ltb u s.stored

-- the rows as they are drawn, wires too
unfoldable pub drawn : Source → Graph
drawn s =
    record {
      label = λ u. pick (in_store s u) (label_of s.most s.words u) (label_at s.bytes (row_place s u));
      count = λ u. pick (in_store s u) (count_of s.most s.words u) (count_at s.bytes (row_place s u));
      input = λ u j. pick (in_store s u) (input_of s.most s.words u j) (resolved_at s.bytes s.stored (row_place s u) j);
    }

-- the rows as trees are read: with wires skipped
unfoldable pub joined : Source → Graph
joined s = skipping (drawn s)

-- the row of the view to which the wires of sheet row i lead
abbrev pub end_of : Source → ℕ → ℕ
end_of s i = through (drawn s) (s.stored + i)

-- where sheet row i is read: the place of the sheet row to which its wires lead
abbrev pub spot : Source → ℕ → ℕ
spot s i = start s.bytes (end_of s i - s.stored)

-- a row of a graph by value: its inputs in an array with room for the most, unused ones zero
unfoldable pub row_in : Graph → ℕ → Row
row_in g u =
    record {
      label = g.label u;
      count = g.count u;
      inputs = in_room widest (g.input u) (g.count u);
    }
