-- A store and a sheet beside it: the store's rows in use and then the sheet's rows, as one graph.
use Rattle.std.specs.Prelude.{ℕ, ◌+◌, List}
use Rattle.trees.specs.Graph.{Graph}
use Rattle.sheet.specs.Format.{row_count_of}
use Rattle.store.specs.Layout.{in_use, room}
use Rattle.rows.specs.Joined.{source, drawn, joined}

-- with wires skipped
abbrev pub together : List ℕ → List ℕ → Graph
together w b = joined (source room w (in_use w) b)

-- as they are drawn, wires too
abbrev pub as_drawn : List ℕ → List ℕ → Graph
as_drawn w b = drawn (source room w (in_use w) b)

-- how many they are
abbrev pub all_rows : List ℕ → List ℕ → ℕ
all_rows w b = in_use w + row_count_of b
