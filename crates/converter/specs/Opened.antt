-- Inner: a sound store, and a sheet of which nothing up to 15 applies, with the table of its row places.
use Rattle.std.specs.Prelude.{ℕ, List}
use Rattle.rows.specs.Named.{ShortWire, SheetWireLoop}
use Rattle.rows.specs.Tabled.{Tabled}
use Rattle.checking.specs.Checked.{SoundStore}

pub record Opened (w b : List ℕ) (stored : ℕ) (table : List ℕ) : Type 0 where
  pub store : SoundStore w stored
  pub tabled : Tabled w b stored table
  pub straight : ShortWire b → ⊥
  pub unlooped : SheetWireLoop b → ⊥
