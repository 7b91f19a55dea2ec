-- Inner: what a view asks of the lent memory: the store's rows are shaped, each sheet row ends within the bytes, and every input leads to a row.
use Rattle.std.specs.Prelude.{ℕ, ◌+◌, ◌≤◌, ◌<◌, ◌≡◌, List, true, length, get_or}
use Rattle.rules.specs.Lists.{widest}
use Rattle.sheet.specs.Format.{count_at, input_at, row_end, start, most_rows}
use Rattle.sheet.specs.Points.{points_to}
use Rattle.store.specs.Layout.{capacity_of}
use Rattle.store.specs.Sound.{RowShaped}
use Rattle.wires.specs.Wires.{Wire, through, WiresFit}
use Rattle.rows.specs.Joined.{Source, drawn, end_of, spot}

-- so many rows of the sheet beside the store: what both readings of them ask
pub record Laid (s : Source) (rows : ℕ) : Type 0 where
  pub limit : s.most ≤ widest
  pub room : s.stored ≤ capacity_of s.most (length s.words)
  pub shaped : (n : ℕ) → n < s.stored → RowShaped s.most s.words s.stored n
  pub few : rows ≤ most_rows
  pub ends : (i : ℕ) → i < rows → row_end s.bytes (start s.bytes i) ≤ length s.bytes
  pub within : (i : ℕ) → i < rows → count_at s.bytes (start s.bytes i) ≤ widest
  pub points : (i j : ℕ) → i < rows → j < count_at s.bytes (start s.bytes i) → points_to rows s.stored (input_at s.bytes (start s.bytes i) j) ≡ true

-- how many rows are looked at
abbrev pub view_rows : Source → List ℕ → ℕ
view_rows s table = s.stored + length table

-- the rows as they are drawn: the table says where each sheet row starts
pub record Drawn (s : Source) (table : List ℕ) : Type 0 where
  pub laid : Laid s (length table)
  pub placed : (i : ℕ) → i < length table → get_or table i 0 ≡ start s.bytes i

-- the rows as trees are read: the table says where each sheet row is read, each wire has one input, no wires lead to a wire for ever, and
-- those of a sheet row lead to a row of the sheet
pub record Viewed (s : Source) (table : List ℕ) : Type 0 where
  pub laid : Laid s (length table)
  pub own : (i : ℕ) → i < length table → s.stored ≤ end_of s i
  pub placed : (i : ℕ) → i < length table → get_or table i 0 ≡ spot s i
  pub wires : WiresFit (drawn s) (view_rows s table)
  pub ended : (u : ℕ) → u < view_rows s table → Wire (drawn s) (through (drawn s) u) → ⊥

-- a row that is looked at, as it is drawn
abbrev pub InDrawn : Source → List ℕ → ℕ → Type 0
InDrawn s table u = Drawn s table × (u < view_rows s table)

-- a row that is looked at
abbrev pub InView : Source → List ℕ → ℕ → Type 0
InView s table u = Viewed s table × (u < view_rows s table)

-- two rows that are looked at
abbrev pub BothInView : Source → List ℕ → ℕ → ℕ → Type 0
BothInView s table u v = (u < view_rows s table) × (v < view_rows s table)

-- a list with an entry for each row that is looked at
abbrev pub Entries : Source → List ℕ → List ℕ → Type 0
Entries s table list = view_rows s table ≤ length list

-- a row that is looked at, and a list with an entry for each
abbrev pub Entered : Source → List ℕ → List ℕ → ℕ → Type 0
Entered s table list u = (u < view_rows s table) × Entries s table list
