-- Inner: a cleaned store: each row left has the row of its box, a dropped row has nothing.
use Rattle.std.specs.Prelude.{ℕ, ◌≤◌, ◌<◌, ◌≡◌, List, length, get_or, replicate, eqb}
use Rattle.rules.specs.Pick.{pick}
use Rattle.rules.specs.Lists.{in_room, widest}
use Rattle.store.specs.Layout.{word_at, in_use, row_word, label_of, count_of, input_of, capacity_of}
use Rattle.store.specs.Rows.{RowThere}
use Rattle.store.specs.declared.row.Row.{Row}
use Rattle.mends.specs.Entries.{entry_of, Marked}

-- an input of a row by value
abbrev pub input_at : List ℕ → ℕ → ℕ
input_at inputs j = get_or inputs j 0

-- ---- a row by value

-- of a dropped row
abbrev pub no_row : Row
no_row = record { label = 0; count = 0; inputs = replicate widest 0 }

-- row n, inputs past its count zero
unfoldable pub trimmed_row : (most : ℕ) → List ℕ → ℕ → Row
trimmed_row most w n =
    record { label = label_of most w n; count = count_of most w n; inputs = in_room widest (input_of most w n) (count_of most w n) }

-- the row of the box that the list names for row u
unfoldable pub box_row : (most : ℕ) → (w list : List ℕ) → ℕ → Row
box_row most w list u = pick (eqb (entry_of list u) 4294967295) no_row (trimmed_row most w (entry_of list u))

-- the box that the list names for row u is there and within the limit
pub record BoxAsks (most : ℕ) (w list : List ℕ) (u : ℕ) : Type 0 where
  pub entry : u < length list
  pub limit : most ≤ widest
  pub there : (Marked list u → ⊥) → RowThere most w (entry_of list u)
  pub few : (Marked list u → ⊥) → count_of most w (entry_of list u) ≤ most

-- and row u is there
pub record CleanRowAsks (most : ℕ) (w list : List ℕ) (u : ℕ) : Type 0 where
  pub box : BoxAsks most w list u
  pub row : RowThere most w u

-- ---- all rows

-- the box of a row is a row with itself as its box, and its inputs are within the limit
pub record Boxed (most n : ℕ) (w list : List ℕ) (u : ℕ) : Type 0 where
  pub within : entry_of list u < n
  pub own : entry_of list (entry_of list u) ≡ entry_of list u
  pub few : count_of most w (entry_of list u) ≤ most

-- the first n rows are there, and each that is not marked has a box
pub record CleanAsks (most n : ℕ) (w list : List ℕ) : Type 0 where
  pub limit : most ≤ widest
  pub words : 0 < length w
  pub room : n ≤ capacity_of most (length w)
  pub entries : n ≤ length list
  pub box : (u : ℕ) → u < n → (Marked list u → ⊥) → Boxed most n w list u

-- row u of v is row b of w, unused inputs zero
pub record IsBox (most : ℕ) (w v : List ℕ) (u b : ℕ) : Type 0 where
  pub label : label_of most v u ≡ label_of most w b
  pub count : count_of most v u ≡ count_of most w b
  pub used : (j : ℕ) → j < count_of most w b → input_of most v u j ≡ input_of most w b j
  pub unused : (j : ℕ) → count_of most w b ≤ j → j < most → input_of most v u j ≡ 0

-- row u of v has nothing
pub record IsNothing (most : ℕ) (v : List ℕ) (u : ℕ) : Type 0 where
  pub label : label_of most v u ≡ 0
  pub count : count_of most v u ≡ 0
  pub inputs : (j : ℕ) → j < most → input_of most v u j ≡ 0

-- the first u of n rows are cleaned, and the words from row u on stand
pub record RowsCleaned (most n : ℕ) (list w v : List ℕ) (u : ℕ) : Type 0 where
  pub some : u ≤ n
  pub long : length v ≡ length w
  pub left : (x : ℕ) → x < u → (Marked list x → ⊥) → IsBox most w v x (entry_of list x)
  pub gone : (x : ℕ) → x < u → Marked list x → IsNothing most v x
  pub rest : (i : ℕ) → row_word most u ≤ i → word_at v i ≡ word_at w i

-- all rows are cleaned, word 0 is their count, and the words past them stand
pub record Cleaned (most n : ℕ) (list w v : List ℕ) : Type 0 where
  pub long : length v ≡ length w
  pub count : in_use v ≡ n
  pub left : (x : ℕ) → x < n → (Marked list x → ⊥) → IsBox most w v x (entry_of list x)
  pub gone : (x : ℕ) → x < n → Marked list x → IsNothing most v x
  pub past : (i : ℕ) → row_word most n ≤ i → word_at v i ≡ word_at w i
