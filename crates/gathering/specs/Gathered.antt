-- Inner: rows moved down in place, and what stands then.
use Rattle.std.specs.Prelude.{ℕ, ◌+◌, ◌≤◌, ◌<◌, ◌≡◌, List, length, get_or}
use Rattle.std.proofs.lemmas.List.Edits.{sets}
use Rattle.rules.specs.Lists.{in_room, widest}
use Rattle.store.specs.Layout.{word_at, in_use, row_word, label_of, count_of, input_of, capacity_of, store_graph}
use Rattle.store.specs.Rows.{RowThere, words_of_row}
use Rattle.store.specs.declared.row.Row.{Row}
use Rattle.numbering.specs.Numbers.{trees_below}
use Rattle.writing.specs.After.{HasRow}
use Rattle.mends.specs.Words.{MendedWords, listed}
use Rattle.mends.specs.Entries.{entry_of}

-- ---- a row by value

-- an input of a row by value as the list has it
abbrev pub listed_input : (list inputs : List ℕ) → ℕ → ℕ
listed_input list inputs j = entry_of list (get_or inputs j 0)

-- at most so many inputs as a row has room for, each with an entry
pub record InputsListed (list inputs : List ℕ) (count : ℕ) : Type 0 where
  pub few : count ≤ widest
  pub each : (j : ℕ) → j < count → get_or inputs j 0 < length list

-- row u is there, and its inputs have entries in the list
pub record RowListed (most : ℕ) (w list : List ℕ) (u : ℕ) : Type 0 where
  pub there : RowThere most w u
  pub few : count_of most w u ≤ most
  pub used : (j : ℕ) → j < count_of most w u → input_of most w u j < length list

-- an input of row u as the list has it
abbrev pub moved_input : (most : ℕ) → (w list : List ℕ) → (u j : ℕ) → ℕ
moved_input most w list u j = entry_of list (input_of most w u j)

-- row u with its inputs so
unfoldable pub moved_row : (most : ℕ) → (w list : List ℕ) → ℕ → Row
moved_row most w list u =
    record { label = label_of most w u; count = count_of most w u; inputs = in_room widest (moved_input most w list u) (count_of most w u) }

-- ---- a row moved

-- row u can be moved to row k, which is no later
pub record MoveAsks (most : ℕ) (w list : List ℕ) (u k : ℕ) : Type 0 where
  pub row : RowListed most w list u
  pub entry : u < length list
  pub low : k ≤ u

-- row u goes to row k if its number is k; r is the next number
pub data RowMoved (most : ℕ) (list : List ℕ) (u k : ℕ) (w : List ℕ) : (v : List ℕ) → ℕ → Type 0 where
  row_stays : {v : List ℕ} {r : ℕ} → (entry_of list u ≡ k → ⊥) → v ≡ w → r ≡ k → RowMoved most list u k w v r
  row_moves : {v : List ℕ} {r : ℕ} → entry_of list u ≡ k → v ≡ sets w (row_word most k) (words_of_row most (moved_row most w list u)) → r ≡ k + 1 → RowMoved most list u k w v r

-- ---- all rows

-- the first n rows are there, within the limit, and their inputs are among them
pub record GatherAsks (most n : ℕ) (w list : List ℕ) : Type 0 where
  pub limit : most ≤ widest
  pub words : 0 < length w
  pub room : n ≤ capacity_of most (length w)
  pub entries : n ≤ length list
  pub few : (u : ℕ) → u < n → count_of most w u ≤ most
  pub used : (u j : ℕ) → u < n → j < count_of most w u → input_of most w u j < n

-- the list is that of a choice; inputs of rows left are rows left
pub record Listing (most n : ℕ) (w list : List ℕ) (c : ℕ → ℕ) : Type 0 where
  pub entries : (u : ℕ) → u < n → entry_of list u ≡ listed n c u
  pub low : (u : ℕ) → u < n → c u < n → c u ≤ u
  pub own : (u : ℕ) → u < n → c u < n → c (c u) ≡ c u
  pub left : (u j : ℕ) → u < n → c u < n → j < count_of most w u → c (input_of most w u j) < n

-- for each such choice the kept rows stand at their numbers
pub record RowsGathered (most n : ℕ) (list w v : List ℕ) (r : ℕ) : Type 0 where
  pub low : r ≤ n
  pub long : length v ≡ length w
  pub past : (i : ℕ) → row_word most n ≤ i → word_at v i ≡ word_at w i
  pub count : (c : ℕ → ℕ) → Listing most n w list c → r ≡ trees_below c n
  pub kept : (c : ℕ → ℕ) → Listing most n w list c → (u : ℕ) → u < n → c u ≡ u → HasRow most (store_graph most w) c u v (trees_below c u)

-- ---- rows freed

-- rows k to n are there
pub record FreeAsks (most k n : ℕ) (w : List ℕ) : Type 0 where
  pub few : n ≤ 1024
  pub limit : most ≤ widest
  pub low : k ≤ n
  pub words : 0 < length w
  pub room : n ≤ capacity_of most (length w)

-- they are zero, and the other words stand
pub record RowsFreed (most k n : ℕ) (w v : List ℕ) : Type 0 where
  pub long : length v ≡ length w
  pub before : (i : ℕ) → i < row_word most k → word_at v i ≡ word_at w i
  pub zero : (i : ℕ) → row_word most k ≤ i → i < row_word most n → word_at v i ≡ 0
  pub past : (i : ℕ) → row_word most n ≤ i → word_at v i ≡ word_at w i

-- and word 0 is k
pub record Finished (most k n : ℕ) (w v : List ℕ) : Type 0 where
  pub long : length v ≡ length w
  pub count : in_use v ≡ k
  pub before : (i : ℕ) → 0 < i → i < row_word most k → word_at v i ≡ word_at w i
  pub zero : (i : ℕ) → row_word most k ≤ i → i < row_word most n → word_at v i ≡ 0
  pub past : (i : ℕ) → row_word most n ≤ i → word_at v i ≡ word_at w i

-- ---- the whole

-- for each such choice the words are those of the mended store
pub record Gathered (most n : ℕ) (list w v : List ℕ) : Type 0 where
  pub words : (c : ℕ → ℕ) → Listing most n w list c → MendedWords most (store_graph most w) c n w v
