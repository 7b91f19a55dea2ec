-- Inner: the rows of a converted sheet in order: the sheet's own, then the store's rows of which P holds, by rising number; and for each of
-- those its place.
use Rattle.std.specs.Prelude.{ℕ, ◌+◌, ◌≤◌, ◌<◌, ◌≡◌, List, length, get_or, take, drop}
use Rattle.rules.specs.Lists.{firsts}
use Rattle.converts.specs.Rising.{Rising}
use Rattle.converts.specs.Result.{behind, rising_inputs}

-- the rows that stand behind the sheet's
abbrev pub appended_in : (rows total : ℕ) → List ℕ → List ℕ
appended_in rows total order = drop rows (take total order)

pub record Arranged (P : ℕ → Type 0) (stored rows : ℕ) (order places : List ℕ) (total : ℕ) : Type 0 where
  pub rising : Rising P stored (appended_in rows total order)
  pub in_order : take total order ≡ rising_inputs stored rows (appended_in rows total order)
  pub counted : total ≡ rows + length (appended_in rows total order)
  pub placed : (k : ℕ) → k < length (appended_in rows total order) → get_or places (get_or (appended_in rows total order) k 0) 0 ≡ rows + k
  pub long : total ≤ length order
  pub entries : stored ≤ length places
  pub low : stored ≤ 1024

-- the sheet's rows stand in order
pub record SheetFirst (stored rows : ℕ) (order : List ℕ) : Type 0 where
  pub first : take rows order ≡ firsts (behind stored) rows

-- and behind them k rows of the store below x
pub record Arranging (P : ℕ → Type 0) (stored rows : ℕ) (order places : List ℕ) (x k : ℕ) : Type 0 where
  pub appended : List ℕ
  pub rising : Rising P x appended
  pub in_order : take (rows + k) order ≡ rising_inputs stored rows appended
  pub counted : length appended ≡ k
  pub placed : (i : ℕ) → i < k → get_or places (get_or appended i 0) 0 ≡ rows + i
  pub few : k ≤ x
  pub low : x ≤ stored
  pub long : rows + stored ≤ length order
  pub entries : stored ≤ length places
