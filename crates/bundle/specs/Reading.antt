-- Reading a bundle from its start: a new reader shows a part and moves past it, again and again, until it shows the empty part.
use Rattle.std.specs.Prelude.{ℕ, zero, suc, ◌+◌, ◌≤◌, ◌<◌, ◌≡◌, List, [], ◌∷◌, ◌++◌, length, take, drop}
use Rattle.std.specs.Borrow.{Bor}
use Rattle.bundle.specs.Shown.{shown_at, place_after}
use Rattle.bundle.specs.Readers.{started, moved_along}
use Rattle.bundle.specs.declared.Reader.{Reader}

-- a new reader that has moved so many times
unfoldable pub reader_of : Bor (List ℕ) → ℕ → Reader
reader_of bundle zero = started bundle
reader_of bundle (suc n) = moved_along (reader_of bundle n)

-- its place, and the part that it shows there
unfoldable pub place_reached : List ℕ → ℕ → ℕ
place_reached bundle zero = 0
place_reached bundle (suc n) = place_after bundle (place_reached bundle n)

abbrev pub sheet_of : List ℕ → ℕ → List ℕ
sheet_of bundle n = shown_at bundle (place_reached bundle n)

-- the parts that it has shown before, and parts one after another
unfoldable pub visited : List ℕ → ℕ → List (List ℕ)
visited bundle zero = []
visited bundle (suc n) = visited bundle n ++ (sheet_of bundle n ∷ [])

unfoldable pub parts_joined : List (List ℕ) → List ℕ
parts_joined [] = []
parts_joined (part ∷ parts) = part ++ parts_joined parts

-- the reading is over after that many sheets: each part before was a sheet, and now the empty part is shown
pub record ReadWhole (bundle : List ℕ) (sheets : ℕ) : Type 0 where
  pub each : (i : ℕ) → i < sheets → 0 < length (sheet_of bundle i)
  pub over : length (sheet_of bundle sheets) ≡ 0

-- byte j of the bundle is in one of the first n parts, and in no other part
pub record ShownOnce (bundle : List ℕ) (n j : ℕ) : Type 0 where
  pub sheet : ℕ
  pub before : sheet < n
  pub from : place_reached bundle sheet ≤ j
  pub to : j < place_reached bundle (suc sheet)
  pub only : (k : ℕ) → place_reached bundle k ≤ j → j < place_reached bundle (suc k) → k ≡ sheet

-- the whole reading: it ends, the parts joined are the bundle's front, what is left over follows them, and each part begins where the one before
-- it ended, at least four bytes on. So nothing is skipped and nothing is shown twice
pub record ReadThrough (bundle : List ℕ) : Type 0 where
  pub sheets : ℕ
  pub whole : ReadWhole bundle sheets
  pub front : parts_joined (visited bundle sheets) ≡ take (place_reached bundle sheets) bundle
  pub rest : parts_joined (visited bundle sheets) ++ drop (place_reached bundle sheets) bundle ≡ bundle
  pub left : place_reached bundle sheets + length (drop (place_reached bundle sheets) bundle) ≡ length bundle
  pub begins : (i : ℕ) → sheet_of bundle i ≡ take (length (sheet_of bundle i)) (drop (place_reached bundle i) bundle)
  pub ends : (i : ℕ) → place_reached bundle (suc i) ≡ place_reached bundle i + length (sheet_of bundle i)
  pub moves : (i : ℕ) → i < sheets → place_reached bundle i + 4 ≤ place_reached bundle (suc i)
  pub once : (j : ℕ) → j < place_reached bundle sheets → ShownOnce bundle sheets j
