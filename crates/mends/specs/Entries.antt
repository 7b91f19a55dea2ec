-- Inner: the list while the store is mended: entries, and the mark of a dropped row.
use Rattle.std.specs.Prelude.{ℕ, ◌≡◌, List, get_or}

abbrev pub entry_of : List ℕ → ℕ → ℕ
entry_of list u = get_or list u 0

abbrev pub Marked : List ℕ → ℕ → Type 0
Marked list u = entry_of list u ≡ 4294967295
