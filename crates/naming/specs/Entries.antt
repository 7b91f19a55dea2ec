-- Inner: entries of a row's inputs in an array, and another value past the count.
use Rattle.std.specs.Prelude.{ℕ, ◌<◌, List, ltb, length, get_or}
use Rattle.rules.specs.Pick.{pick}
use Rattle.signatures.specs.Signed.{class_at}

unfoldable pub entry_at : (cls inputs : List ℕ) (count past : ℕ) → ℕ → ℕ
entry_at cls inputs count past j = pick (ltb j count) (class_at cls inputs j) past

-- there is an entry for each input
pub record EntriesInside (cls inputs : List ℕ) (count : ℕ) : Type 0 where
  pub each : (j : ℕ) → j < count → get_or inputs j 0 < length cls
