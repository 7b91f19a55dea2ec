-- A reader: the bundle as it was lent, its pointer with it, and the place.
use Rattle.std.specs.Prelude.{ℕ, List}
use Rattle.std.specs.Borrow.{Bor}
use Rattle.bundle.specs.Shown.{place_after}
use Rattle.bundle.specs.declared.Reader.{Reader}

abbrev pub set_at : Bor (List ℕ) → ℕ → Reader
set_at bundle at = record { bundle = bundle; at = at }

abbrev pub started : Bor (List ℕ) → Reader
started bundle = set_at bundle 0

-- the same bundle, and the place after moving
abbrev pub moved_along : Reader → Reader
moved_along r = set_at r.bundle (place_after r.bundle.now r.at)
