-- What a reader shows at a place of a bundle, and where it stands once it has moved.
use Rattle.std.specs.Prelude.{ℕ, ◌+◌, min, ◌≡◌, List, length, take, drop}
use Rattle.std.specs.Borrow.{Bor}
use Rattle.sheet.specs.Bundle.{next_length}

-- the bytes shown at a place: the next sheet's, of what is left from there on. Past the end nothing is left
unfoldable pub shown_at : List ℕ → ℕ → List ℕ
shown_at bundle at = take (next_length (drop at bundle)) (drop at bundle)

-- the part of the lent bytes that holds them: it starts at the place, or at the end where the place is past it
pub record Shows (bundle : Bor (List ℕ)) (at : ℕ) (part : Bor (List ℕ)) : Type 0 where
  pub bytes : part.now ≡ shown_at bundle.now at
  pub place : part.ref_ptr ≡ (bundle.ref_ptr.0, bundle.ref_ptr.1 + min at (length bundle.now))

-- two parts are the same bytes at the same place
pub record SamePart (p q : Bor (List ℕ)) : Type 0 where
  pub places : p.ref_ptr ≡ q.ref_ptr
  pub bytes : p.now ≡ q.now

-- the place after moving: what was shown is behind it. On the empty part that is the same place
unfoldable pub place_after : List ℕ → ℕ → ℕ
place_after bundle at = at + length (shown_at bundle at)
