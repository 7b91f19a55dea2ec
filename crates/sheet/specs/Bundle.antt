-- A bundle is sheets one after another. The next sheet is the first 4 + length bytes if they are all there, otherwise the empty part.
use Rattle.std.specs.Prelude.{ℕ, ◌+◌, ◌≡◌, List, length, take, leb}
use Rattle.std.specs.Borrow.{Bor}
use Rattle.rules.specs.Pick.{pick}
use Rattle.sheet.specs.Format.{length_field}

unfoldable pub next_length : List ℕ → ℕ
next_length b = pick (leb 4 (length b)) (pick (leb (4 + length_field b) (length b)) (4 + length_field b) 0) 0

-- the part of the lent bytes that holds it: it starts where they start, and is that many of them
pub record NextSheet (bundle part : Bor (List ℕ)) : Type 0 where
  pub bytes : part.now ≡ take (next_length bundle.now) bundle.now
  pub place : part.ref_ptr ≡ bundle.ref_ptr

-- two parts hold the same bytes at the same place
pub record SamePart (p q : Bor (List ℕ)) : Type 0 where
  pub bytes : p.now ≡ q.now
  pub place : p.ref_ptr ≡ q.ref_ptr
