-- A text written byte by byte; and room for one part, and then for the next.
use Prim.Native.Nat.{ℕ, ◌+◌, ◌≤◌, ◌<◌}
use native.Mathlib.Omega.{arith}
use native.Mathlib.Numerals.{add-one}
use mathlib.Core.List.{List, [], ◌∷◌, ◌++◌}
use lib.ListN.{length, get_or, take, length-append}
use lib.Seq.{take-suc, take_all, length-take-le}
use Rattle.rules.specs.Writes.{Wrote}
use Rattle.rules.proofs.Writes.{wrote_none, wrote_length, wrote_more}

module _ (old : List ℕ) (at : ℕ) (text : List ℕ) where
  pub text_none : Wrote old at (take 0 text) old at
  text_none = wrote_none old at

  module _ (i : ℕ) (new : List ℕ) (to : ℕ) (s : Wrote old at (take i text) new to) where
    pub text_room : at + length text ≤ length old → i < length text → to < length new
    text_room r l = omega (arith, s.next, length-take-le i text (omega arith), wrote_length old at (take i text) new to s)

    pub text_more : (new' : List ℕ) (to' : ℕ) → i < length text → Wrote new to (get_or text i 0 ∷ []) new' to' → Wrote old at (take (i + 1) text) new' to'
    text_more new' to' l t =
        rw (add-one, take-suc text i 0 l) (wrote_more old at (take i text) new to s (get_or text i 0 ∷ []) new' to' t)

    pub text_all : length text ≤ i → Wrote old at text new to
    text_all l = rw (take_all i text l) at s

-- ---- room for a part, and then for the next

pub room_first : (old : List ℕ) (at : ℕ) (a b : List ℕ) → at + length (a ++ b) ≤ length old → at + length a ≤ length old
room_first old at a b r = omega (arith, length-append a b)

pub room_next : (old : List ℕ) (at : ℕ) (a b new : List ℕ) (past : ℕ) → Wrote old at a new past → at + length (a ++ b) ≤ length old → past + length b ≤ length new
room_next old at a b new past s r = omega (arith, s.next, length-append a b, wrote_length old at a new past s)
