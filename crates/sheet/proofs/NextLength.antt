-- The next sheet's length: 0 where its length field or its bytes are not all there.
use Prim.Native.Nat.{ℕ, ◌+◌, ◌≤◌, ◌<◌}
use native.Mathlib.Omega.{arith}
use native.Mathlib.Decide.{dec_le}
use mathlib.Core.Path.{◌≡◌, sym, ap, ◌∙◌}
use mathlib.Core.List.{List}
use lib.ListN.{length, take}
use lib.Seq.{length-take-le}
use denote.Ref.{Bor}
use borrow.Author.Tests.{le-leb, lt-leb}
use Rattle.sheet.specs.Format.{length_field}
use Rattle.sheet.specs.Bundle.{next_length, NextSheet, SamePart}

module _ (b : List ℕ) where
  pub next_short : length b < 4 → next_length b ≡ 0
  unfolding next_length
  next_short h = simp (lt-leb _ _ h)

  module _ (h : 4 ≤ length b) where
    pub next_cut : length b < 4 + length_field b → next_length b ≡ 0
    unfolding next_length
    next_cut l = simp (le-leb _ _ h, lt-leb _ _ l)

    pub next_whole_lem : 4 + length_field b ≤ length b → next_length b ≡ 4 + length_field b
    unfolding next_length
    next_whole_lem l = simp (le-leb _ _ h, le-leb _ _ l)

-- the next sheet has its length field and is all there, or there is none
pub data NextIs (b : List ℕ) : Type 0 where
  none : next_length b ≡ 0 → NextIs b
  sheet : 4 ≤ next_length b → next_length b ≤ length b → NextIs b

pub next_is : (b : List ℕ) → NextIs b
next_is b = go (dec_le 4 (length b)) (dec_le (4 + length_field b) (length b))
  where
    go : Dec (4 ≤ length b) → Dec (4 + length_field b ≤ length b) → NextIs b
    go (no h) l = none (next_short b (omega arith))
    go (yes h) (no l) = none (next_cut b h (omega arith))
    go (yes h) (yes l) = sheet (rw (next_whole_lem b h l) (omega arith)) (rw (next_whole_lem b h l) l)

pub next_within : (b : List ℕ) → next_length b ≤ length b
next_within b = go (next_is b)
  where
    go : NextIs b → next_length b ≤ length b
    go (none e) = omega arith
    go (sheet h l) = l

-- so the part that holds it is as long as it is
pub next_part : (b part : List ℕ) → part ≡ take (next_length b) b → length part ≡ next_length b
next_part b part e = ap length e ∙ length-take-le (next_length b) b (next_within b)

-- two parts that the contract allows are the same
pub next_unique : {bundle p q : Bor (List ℕ)} → NextSheet bundle p → NextSheet bundle q → SamePart p q
next_unique a b = record { bytes = a.bytes ∙ sym b.bytes; place = a.place ∙ sym b.place }
