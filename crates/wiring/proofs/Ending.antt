-- Whether a jump is a wire, and whether any is.
use Prim.Native.Nat.{ℕ, ◌+◌, ◌≤◌, ◌<◌}
use native.Mathlib.Omega.{arith}
use mathlib.Core.Path.{◌≡◌}
use mathlib.Core.Bool.{Bool, true, false}
use mathlib.Core.List.{List}
use lib.ListN.{length, get_or, take}
use lib.Seq.{length-take-le, get_or-take}
use borrow.Author.Count.{below_more}
use Rattle.rules.specs.Answers.{Says, says_no}
use Rattle.rules.proofs.Answers.{said_yes, said_no}
use Rattle.sheet.specs.Format.{store_numbers}
use Rattle.wires.specs.Wires.{Wire}
use Rattle.rows.specs.Named.{named}
use Rattle.rows.proofs.Naming.{named_past}
use Rattle.wiring.specs.Placed.{Placed}
use Rattle.wiring.specs.Jumps.{JumpsThere}
use Rattle.wiring.specs.Told.{EndSays, some_wire, no_wire}

pub astray_stored : (b : List ℕ) (x : ℕ) → store_numbers ≤ x → Says (Wire (named b) x) false
astray_stored b x h = says_no (named_past b x h)

-- none of the first i jumps is a wire
pub record EndedTo (b table jumps : List ℕ) (i : ℕ) : Type 0 where
  pub placed : Placed b table
  pub there : JumpsThere (length table) jumps
  pub plain : (k : ℕ) → k < i → Wire (named b) (get_or jumps k 0) → ⊥

pub ended_none : (b table jumps : List ℕ) → Placed b table → JumpsThere (length table) jumps → EndedTo b table jumps 0
ended_none b table jumps p t = record { placed = p; there = t; plain = λ k l. absurd (omega arith) }

module _ (b table jumps : List ℕ) (i : ℕ) (s : EndedTo b table jumps i) where
  -- the jumps of the sheet's rows are the first ones
  ours : length (take (length table) jumps) ≡ length table
  ours = length-take-le (length table) jumps s.there.long

  pub ended_placed : Placed b table
  ended_placed = s.placed

  module _ (h : i < length (take (length table) jumps)) where
    here : get_or (take (length table) jumps) i 0 ≡ get_or jumps i 0
    here = get_or-take (length table) jumps i 0 (omega (arith, ours))

    pub ended_row : get_or (take (length table) jumps) i 0 < store_numbers → get_or (take (length table) jumps) i 0 < length table
    ended_row l = rw here (s.there.row i (omega (arith, ours)) (rw here at l))

    module _ (r : Bool) (a : Says (Wire (named b) (get_or (take (length table) jumps) i 0)) r) where
      pub ended_some : r ≡ true → EndSays b (length table) jumps false
      ended_some e = some_wire i (omega (arith, ours)) (said_yes (rw (here, e) at a))

      pub ended_more : r ≡ false → EndedTo b table jumps (i + 1)
      ended_more e = record { placed = s.placed; there = s.there; plain = below_more _ _ s.plain (said_no (rw (here, e) at a)) }

  pub ended_all : length (take (length table) jumps) ≤ i → EndSays b (length table) jumps true
  ended_all h = no_wire (λ k l. s.plain k (omega (arith, ours)))
