-- Rows that are not dropped: each leads to rows that are not, and by its wires to a box.
use Prim.Native.Nat.{ℕ, ◌+◌, ◌-◌, ◌/◌, ◌≤◌, ◌<◌}
use native.Mathlib.Omega.{arith}
use native.Mathlib.Decide.{dec_lt, ℕ_discrete}
use native.Mathlib.Nat.{min-le_left, min-le_right, min-eq_left}
use mathlib.Core.Path.{◌≡◌}
use mathlib.Core.List.{List}
use lib.ListN.{length}
use Rattle.trees.specs.Agreement.{SameTree}
use Rattle.trees.proofs.Paths.{leads_self, leads_input, leads_trans}
use Rattle.wires.specs.Wires.{Wire, through}
use Rattle.wires.proofs.Following.{through_plain}
use Rattle.wires.proofs.Skipping.{skipping_count, skipping_input, through_same}
use Rattle.wires.proofs.Among.{Among, among_follow, among_loop}
use Rattle.store.specs.Layout.{in_use, count_of, input_of, capacity_of, store_graph}
use Rattle.mends.specs.Dropped.{taken, Spoiled, crowded, astray, wired_wrong, looping, Dropped, left}

-- ---- the count taken

pub few_rows : (most n words : ℕ) → n ≤ capacity_of most words → n ≤ 1024
unfolding capacity_of
few_rows most n words h = omega (arith, min-le_left 1024 ((words - 1) / (most + 2)))

module _ (most : ℕ) (w : List ℕ) where
  pub taken_room : taken most w ≤ capacity_of most (length w)
  unfolding taken
  taken_room = min-le_right (in_use w) (capacity_of most (length w))

  pub taken_few : taken most w ≤ 1024
  taken_few = few_rows most (taken most w) (length w) taken_room

  pub taken_all : in_use w ≤ capacity_of most (length w) → taken most w ≡ in_use w
  unfolding taken
  taken_all h = min-eq_left h

-- ---- rows that are not dropped

pub record Left (most : ℕ) (w : List ℕ) (rows n : ℕ) : Type 0 where
  pub low : n < rows
  pub not : Dropped most w rows n → ⊥

module _ {most : ℕ} {w : List ℕ} {rows : ℕ} where
  -- a spoiled row is dropped
  pub spoiled_dropped : {n : ℕ} → n < rows → Spoiled most w rows n → Dropped most w rows n
  spoiled_dropped {n} h s = record { row = n; within = h; spoiled = s; leads = leads_self (store_graph most w) n }

  -- and so is a row that has it as an input
  pub input_dropped : (n j : ℕ) → j < (store_graph most w).count n → Dropped most w rows ((store_graph most w).input n j) → Dropped most w rows n
  input_dropped n j h d =
      record { row = d.row; within = d.within; spoiled = d.spoiled; leads = leads_trans (leads_input (store_graph most w) n j h) d.leads }

  module _ (n : ℕ) (l : Left most w rows n) where
    pub left_few : count_of most w n ≤ most
    left_few = go (dec_lt most (count_of most w n))
      where
        go : Dec (most < count_of most w n) → count_of most w n ≤ most
        go (yes q) = absurd (l.not (spoiled_dropped l.low (crowded q)))
        go (no q) = omega arith

    pub left_input : (j : ℕ) → j < (store_graph most w).count n → Left most w rows ((store_graph most w).input n j)
    unfolding store_graph
    left_input j h = record { low = go (dec_lt (input_of most w n j) rows); not = λ d. l.not (input_dropped n j h d) }
      where
        go : Dec (input_of most w n j < rows) → input_of most w n j < rows
        go (yes q) = q
        go (no q) = absurd (l.not (spoiled_dropped l.low (astray h (omega arith))))

    pub left_wire : Wire (store_graph most w) n → count_of most w n ≡ 1
    left_wire x = go (ℕ_discrete (count_of most w n) 1)
      where
        go : Dec (count_of most w n ≡ 1) → count_of most w n ≡ 1
        go (yes q) = q
        go (no q) = absurd (l.not (spoiled_dropped l.low (wired_wrong x q)))

  pub left_among : Among (store_graph most w) rows (Left most w rows)
  unfolding store_graph
  left_among =
      record {
        low = λ u p. p.low;
        inputs = λ u j p h. left_input u p j h;
        wires = λ u p x. let e = left_wire u p x in omega arith;
      }

  -- ---- the box that a row leads to

  module _ (few : rows ≤ 1024) (n : ℕ) (l : Left most w rows n) where
    abbrev box : ℕ
    box = through (store_graph most w) n

    pub box_left : Left most w rows box
    box_left = among_follow left_among 2048 n l

    pub box_plain : Wire (store_graph most w) box → ⊥
    box_plain x =
        let a = among_loop left_among (omega arith) n l x in
        let p = among_follow left_among a.steps n l in
        p.not (spoiled_dropped p.low (looping a.loop))

    pub box_own : through (store_graph most w) box ≡ box
    box_own = through_plain (store_graph most w) box box_plain

    pub box_tree : SameTree (left most w) box (left most w) n
    box_tree = through_same (store_graph most w) box n box_own

    -- the row as it is read
    pub left_count : (left most w).count n ≤ most
    unfolding store_graph
    left_count = rw (skipping_count (store_graph most w) n) (left_few box box_left)

    pub left_inputs : (j : ℕ) → j < (left most w).count n → Left most w rows ((left most w).input n j)
    left_inputs j h =
        rw (skipping_input (store_graph most w) n j) (left_input box box_left j (rw (skipping_count (store_graph most w) n) at h))
