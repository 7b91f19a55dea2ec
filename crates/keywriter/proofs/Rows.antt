-- The loops over the inputs of a row and over the rows: what is written so far, and room for the next.
use Prim.Native.Nat.{ℕ, suc, ◌+◌, ◌*◌, ◌≤◌, ◌<◌}
use native.Mathlib.Omega.{arith}
use native.Mathlib.Numerals.{add-one}
use native.Mathlib.Decide.{le_ind}
use mathlib.Core.Path.{◌≡◌}
use mathlib.Core.List.{List, [], ◌∷◌, ◌++◌, append_assoc}
use lib.ListN.{length}
use Rattle.rules.specs.Writes.{Wrote}
use Rattle.rules.proofs.Writes.{wrote_none, wrote_length, wrote_more}
use Rattle.trees.specs.Graph.{Graph}
use Rattle.keys.specs.Bytes.{bytes16, bytes32, inputs_bytes, row_bytes, rows_bytes}
use Rattle.keys.proofs.Rows.{inputs_length, row_length, rows_next}
use Rattle.keywriter.proofs.Writes.{five_length}

module _ (h : Graph) where
  -- ---- the inputs of row k

  module _ (k : ℕ) (old : List ℕ) (at : ℕ) where
    pub inputs_begin : Wrote old at (inputs_bytes h k 0) old at
    unfolding inputs_bytes
    inputs_begin = wrote_none old at

    module _ (j : ℕ) (key : List ℕ) (to : ℕ) (s : Wrote old at (inputs_bytes h k j) key to) where
      pub inputs_room : (count : ℕ) → at + 2 * count ≤ length old → j < count → to + 2 ≤ length key
      inputs_room count r l =
          omega (arith, s.next, inputs_length h k j, wrote_length old at (inputs_bytes h k j) key to s)

      pub inputs_more : (x : ℕ) (key' : List ℕ) (to' : ℕ) → x ≡ h.input k j → Wrote key to (bytes16 x) key' to' → Wrote old at (inputs_bytes h k (j + 1)) key' to'
      unfolding inputs_bytes
      inputs_more x key' to' e t =
          rw (add-one, ← e) (wrote_more old at (inputs_bytes h k j) key to s (bytes16 x) key' to' t)

      pub inputs_all : (count : ℕ) → j ≤ count → count ≤ j → Wrote old at (inputs_bytes h k count) key to
      inputs_all count l m = let e : j ≡ count = omega arith in rw e at s

    -- ---- label and count, and then the inputs

    pub row_room : at + length (row_bytes h k) ≤ length old → at + 5 ≤ length old
    row_room r = omega (arith, row_length h k)

    module _ (label count : ℕ) (key : List ℕ) (past : ℕ) (c : count ≡ h.count k) (s : Wrote old at (bytes32 label ++ (count ∷ [])) key past) where
      pub row_inputs : at + length (row_bytes h k) ≤ length old → past + 2 * count ≤ length key
      row_inputs r =
          omega (arith, row_length h k, s.next, five_length label count, wrote_length old at (bytes32 label ++ (count ∷ [])) key past s)

      pub row_wrote : label ≡ h.label k → (key' : List ℕ) (to : ℕ) → Wrote key past (inputs_bytes h k count) key' to → Wrote old at (row_bytes h k) key' to
      unfolding row_bytes
      row_wrote l key' to t =
          rw (← l, ← c)
          (rw append_assoc at (wrote_more old at (bytes32 label ++ (count ∷ [])) key past s (inputs_bytes h k count) key' to t))

  -- ---- the rows

  rows_rise : (k m : ℕ) → k ≤ m → length (rows_bytes h k) ≤ length (rows_bytes h m)
  rows_rise k = le_ind (λ m. length (rows_bytes h k) ≤ length (rows_bytes h m)) (omega arith) (λ m l q. omega (arith, rows_next h m))

  module _ (old : List ℕ) (at : ℕ) where
    pub rows_begin : Wrote old at (rows_bytes h 0) old at
    unfolding rows_bytes
    rows_begin = wrote_none old at

    module _ (k : ℕ) (key : List ℕ) (to : ℕ) (s : Wrote old at (rows_bytes h k) key to) where
      pub rows_room : (n : ℕ) → at + length (rows_bytes h n) ≤ length old → k < n → to + length (row_bytes h k) ≤ length key
      rows_room n r l =
          omega (arith, s.next, row_length h k, rows_next h k, rows_rise (suc k) n (omega arith), wrote_length old at (rows_bytes h k) key to s)

      pub rows_more : (key' : List ℕ) (to' : ℕ) → Wrote key to (row_bytes h k) key' to' → Wrote old at (rows_bytes h (k + 1)) key' to'
      unfolding rows_bytes
      rows_more key' to' t = rw add-one (wrote_more old at (rows_bytes h k) key to s (row_bytes h k) key' to' t)

      pub rows_all : (n : ℕ) → k ≤ n → n ≤ k → Wrote old at (rows_bytes h n) key to
      rows_all n l m = let e : k ≡ n = omega arith in rw e at s
