-- The head and the rows together are the sheet, and how long it is.
use Prim.Native.Nat.{ℕ, zero, suc, ◌+◌, ◌-◌, ◌*◌, ◌≤◌, ◌<◌}
use native.Mathlib.Omega.{arith}
use native.Mathlib.Numerals.{add-one}
use mathlib.Core.Path.{◌≡◌, refl, sym, ◌∙◌}
use mathlib.Core.List.{List, [], ◌∷◌, ◌++◌, append_assoc}
use lib.ListN.{length, length-append}
use Rattle.rules.specs.Writes.{over_front, Wrote}
use Rattle.rules.specs.Lists.{widest}
use Rattle.rules.proofs.Writes.{wrote_length, wrote_more, wrote_over}
use Rattle.trees.specs.Graph.{Graph}
use Rattle.keys.specs.Bytes.{bytes16, bytes32, rows_bytes, sheet_bytes, longest_sheet}
use Rattle.keys.proofs.Fields.{two_length, four_length}
use Rattle.keys.proofs.Rows.{rows_next}
use Rattle.keys.proofs.Readback.{written_length}
use Rattle.walker.specs.Queue.{Marked}
use Rattle.keywriter.specs.Asked.{Held, held_key}
use Rattle.keywriter.proofs.Writes.{five_length}
use Rattle.keywriter.proofs.Places.{held_few}

-- ---- the head

module _ (old : List ℕ) (x : ℕ) (key : List ℕ) (past : ℕ) (s : Wrote old 0 (bytes32 x ++ (1 ∷ [])) key past) where
  pub head_room : (need : ℕ) → 7 ≤ need → need ≤ length old → past + 2 ≤ length key
  head_room need h r = omega (arith, s.next, five_length x 1, wrote_length old 0 (bytes32 x ++ (1 ∷ [])) key past s)

  pub head_wrote : (n : ℕ) (key' : List ℕ) (to : ℕ) → Wrote key past (bytes16 n) key' to → Wrote old 0 (bytes32 x ++ (1 ∷ bytes16 n)) key' to
  head_wrote n key' to t =
      rw append_assoc at (wrote_more old 0 (bytes32 x ++ (1 ∷ [])) key past s (bytes16 n) key' to t)

head_length : (x n : ℕ) → length (bytes32 x ++ (1 ∷ bytes16 n)) ≡ 7
head_length x n = omega (arith, length-append (bytes32 x) (1 ∷ bytes16 n), four_length x, two_length n)

-- ---- the sheet

module _ (h : Graph) (n need : ℕ) (e : need ≡ length (sheet_bytes h n)) where
  pub need_least : 7 ≤ need
  need_least = omega (arith, written_length h n)

  module _ (old key : List ℕ) (past : ℕ) (r : need ≤ length old) (s : Wrote old 0 (bytes32 (need - 4) ++ (1 ∷ bytes16 n)) key past) where
    pub sheet_rows : past + length (rows_bytes h n) ≤ length key
    sheet_rows =
        omega (arith, written_length h n, s.next, head_length (need - 4) n, wrote_length old 0 (bytes32 (need - 4) ++ (1 ∷ bytes16 n)) key past s)

    module _ (key' : List ℕ) (to : ℕ) (t : Wrote key past (rows_bytes h n) key' to) where
      whole : Wrote old 0 (sheet_bytes h n) key' to
      unfolding sheet_bytes
      whole =
          let field : need - 4 ≡ 3 + length (rows_bytes h n) = omega (arith, written_length h n) in
          rw (field, append_assoc) at
          (wrote_more old 0 (bytes32 (need - 4) ++ (1 ∷ bytes16 n)) key past s (rows_bytes h n) key' to t)

      pub sheet_wrote : key' ≡ over_front (sheet_bytes h n) old
      sheet_wrote = wrote_over old (sheet_bytes h n) key' to whole (rw e at r)

-- ---- its length

-- the head and the first k rows are so long
pub record Measured (h : Graph) (total k : ℕ) : Type 0 where
  pub is : total ≡ 7 + length (rows_bytes h k)
  pub few : total ≤ 7 + (5 + 2 * widest) * k

module _ (h : Graph) where
  pub measured_none : Measured h 7 0
  unfolding rows_bytes
  measured_none = record { is = refl; few = omega arith }

  module _ (total k : ℕ) (s : Measured h total k) where
    pub measured_more : (count : ℕ) → count ≡ h.count k → count ≤ widest → Measured h (total + (5 + 2 * count)) (k + 1)
    measured_more count e l =
        record { is = rw add-one (omega (arith, rows_next h k, s.is)); few = omega (arith, s.few) }

    module _ (n : ℕ) (l : k ≤ n) (m : n ≤ k) where
      pub measured_all : total ≡ length (sheet_bytes h n)
      measured_all = let e : k ≡ n = omega arith in s.is ∙ rw e (sym (written_length h n))

      pub measured_few : (rows : ℕ) (queue marks : List ℕ) → Marked rows queue marks n → total ≤ longest_sheet
      measured_few rows queue marks f = omega (arith, s.few, f.few, f.low)

-- a row has five bytes and two for each input
module _ (h : Graph) (n : ℕ) (narrow : (k : ℕ) → k < n → h.count k ≤ widest) where
  rows_few : (k : ℕ) → k ≤ n → Measured h (7 + length (rows_bytes h k)) k
  unfolding rows_bytes
  rows_few zero l = measured_none h
  rows_few (suc k) l =
      let f = rows_few k (omega arith) in
      record { is = refl; few = omega (arith, f.few, rows_next h k, narrow k (omega arith)) }

  pub written_few : n ≤ 1024 → length (sheet_bytes h n) ≤ longest_sheet
  written_few l = omega (arith, (rows_few n (omega arith)).few, written_length h n)

module _ (most : ℕ) (w : List ℕ) (n : ℕ) (queue marks : List ℕ) (filled : ℕ) (s : Held most w n queue marks filled) where
  pub sheet_few : length (sheet_bytes (held_key most w queue filled) filled) ≤ longest_sheet
  sheet_few =
      written_few (held_key most w queue filled) filled (held_few most w n queue marks filled s) (omega (arith, s.marks_stand.few, s.marks_stand.low))

  pub need_few : (need : ℕ) → need ≡ length (sheet_bytes (held_key most w queue filled) filled) → need < 65536
  need_few need e = omega (arith, sheet_few)
