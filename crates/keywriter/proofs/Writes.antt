-- Numbers of two and four bytes written.
use Prim.Native.Nat.{ℕ, ◌+◌, ◌/◌, ◌%◌, ◌≤◌, ◌<◌}
use native.Mathlib.Omega.{arith}
use native.Mathlib.Numerals.{add-one}
use mathlib.Core.Path.{◌≡◌, refl, ◌∙◌}
use mathlib.Core.List.{List, [], ◌∷◌, ◌++◌}
use lib.ListN.{length, set, length-append}
use Rattle.rules.specs.Writes.{Wrote}
use Rattle.rules.proofs.Writes.{wrote_one, wrote_length, wrote_more}
use Rattle.keys.specs.Bytes.{bytes16, bytes32}
use Rattle.keys.proofs.Fields.{two_length, four_length}

pub wrote_two : (key : List ℕ) (at x : ℕ) → Wrote key at (bytes16 x) (set (set key at (x / 256)) (at + 1) (x % 256)) (at + 2)
unfolding bytes16
wrote_two key at x = record { wrote = rw add-one; next = refl }

module _ (old : List ℕ) (at x : ℕ) (key : List ℕ) (past : ℕ) (s : Wrote old at (bytes16 (x / 65536)) key past) where
  pub four_room : at + 4 ≤ length old → past + 2 ≤ length key
  four_room h = omega (arith, s.next, two_length (x / 65536), wrote_length old at (bytes16 (x / 65536)) key past s)

  pub wrote_four : (key' : List ℕ) (to : ℕ) → Wrote key past (bytes16 (x % 65536)) key' to → Wrote old at (bytes32 x) key' to
  unfolding bytes32
  wrote_four = wrote_more old at (bytes16 (x / 65536)) key past s (bytes16 (x % 65536))

-- ---- a number of four bytes and a byte after it

module _ (old : List ℕ) (at x : ℕ) (key : List ℕ) (past : ℕ) (s : Wrote old at (bytes32 x) key past) where
  pub five_room : at + 5 ≤ length old → past < length key
  five_room h = omega (arith, s.next, four_length x, wrote_length old at (bytes32 x) key past s)

  pub wrote_five : (y : ℕ) → Wrote old at (bytes32 x ++ (y ∷ [])) (set key past y) (at + 5)
  wrote_five y =
      let e : past + 1 ≡ at + 5 = omega (arith, s.next, four_length x) in
      rw e at (wrote_more old at (bytes32 x) key past s (y ∷ []) (set key past y) (past + 1) (wrote_one key past y))

pub five_length : (x y : ℕ) → length (bytes32 x ++ (y ∷ [])) ≡ 5
five_length x y = length-append (bytes32 x) (y ∷ []) ∙ rw four_length
