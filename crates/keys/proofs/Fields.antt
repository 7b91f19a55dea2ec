-- Big-endian numbers of two and four bytes: what is written at a place is read there, and bytes that are read are written as they were.
use Prim.Native.Nat.{ℕ, ◌+◌, ◌*◌, ◌/◌, ◌%◌, ◌<◌}
use native.Mathlib.Omega.{arith}
use mathlib.Core.Path.{◌≡◌, refl}
use mathlib.Core.List.{List, [], ◌∷◌}
use lib.ListN.{length}
use Rattle.sheet.specs.Bytes.{be16, be32}
use Rattle.keys.specs.Bytes.{bytes16, bytes32, EachByte}
use Rattle.keys.proofs.Stands.{Stands, stands_none, stands_more, stands_first, stands_join, stands_left, stands_right}

-- ---- lengths

pub two_length : (x : ℕ) → length (bytes16 x) ≡ 2
unfolding bytes16
two_length x = refl

pub four_length : (x : ℕ) → length (bytes32 x) ≡ 4
unfolding bytes16 bytes32
four_length x = refl

past_two : (at x : ℕ) → at + length (bytes16 x) ≡ at + 2
past_two at x = rw two_length

-- ---- what stands at a place is read there

pub two_read : {b : List ℕ} {at : ℕ} (x : ℕ) → Stands b at (bytes16 x) → be16 b at ≡ x
unfolding bytes16 be16
two_read x s =
    let high = stands_first s in
    let low = stands_first (stands_right ((x / 256) ∷ []) ((x % 256) ∷ []) refl s) in
    omega arith

pub four_read : {b : List ℕ} {at : ℕ} (x : ℕ) → Stands b at (bytes32 x) → be32 b at ≡ x
unfolding bytes32 be32
four_read {b} {at} x s =
    let high = two_read (x / 65536) (stands_left (bytes16 (x / 65536)) (bytes16 (x % 65536)) s) in
    let low = two_read (x % 65536) (stands_right (bytes16 (x / 65536)) (bytes16 (x % 65536)) (past_two at (x / 65536)) s) in
    omega arith

-- ---- bytes read, and written again

module _ (b : List ℕ) (each : EachByte b) where
  pub two_small : (at : ℕ) → be16 b at < 65536
  unfolding be16
  two_small at = omega (arith, each at, each (at + 1))

  pub two_stands : (at : ℕ) → Stands b at (bytes16 (be16 b at))
  unfolding bytes16 be16
  two_stands at =
      let high = each at in
      let low = each (at + 1) in
      stands_more (omega arith) (stands_more (omega arith) (stands_none b (at + 1 + 1)))

  pub four_stands : (at : ℕ) → Stands b at (bytes32 (be32 b at))
  unfolding bytes32 be32
  four_stands at =
      let small = two_small (at + 2) in
      let x = be16 b at * 65536 + be16 b (at + 2) in
      let high : x / 65536 ≡ be16 b at = omega arith in
      let low : x % 65536 ≡ be16 b (at + 2) = omega arith in
      rw (high, low) (stands_join (bytes16 (be16 b at)) (bytes16 (be16 b (at + 2))) (past_two at (be16 b at)) (two_stands at) (two_stands (at + 2)))
