-- The inputs of a sheet row resolved one after another, to the room of a row: past the count they are zero.
use Prim.Native.Nat.{ℕ, ◌+◌, ◌≤◌, ◌<◌}
use native.Mathlib.Omega.{arith}
use mathlib.Core.Path.{◌≡◌, refl, ap, ◌∙◌}
use mathlib.Core.List.{List}
use lib.ListN.{set, replicate, length-replicate}
use borrow.Author.Tests.{lt-ltb, le-ltb}
use Rattle.rules.specs.Lists.{in_room, widest}
use Rattle.rules.proofs.Lists.{Filled, filled_more, filled_room}
use Rattle.sheet.specs.Format.{input_at}
use Rattle.rows.specs.Joined.{leads_to, resolved_at, resolved_or}
use Rattle.rows.proofs.Rows.{room_shorter}

module _ (b : List ℕ) (stored at count j : ℕ) where
  pub resolved_used : (x v : ℕ) → j < count → x ≡ input_at b at j → v ≡ leads_to stored x → v ≡ resolved_or b stored at count j
  resolved_used x v h e p = simp (lt-ltb _ _ h) (p ∙ ap (leads_to stored) e)

  pub resolved_unused : count ≤ j → 0 ≡ resolved_or b stored at count j
  resolved_unused h = simp (le-ltb _ _ h) refl

pub resolved_more : (b : List ℕ) (stored at count : ℕ) (found : List ℕ) (j v : ℕ) → Filled (replicate widest 0) (resolved_or b stored at count) widest found j → j < widest → v ≡ resolved_or b stored at count j → Filled (replicate widest 0) (resolved_or b stored at count) widest (set found j v) (j + 1)
resolved_more b stored at count found j v f h e =
    filled_more (replicate widest 0) (resolved_or b stored at count) widest found j v f h (omega (arith, length-replicate {A = ℕ} widest 0)) e

pub resolved_all : (b : List ℕ) (stored at count : ℕ) (found : List ℕ) (j : ℕ) → Filled (replicate widest 0) (resolved_or b stored at count) widest found j → widest ≤ j → count ≤ widest → found ≡ in_room widest (resolved_at b stored at) count
resolved_all b stored at count found j f h few =
    filled_room widest (resolved_or b stored at count) widest found j f h ∙ room_shorter widest (resolved_or b stored at count) (resolved_at b stored at) widest count few (omega arith) (λ i l. simp (lt-ltb _ _ l) refl) (λ i l m. simp (le-ltb _ _ l) refl)
