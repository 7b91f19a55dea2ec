-- What is shown at a place lies within the bundle; past the end it is the empty part.
use Prim.Native.Nat.{ℕ, ◌+◌, ◌-◌, ◌≤◌, ◌<◌}
use native.Mathlib.Omega.{arith}
use native.Mathlib.Decide.{dec_le}
use mathlib.Core.Path.{◌≡◌, sym, ap, ◌∙◌}
use mathlib.Core.List.{List, []}
use lib.ListN.{length, take, drop, length-take, length-drop, drop_of_length-le}
use lib.Seq.{take-nil, take_all, drop-length}
use denote.Ref.{Bor}
use Rattle.sheet.specs.Bundle.{next_length, NextSheet}
use Rattle.bundle.specs.Shown.{shown_at, Shows, SamePart, place_after}

module _ (bundle : List ℕ) (at : ℕ) where
  pub shown_past : length bundle ≤ at → shown_at bundle at ≡ []
  unfolding shown_at
  shown_past h = rw (drop_of_length-le bundle h, take-nil)

  pub shown_within : at ≤ length bundle → at + length (shown_at bundle at) ≤ length bundle
  unfolding shown_at
  shown_within h = simp (length-take, length-drop) (omega arith)

  -- what is left from a place on, and the next sheet of it
  pub shown_rest : (rest part : List ℕ) → at ≤ length bundle → rest ≡ take (length bundle - at) (drop at bundle) → part ≡ take (next_length rest) rest → part ≡ shown_at bundle at
  unfolding shown_at
  shown_rest rest part h r p =
      let l : length (drop at bundle) ≤ length bundle - at = simp length-drop (omega arith) in
      let q : rest ≡ drop at bundle = r ∙ take_all _ _ l in
      rw q at p

  pub place_past : length bundle ≤ at → place_after bundle at ≡ at
  unfolding place_after
  place_past h = rw (shown_past h) (omega arith)

  -- on the empty part the reader stays where it is
  pub place_stays : length (shown_at bundle at) ≡ 0 → place_after bundle at ≡ at
  unfolding place_after
  place_stays e = omega (arith, e)

  -- a reader that moves has less of the bundle before it
  pub moves_less : {to : ℕ} → to ≡ place_after bundle at → (to ≡ at → ⊥) → length bundle - to < length bundle - at
  unfolding place_after
  moves_less {to} m n = go (dec_le at (length bundle))
    where
      go : Dec (at ≤ length bundle) → length bundle - to < length bundle - at
      go (yes h) = omega (arith, shown_within h)
      go (no h) = absurd (n (m ∙ place_past (omega arith)))

-- ---- two parts that the contract allows are the same bytes at the same place

pub shows_unique : {bundle p q : Bor (List ℕ)} {at : ℕ} → Shows bundle at p → Shows bundle at q → SamePart p q
shows_unique s t = record { places = s.place ∙ sym t.place; bytes = s.bytes ∙ sym t.bytes }

-- ---- the two ways out of `shown_at`
module _ (bundle part : Bor (List ℕ)) (at : ℕ) where
  pub shows_past : length bundle.now ≤ at → part.now ≡ take (length bundle.now - length bundle.now) (drop (length bundle.now) bundle.now) → part.ref_ptr ≡ (bundle.ref_ptr.0, length bundle.now + bundle.ref_ptr.1) → Shows bundle at part
  shows_past h e p =
      record {
        bytes = rw (shown_past bundle.now at h) (rw (drop-length, take-nil) at e);
        place = p ∙ ap (λ (o : ℕ). (bundle.ref_ptr.0, o)) (omega arith);
      }

  pub shows_rest : {rest : Bor (List ℕ)} → at ≤ length bundle.now → rest.now ≡ take (length bundle.now - at) (drop at bundle.now) → rest.ref_ptr ≡ (bundle.ref_ptr.0, at + bundle.ref_ptr.1) → NextSheet rest part → Shows bundle at part
  shows_rest h r p n =
      record {
        bytes = shown_rest _ _ _ _ h r n.bytes;
        place = n.place ∙ p ∙ ap (λ (o : ℕ). (bundle.ref_ptr.0, o)) (omega arith);
      }

-- ---- the two ways out of `place_after`

pub past_stays : (bundle : List ℕ) (at : ℕ) → length bundle < at → at ≡ place_after bundle at
past_stays bundle at h = sym (place_past bundle at (omega arith))

module _ {bundle part : Bor (List ℕ)} {at : ℕ} (s : Shows bundle at part) where
  pub shows_within : at ≤ length bundle.now → at + length part.now ≤ length bundle.now
  shows_within h = rw s.bytes (shown_within _ _ h)

  pub shows_after : {r : ℕ} → r ≡ at + length part.now → r ≡ place_after bundle.now at
  unfolding place_after
  shows_after e = e ∙ ap (λ (l : List ℕ). at + length l) s.bytes
