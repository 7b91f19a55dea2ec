-- Capacities and shapes of 01 computed from the definitions, with room for four inputs a row.
use Prim.Native.Nat.{ℕ, zero, suc, ◌≤◌, ◌<◌}
use native.Mathlib.Omega.{arith}
use mathlib.Core.Path.{◌≡◌, refl}
use mathlib.Core.List.{List, [], ◌∷◌}
use mathlib.Core.Bool.{true, false}
use Rattle.std.specs.Prelude.{Some, None}
use Rattle.wires.specs.Wires.{is_wire}
use Rattle.store.specs.Layout.{row_word, label_of, count_of, input_of, capacity_of, capacity_answer}
use Rattle.store.specs.Sound.{RowShaped, Shaped}

pub capacities :
    (capacity_answer 4 0 ≡ None)
    × (capacity_answer 4 1 ≡ Some 0)
    × (capacity_answer 4 6 ≡ Some 0)
    × (capacity_answer 4 7 ≡ Some 1)
    × (capacity_answer 4 13 ≡ Some 2)
    × (capacity_answer 4 6200 ≡ Some 1024)
unfolding capacity_answer capacity_of
capacities = (refl, refl, refl, refl, refl, refl)

-- ---- rows of one input, such as holds

one_input : (w : List ℕ) (rows n : ℕ) → is_wire (label_of 4 w n) ≡ false → count_of 4 w n ≡ 1 → input_of 4 w n 0 < rows → input_of 4 w n 1 ≡ 0 → input_of 4 w n 2 ≡ 0 → input_of 4 w n 3 ≡ 0 → RowShaped 4 w rows n
one_input w rows n p c i a b d = record { plain = p; few = omega arith; used = used; unused = unused }
  where
    used : (j : ℕ) → j < count_of 4 w n → input_of 4 w n j < rows
    used j h = let e : j ≡ 0 = omega arith in rw e i

    unused : (j : ℕ) → count_of 4 w n ≤ j → j < 4 → input_of 4 w n j ≡ 0
    unused zero l h = absurd (omega arith)
    unused (suc zero) l h = a
    unused (suc (suc zero)) l h = b
    unused (suc (suc (suc zero))) l h = d
    unused (suc (suc (suc (suc j)))) l h = absurd (omega arith)

-- a hold of its own row
abbrev pub one_hold : List ℕ
one_hold = 1 ∷ 393216 ∷ 1 ∷ 0 ∷ 0 ∷ 0 ∷ 0 ∷ []

pub one_hold_shaped : Shaped 4 one_hold
unfolding row_word capacity_of
one_hold_shaped = record { fits = omega arith; rows = rows }
  where
    rows : (n : ℕ) → n < 1 → RowShaped 4 one_hold 1 n
    rows zero h = one_input one_hold 1 0 refl refl (omega arith) refl refl refl
    rows (suc n) h = absurd (omega arith)

-- two of them: the shape is fine, and they have one tree
abbrev pub two_holds : List ℕ
two_holds = 2 ∷ 393216 ∷ 1 ∷ 0 ∷ 0 ∷ 0 ∷ 0 ∷ 393216 ∷ 1 ∷ 1 ∷ 0 ∷ 0 ∷ 0 ∷ []

pub two_holds_shaped : Shaped 4 two_holds
unfolding row_word capacity_of
two_holds_shaped = record { fits = omega arith; rows = rows }
  where
    rows : (n : ℕ) → n < 2 → RowShaped 4 two_holds 2 n
    rows zero h = one_input two_holds 2 0 refl refl (omega arith) refl refl refl
    rows (suc zero) h = one_input two_holds 2 1 refl refl (omega arith) refl refl refl
    rows (suc (suc n)) h = absurd (omega arith)

-- ---- what breaks the shape

pub over_capacity : Shaped 4 (2 ∷ 393216 ∷ 1 ∷ 0 ∷ 0 ∷ 0 ∷ 0 ∷ []) → ⊥
unfolding capacity_of
over_capacity s = omega (arith, s.fits)

pub five_inputs_lem : Shaped 4 (1 ∷ 393216 ∷ 5 ∷ 0 ∷ 0 ∷ 0 ∷ 0 ∷ []) → ⊥
unfolding row_word
five_inputs_lem s = omega (arith, (s.rows 0 (omega arith)).few)

pub used_astray : Shaped 4 (1 ∷ 393216 ∷ 1 ∷ 1 ∷ 0 ∷ 0 ∷ 0 ∷ []) → ⊥
unfolding row_word
used_astray s = omega (arith, (s.rows 0 (omega arith)).used 0 (omega arith))

pub unused_set_lem : Shaped 4 (1 ∷ 393216 ∷ 1 ∷ 0 ∷ 7 ∷ 0 ∷ 0 ∷ []) → ⊥
unfolding row_word
unused_set_lem s = omega (arith, (s.rows 0 (omega arith)).unused 1 (omega arith) (omega arith))

pub wire_stored_lem : Shaped 4 (1 ∷ 458752 ∷ 1 ∷ 0 ∷ 0 ∷ 0 ∷ 0 ∷ []) → ⊥
unfolding row_word
wire_stored_lem s =
    let e : true ≡ false = (s.rows 0 (omega arith)).plain in
    let z : ◌≡◌ {A = ℕ} 0 1 = cc in
    omega arith
