-- The examples of 01 that speak of reading, computed from the definitions.
use Prim.Native.Nat.{ℕ}
use mathlib.Core.Path.{◌≡◌, refl}
use mathlib.Core.List.{List, [], ◌∷◌, ◌++◌}
use lib.ListN.{replicate, take, drop}
use Rattle.rules.specs.Writes.{over_front}
use Rattle.rules.specs.Lists.{firsts, in_room}
use Rattle.sheet.specs.Bytes.{be16, be32}
use Rattle.sheet.specs.Format.{start, input_at}
use Rattle.sheet.specs.Read.{fault, limit_of, row_fits, rows_from, by_limit, read_sheet}
use Rattle.sheet.specs.Points.{points_to, inputs_point, rows_point}
use Rattle.sheet.specs.Bundle.{next_length}
use Rattle.std.specs.Prelude.{Some, None, Ok, Err}

-- A: a one-turn hold
abbrev pub sheet_a : List ℕ
sheet_a = 0 ∷ 0 ∷ 0 ∷ 10 ∷ 1 ∷ 0 ∷ 1 ∷ 0 ∷ 6 ∷ 0 ∷ 0 ∷ 1 ∷ 0 ∷ 0 ∷ []

-- B: the same loop drawn in two turns
abbrev pub sheet_b : List ℕ
sheet_b = 0 ∷ 0 ∷ 0 ∷ 17 ∷ 1 ∷ 0 ∷ 2 ∷ 0 ∷ 6 ∷ 0 ∷ 0 ∷ 1 ∷ 0 ∷ 1 ∷ 0 ∷ 6 ∷ 0 ∷ 0 ∷ 1 ∷ 0 ∷ 0 ∷ []

-- D: channel 1 less constant 40
abbrev pub sheet_d : List ℕ
sheet_d =
    0 ∷ 0 ∷ 0 ∷ 22 ∷ 1 ∷ 0 ∷ 3
    ∷ 0 ∷ 3 ∷ 0 ∷ 0 ∷ 2 ∷ 0 ∷ 1 ∷ 0 ∷ 2
    ∷ 0 ∷ 1 ∷ 0 ∷ 1 ∷ 0
    ∷ 0 ∷ 2 ∷ 0 ∷ 40 ∷ 0 ∷ []

abbrev pub empty_sheet : List ℕ
empty_sheet = 0 ∷ 0 ∷ 0 ∷ 3 ∷ 1 ∷ 0 ∷ 0 ∷ []

-- one row, with so many inputs of row 0
abbrev one_row : ℕ → ℕ → List ℕ
one_row follow inputs = 0 ∷ 0 ∷ 0 ∷ follow ∷ 1 ∷ 0 ∷ 1 ∷ 0 ∷ 4 ∷ 0 ∷ 0 ∷ inputs ∷ replicate 10 0

-- a one-row difference of two rows of the store
abbrev of_store : List ℕ
of_store = 0 ∷ 0 ∷ 0 ∷ 12 ∷ 1 ∷ 0 ∷ 1 ∷ 0 ∷ 3 ∷ 0 ∷ 0 ∷ 2 ∷ 128 ∷ 0 ∷ 128 ∷ 1 ∷ []

pub reading :
    (read_sheet sheet_a ≡ Ok 1)
    × (read_sheet sheet_b ≡ Ok 2)
    × (read_sheet sheet_d ≡ Ok 3)
    × (read_sheet empty_sheet ≡ Ok 0)
    × (read_sheet (take 6 empty_sheet) ≡ Err (fault 3 0))
    × (read_sheet (0 ∷ 0 ∷ 0 ∷ 4 ∷ 2 ∷ 0 ∷ 0 ∷ []) ≡ Err (fault 3 0))
    × (read_sheet (0 ∷ 0 ∷ 0 ∷ 3 ∷ 2 ∷ 0 ∷ 0 ∷ []) ≡ Err (fault 4 4))
    × (read_sheet (0 ∷ 0 ∷ 0 ∷ 3 ∷ 1 ∷ 4 ∷ 1 ∷ []) ≡ Err (fault 5 5))
    × (read_sheet (take 20 (one_row 16 4)) ≡ Ok 1)
    × (read_sheet (one_row 18 5) ≡ Err (fault 5 7))
    × (read_sheet (one_row 18 4) ≡ Err (fault 5 20))
    × (read_sheet (take 13 sheet_a) ≡ Err (fault 3 0))
    × (read_sheet (0 ∷ 0 ∷ 0 ∷ 17 ∷ 1 ∷ 0 ∷ 3 ∷ drop 7 sheet_b) ≡ Err (fault 5 21))
unfolding be16 be32 limit_of row_fits rows_from by_limit read_sheet
reading = (refl, refl, refl, refl, refl, refl, refl, refl, refl, refl, refl, refl, refl)

pub places : (firsts (start sheet_d) 3 ≡ 7 ∷ 16 ∷ 21 ∷ []) × (in_room 4 (input_at sheet_d 7) 2 ≡ 1 ∷ 2 ∷ 0 ∷ 0 ∷ [])
unfolding be16 start firsts in_room over_front
places = (refl, refl)

-- with two rows in use the store numbers lead somewhere; with one the second does not, and with none the first
pub pointing :
    (rows_point sheet_d 3 0 3 7 ≡ None)
    × (rows_point of_store 1 2 1 7 ≡ None)
    × (rows_point of_store 1 1 1 7 ≡ Some 14)
    × (rows_point of_store 1 0 1 7 ≡ Some 12)
    × (rows_point sheet_d 2 0 3 7 ≡ Some 14)
unfolding be16 points_to inputs_point rows_point
pointing = (refl, refl, refl, refl, refl)

-- sheets one after another; cut in the length field; cut in the body; a length field of all ones
pub bundles :
    (next_length (sheet_b ++ sheet_a) ≡ 21)
    × (next_length sheet_a ≡ 14)
    × (next_length [] ≡ 0)
    × (next_length (0 ∷ 0 ∷ 0 ∷ []) ≡ 0)
    × (next_length (0 ∷ 0 ∷ 0 ∷ 0 ∷ []) ≡ 4)
    × (next_length (take 13 sheet_a) ≡ 0)
    × (next_length (255 ∷ 255 ∷ 255 ∷ 255 ∷ sheet_a) ≡ 0)
unfolding be16 be32 next_length
bundles = (refl, refl, refl, refl, refl, refl, refl)
