-- The program's store, the longest text, and the lines of the rules' example.
use Prim.Native.Nat.{ℕ, ◌-◌, ◌≤◌}
use native.Mathlib.Omega.{arith}
use mathlib.Core.Path.{◌≡◌, refl, ap}
use mathlib.Core.List.{List, [], ◌∷◌}
use lib.ListN.{length, length-append}
use Rattle.text.specs.Decimal.{digits_in, spaced}
use Rattle.bundle.specs.Reading.{place_reached}
use Rattle.bundle.proofs.Showing.{shown_past}
use Rattle.bundle.proofs.Reading.{place_inside}
use Rattle.store.specs.Layout.{in_use, capacity_of, room}
use Rattle.listing.specs.Lines.{line_of, rest_line}
use Rattle.listing.specs.Ran.{ran_none}
use Rattle.listing.specs.Prints.{empty_store, no_answers, most_text, Prints, prints_long, prints_walk}
use Rattle.listing.proofs.Lengths.{rest_few, ran_short}

-- the store is empty and has a capacity of 1,024, and the list has 1,024 entries
pub program_store : (in_use empty_store ≡ 0) × (capacity_of room (length empty_store) ≡ 1024) × (length no_answers ≡ 1024)
unfolding capacity_of
program_store = (refl, refl, refl)

-- no text is longer than the room for it
pub text_few : {input t : List ℕ} → Prints input t → length t ≤ most_text
text_few (prints_long l) = omega arith
text_few {input} (prints_walk l x) =
    let s = ran_short l x.ran in
    let i = place_inside input x.sheets in
    let left = length input - place_reached input x.sheets in
    omega (arith, s.short, ap length x.said, length-append x.lines (rest_line left), rest_few left (omega arith))

-- B, A, D in a row, and bytes left over
pub lines_as_text :
    (line_of 1 0 1 (0 ∷ 0 ∷ []) ≡ 49 ∷ 32 ∷ 48 ∷ 32 ∷ 49 ∷ 32 ∷ 48 ∷ 32 ∷ 48 ∷ 10 ∷ [])
    × (line_of 2 0 0 (0 ∷ []) ≡ 50 ∷ 32 ∷ 48 ∷ 32 ∷ 48 ∷ 32 ∷ 48 ∷ 10 ∷ [])
    × (line_of 3 0 3 (1 ∷ 2 ∷ 3 ∷ []) ≡ 51 ∷ 32 ∷ 48 ∷ 32 ∷ 51 ∷ 32 ∷ 49 ∷ 32 ∷ 50 ∷ 32 ∷ 51 ∷ 10 ∷ [])
    × (rest_line 12 ≡ 114 ∷ 101 ∷ 115 ∷ 116 ∷ 32 ∷ 49 ∷ 50 ∷ 10 ∷ [])
    × (rest_line 0 ≡ [])
unfolding digits_in spaced line_of rest_line
lines_as_text = (refl, refl, refl, refl, refl)

-- no input prints nothing
pub nothing_printed : Prints [] []
unfolding place_reached rest_line
nothing_printed =
    prints_walk (omega arith)
    (record { sheets = 0; lines = []; ran = ran_none; over = rw (shown_past [] 0 (omega arith)); said = refl })
