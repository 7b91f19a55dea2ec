-- Joined views computed from the definitions: a row of an old sheet that names rows of the store, one that names rows of its sheet, and wires.
use Prim.Native.Nat.{ℕ}
use mathlib.Core.Path.{◌≡◌, refl}
use mathlib.Core.List.{List, [], ◌∷◌}
use Rattle.rules.specs.Lists.{firsts, in_room}
use Rattle.rules.specs.Writes.{over_front}
use Rattle.trees.specs.Graph.{Graph}
use Rattle.sheet.specs.Bytes.{be16, be32}
use Rattle.sheet.specs.Format.{start}
use Rattle.sheet.proofs.Examples.{sheet_d}
use Rattle.store.specs.Layout.{row_word}
use Rattle.wires.specs.Wires.{follow, skipping}
use Rattle.rows.specs.Joined.{source, leads_to, drawn, joined, spot, row_in}

-- channel 1, constant 40, and their difference
abbrev pub three_stored : List ℕ
three_stored =
    3
    ∷ 65537 ∷ 0 ∷ 0 ∷ 0 ∷ 0 ∷ 0
    ∷ 131112 ∷ 0 ∷ 0 ∷ 0 ∷ 0 ∷ 0
    ∷ 196608 ∷ 2 ∷ 0 ∷ 1 ∷ 0 ∷ 0 ∷ []

-- one row, the difference of rows 0 and 1 of the store
abbrev pub of_store : List ℕ
of_store = 0 ∷ 0 ∷ 0 ∷ 12 ∷ 1 ∷ 0 ∷ 1 ∷ 0 ∷ 3 ∷ 0 ∷ 0 ∷ 2 ∷ 128 ∷ 0 ∷ 128 ∷ 1 ∷ []

abbrev pub with_store : Graph
with_store = joined (source 4 three_stored 3 of_store)

abbrev pub with_d : Graph
with_d = joined (source 4 three_stored 3 sheet_d)

-- the sheet's row is row 3, and names rows 0 and 1, as the store's row 2 does
pub naming_store :
    (with_store.label 3 ≡ 196608)
    × (with_store.count 3 ≡ 2)
    × (with_store.input 3 0 ≡ 0)
    × (with_store.input 3 1 ≡ 1)
    × (row_in with_store 3 ≡ row_in with_store 2)
unfolding be16 be32 start row_word firsts over_front in_room leads_to drawn joined follow skipping row_in
naming_store = (refl, refl, refl, refl, refl)

-- D's rows are rows 3 to 5: row 3 names rows 1 and 2 of its sheet
pub naming_sheet :
    (with_d.label 3 ≡ 196608)
    × (with_d.input 3 0 ≡ 4)
    × (with_d.input 3 1 ≡ 5)
    × (with_d.label 4 ≡ 65537)
    × (with_d.label 5 ≡ 131112)
unfolding be16 be32 start row_word leads_to drawn joined follow skipping
naming_sheet = (refl, refl, refl, refl, refl)

-- an old sheet: a wire to row 2 of the store, a wire to row 2 of the sheet, and a hold of the first wire
abbrev pub wired : List ℕ
wired =
    0 ∷ 0 ∷ 0 ∷ 24 ∷ 1 ∷ 0 ∷ 3
    ∷ 0 ∷ 7 ∷ 0 ∷ 0 ∷ 1 ∷ 128 ∷ 2
    ∷ 0 ∷ 7 ∷ 0 ∷ 0 ∷ 1 ∷ 0 ∷ 2
    ∷ 0 ∷ 6 ∷ 0 ∷ 0 ∷ 1 ∷ 0 ∷ 0 ∷ []

abbrev pub with_wires : Graph
with_wires = joined (source 4 three_stored 3 wired)

-- each row is read where its wires lead to; the hold's input is the wire, as it is drawn
pub skipping_wires :
    (with_wires.label 3 ≡ 196608)
    × (with_wires.input 3 1 ≡ 1)
    × (with_wires.label 4 ≡ 393216)
    × (with_wires.input 4 0 ≡ 3)
    × (with_wires.input 5 0 ≡ 3)
    × (spot (source 4 three_stored 3 wired) 1 ≡ 21)
    × (spot (source 4 three_stored 3 wired) 2 ≡ 21)
unfolding be16 be32 start row_word leads_to drawn joined follow skipping
skipping_wires = (refl, refl, refl, refl, refl, refl, refl)
