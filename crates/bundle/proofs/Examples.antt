-- Bundles of the rules' sheets, read by the definitions.
use Prim.Native.Nat.{ℕ}
use mathlib.Core.Path.{◌≡◌, refl}
use mathlib.Core.List.{List, [], ◌∷◌, ◌++◌}
use lib.ListN.{take}
use Rattle.sheet.specs.Bytes.{be16, be32}
use Rattle.sheet.specs.Bundle.{next_length}
use Rattle.sheet.proofs.Examples.{sheet_a, sheet_b, sheet_d}
use Rattle.bundle.specs.Shown.{shown_at, place_after}
use Rattle.bundle.specs.Reading.{place_reached, visited}

abbrev three : List ℕ
three = sheet_b ++ (sheet_a ++ sheet_d)

-- the third row: a bundle that ends within a fourth sheet. Then a reader at the end, past it, and at a length field of all ones
pub readings :
    (visited three 3 ≡ sheet_b ∷ sheet_a ∷ sheet_d ∷ [])
    × (place_reached three 4 ≡ 61)
    × (visited (three ++ take 13 sheet_a) 4 ≡ sheet_b ∷ sheet_a ∷ sheet_d ∷ [] ∷ [])
    × (place_reached (three ++ take 3 sheet_a) 4 ≡ 61)
    × (shown_at sheet_a 14 ≡ [])
    × (shown_at sheet_a 15 ≡ [])
    × (place_after sheet_a 15 ≡ 15)
    × (place_after (255 ∷ 255 ∷ 255 ∷ 255 ∷ sheet_a) 0 ≡ 0)
unfolding be16 be32 next_length shown_at place_after place_reached visited
readings = (refl, refl, refl, refl, refl, refl, refl, refl)
