-- Wires skipped, computed from the definitions: a wire before a hold, a chain of wires, and a loop of wires.
use mathlib.Core.Path.{◌≡◌, refl}
use mathlib.Core.List.{[], ◌∷◌}
use lib.ListN.{get_or}
use Rattle.trees.specs.Graph.{Graph}
use Rattle.wires.specs.Wires.{follow, through, skipping}

-- rows 0 and 1 are wires to 1 and 2, row 2 is a hold of row 0, row 3 a wire to itself
abbrev drawn : Graph
drawn =
    record {
      label = λ u. get_or (458752 ∷ 458753 ∷ 393216 ∷ 458752 ∷ []) u 0;
      count = λ u. 1;
      input = λ u j. get_or (1 ∷ 2 ∷ 0 ∷ 3 ∷ []) u 0;
    }

pub skipped :
    ((skipping drawn).label 0 ≡ 393216)
    × ((skipping drawn).input 0 0 ≡ 0)
    × (through drawn 0 ≡ 2)
    × (through drawn 2 ≡ 2)
    × (through drawn 3 ≡ 3)
unfolding follow skipping
skipped = (refl, refl, refl, refl, refl)
