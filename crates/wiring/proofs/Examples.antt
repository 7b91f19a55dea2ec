-- 14 and 15 of small sheets, from the definitions.
use native.Mathlib.Omega.{arith}
use mathlib.Core.Path.{refl}
use mathlib.Core.List.{[], ◌∷◌}
use Rattle.sheet.specs.Bytes.{be16, be32}
use Rattle.sheet.specs.Format.{start}
use Rattle.wires.specs.Wires.{follow}
use Rattle.rows.specs.Named.{named, ShortWire, SheetWireLoop}

-- a wire without an input
pub no_input : ShortWire (0 ∷ 0 ∷ 0 ∷ 8 ∷ 1 ∷ 0 ∷ 1 ∷ 0 ∷ 7 ∷ 0 ∷ 0 ∷ 0 ∷ [])
unfolding be16 be32 start named
no_input = record { row = 0; of_sheet = omega arith; wire = record { is = refl }; counts = λ e. omega arith }

-- a wire with two, whatever its setting
pub two_inputs : ShortWire (0 ∷ 0 ∷ 0 ∷ 12 ∷ 1 ∷ 0 ∷ 1 ∷ 0 ∷ 7 ∷ 1 ∷ 2 ∷ 2 ∷ 0 ∷ 0 ∷ 0 ∷ 0 ∷ [])
unfolding be16 be32 start named
two_inputs = record { row = 0; of_sheet = omega arith; wire = record { is = refl }; counts = λ e. omega arith }

-- a wire that feeds itself
pub to_itself : SheetWireLoop (0 ∷ 0 ∷ 0 ∷ 10 ∷ 1 ∷ 0 ∷ 1 ∷ 0 ∷ 7 ∷ 0 ∷ 0 ∷ 1 ∷ 0 ∷ 0 ∷ [])
unfolding be16 be32 start named follow
to_itself = record { row = 0; of_sheet = omega arith; loop = record { wire = record { is = refl }; more = 0; back = refl } }

-- two wires that feed each other
pub round : SheetWireLoop (0 ∷ 0 ∷ 0 ∷ 17 ∷ 1 ∷ 0 ∷ 2 ∷ 0 ∷ 7 ∷ 0 ∷ 0 ∷ 1 ∷ 0 ∷ 1 ∷ 0 ∷ 7 ∷ 0 ∷ 0 ∷ 1 ∷ 0 ∷ 0 ∷ [])
unfolding be16 be32 start named follow
round = record { row = 0; of_sheet = omega arith; loop = record { wire = record { is = refl }; more = 1; back = refl } }
