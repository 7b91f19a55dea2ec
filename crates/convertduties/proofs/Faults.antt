-- The place that the converter gives is the one that the words name, by the rule that the sheet was drawn under.
use Prim.Native.Nat.{ℕ}
use native.Mathlib.Omega.{arith}
use mathlib.Core.Path.{◌≡◌}
use mathlib.Core.List.{List, [], ◌∷◌, ◌++◌}
use lib.ListN.{length}
use Rattle.rules.specs.Refusals.{◌when◌}
use Rattle.sheet.specs.Faults.{FaultSays, at_none}
use Rattle.store.specs.Layout.{in_use, room}
use Rattle.store.specs.Sound.{Sound}
use Rattle.sheet.specs.Front.{old_sheet_list}
use Rattle.sheet.proofs.Faults.{old_fault_says}
use Rattle.fronting.specs.Front.{wire_list}
use Rattle.converts.specs.Convert.{TooManyRows, ShortBuffer, ConvertSays, says_refused, says_done}
use Rattle.converts.specs.declared.outcome.Converted.{Converted}
use Rattle.duties.proofs.Outcome.{fault_among}

pub convert_fault : {w b out out' : List ℕ} {r : Converted} → ConvertSays w b out r out' → FaultSays b (in_use w) r.number r.place
convert_fault {w} {b} {out} (says_refused f z o) =
    rw o
    (fault_among b (in_use w)
    ((1 when (length w ≡ 0)) ∷ (2 when (Sound room w → ⊥)) ∷ [])
    (old_sheet_list b (in_use w))
    (wire_list b ++ ((20 when TooManyRows w b) ∷ (10 when ShortBuffer w b out) ∷ []))
    (λ n p. old_fault_says b (in_use w) p)
    (λ i k. omega arith, (λ i k. omega arith, tt))
    (λ i k. omega arith, (λ i k. omega arith, (λ i k. omega arith, (λ i k. omega arith, tt))))
    f.first)
convert_fault (says_done d) = at_none {number = 0} (λ i k. omega arith)
