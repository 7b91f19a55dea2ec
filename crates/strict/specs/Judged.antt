-- Inner: what judging a sheet answers, before it is inserted.
use Rattle.std.specs.Prelude.{ℕ, ◌≡◌, List, [], ◌∷◌, Result, Ok, Err, ⊤}
use Rattle.rules.specs.Refusals.{First, NoneOf}
use Rattle.sheet.specs.Faults.{fault_at}
use Rattle.strict.specs.Strict.{verdicts}
use Rattle.sheet.specs.declared.fault.Fault.{Fault}

-- refused with 12 or 13, the first that applies; or neither applies
pub data JudgedSays (b : List ℕ) : Result ⊤ Fault → Type 0 where
  judged_refused : {f : Fault} → First (verdicts b) f.number → (f.number ≡ 0 → ⊥) → f.place ≡ fault_at f.number b 0 → JudgedSays b (Err f)
  judged_fine : NoneOf (verdicts b) → JudgedSays b (Ok tt)

-- the number of the table that each answer has, and its values: the byte at which the fault starts
abbrev pub judged_number : Result ⊤ Fault → ℕ
judged_number (Err f) = f.number
judged_number (Ok x) = 0

abbrev pub judged_values : Result ⊤ Fault → List ℕ
judged_values (Err f) = f.place ∷ []
judged_values (Ok x) = []
