-- A strict insert has one outcome: its number is the first that applies, its place the one that the words name, and done it is the plain insert.
use Prim.Native.Nat.{ℕ, ◌<◌}
use native.Mathlib.Omega.{arith}
use mathlib.Core.Path.{◌≡◌, refl}
use mathlib.Core.List.{List, [], ◌∷◌, ◌++◌}
use lib.ListN.{length}
use Rattle.rules.specs.Refusals.{◌when◌, First}
use Rattle.rules.proofs.Refusals.{first_unique}
use Rattle.sheet.specs.Faults.{FaultSays, at_none}
use Rattle.sheet.specs.Format.{row_count_of}
use Rattle.store.specs.Layout.{room}
use Rattle.store.specs.Sound.{Sound}
use Rattle.sheet.specs.Front.{sheet_list}
use Rattle.sheet.proofs.Faults.{fault_says}
use Rattle.fronting.specs.Front.{wire_list}
use Rattle.inserting.specs.Insert.{NoRoom, InsertSays, says_done}
use Rattle.inserting.specs.declared.insertion.Inserted.{Inserted}
use Rattle.duties.specs.Words.{SameOutcome}
use Rattle.duties.proofs.Outcome.{insert_unique, fault_among}
use Rattle.strict.specs.Strict.{verdicts, strict_refusals, StrictSays, strict_refused, strict_done}

-- the number given is the first of the list that applies, or 0
pub strict_first : {w b answers : List ℕ} {r : Inserted} {w' answers' : List ℕ} → StrictSays w b answers r w' answers' → First (strict_refusals w b answers) r.number
strict_first (strict_refused f z p) = f
strict_first (strict_done f d) = f

-- two outcomes of one strict insert are equal
pub strict_unique : {w b answers : List ℕ} {r s : Inserted} {v v' a a' : List ℕ} → StrictSays w b answers r v a → StrictSays w b answers s v' a' → SameOutcome r s v v' a a'
strict_unique (strict_refused f z p) (strict_refused g y q) = let e = first_unique f g in record { result = rw (p, q, e); store = refl; answers = refl }
strict_unique (strict_refused f z p) (strict_done g d) = absurd (z (first_unique f g))
strict_unique (strict_done f d) (strict_refused g y q) = absurd (y (first_unique g f))
strict_unique (strict_done f d) (strict_done g x) = insert_unique (says_done d) (says_done x)

-- a strict insert that is done is the plain insert done, with the same outcome
pub strict_plain : {w b answers : List ℕ} {r : Inserted} {w' answers' : List ℕ} → StrictSays w b answers r w' answers' → r.number ≡ 0 → InsertSays w b answers r w' answers'
strict_plain (strict_refused f z p) e = absurd (z e)
strict_plain (strict_done f d) e = says_done d

-- ---- the place given is the one that the words name

pub strict_fault : {w b answers : List ℕ} {r : Inserted} {w' answers' : List ℕ} → StrictSays w b answers r w' answers' → FaultSays b 0 r.number r.place
strict_fault {w} {b} {answers} (strict_refused f z o) =
    rw o
    (fault_among b 0
    ((1 when (length w ≡ 0)) ∷ (2 when (Sound room w → ⊥)) ∷ [])
    (sheet_list b)
    (wire_list b ++ (verdicts b ++ ((7 when (length answers < row_count_of b)) ∷ (8 when NoRoom w b) ∷ [])))
    (λ n p. fault_says b p)
    (λ i k. omega arith, (λ i k. omega arith, tt))
    (λ i k. omega arith, (λ i k. omega arith, (λ i k. omega arith, (λ i k. omega arith, (λ i k. omega arith, (λ i k. omega arith, tt))))))
    f.first)
strict_fault (strict_done f d) = at_none {number = 0} (λ i k. omega arith)
