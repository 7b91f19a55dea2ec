-- What converting is for. The head has all that is asked: what the converter gave back and left, and what an insert of the bytes that it wrote
-- gave back and left, as their contracts say it, into any sound store with words. A field says a sentence.
use Rattle.std.specs.Prelude.{ℕ, ◌+◌, ◌<◌, ◌≡◌, List, [], ◌∷◌, length, take}
use Rattle.rules.specs.Refusals.{Refusal, ◌when◌, First}
use Rattle.trees.specs.Agreement.{SameTree}
use Rattle.sheet.specs.Format.{row_count_of}
use Rattle.sheet.specs.Points.{PointsNowhere, NamesStore}
use Rattle.sheet.specs.Faults.{FaultSays}
use Rattle.store.specs.Layout.{in_use, store_graph, room}
use Rattle.store.specs.Sound.{Sound}
use Rattle.wires.specs.Wires.{skipping}
use Rattle.keys.specs.Bytes.{EachByte}
use Rattle.inserting.specs.Insert.{NoRoom, InsertSays}
use Rattle.inserting.specs.declared.insertion.Inserted.{Inserted}
use Rattle.fronting.specs.Together.{as_drawn}
use Rattle.converts.specs.Convert.{convert_refusals, ConvertSays}
use Rattle.converts.specs.declared.outcome.Converted.{Converted}
use Rattle.duties.specs.Words.{answer, OneRow}

-- what an insert may still be refused for: too few answers, and no room
abbrev pub refusals_left : (v c answers : List ℕ) → List Refusal
refusals_left v c answers = (7 when (length answers < row_count_of c)) ∷ (8 when NoRoom v c) ∷ []

pub record Converting
    {w b out out' : List ℕ} {c : Converted}
    (converted : ConvertSays w b out c out')
    {v answers v' answers' : List ℕ} {r : Inserted}
    (sound : Sound room v) (words : 0 < length v)
    (inserted : InsertSays v (take c.bytes out') answers r v' answers')
    : Type 0 where
  -- The number is the first of the list that applies, with the place of the fault, and a refusal writes nothing.
  pub number : First (convert_refusals w b out) c.number
  pub place : FaultSays b (in_use w) c.number c.place
  pub buffer : (c.number ≡ 0 → ⊥) → out' ≡ out
  pub none_written : (c.number ≡ 0 → ⊥) → c.bytes ≡ 0
  -- A sheet without store numbers is converted to itself, byte for byte.
  pub itself : c.number ≡ 0 → EachByte b → (NamesStore b → ⊥) → take c.bytes out' ≡ b
  -- What is written has no store numbers, and inserting it is refused with 7 or 8 only, or done.
  pub alone : c.number ≡ 0 → PointsNowhere (take c.bytes out') 0 → ⊥
  pub taken : c.number ≡ 0 → First (refusals_left v (take c.bytes out') answers) r.number
  -- Where that is done, each row of the old sheet has the number of the one store row with the tree that it had beside the old store,
  pub numbers : c.number ≡ 0 → r.number ≡ 0 → (i : ℕ) → i < row_count_of b → OneRow (skipping (as_drawn w b)) (in_use w + i) v' (answer answers' i)
  -- which is the number that the tree had, if the store had it, as the old store itself may have.
  pub known : c.number ≡ 0 → r.number ≡ 0 → (i m : ℕ) → i < row_count_of b → m < in_use v → SameTree (skipping (as_drawn w b)) (in_use w + i) (store_graph room v) m → answer answers' i ≡ m
