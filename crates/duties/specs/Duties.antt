-- The three duties of the register, and that each operation has one outcome. A record's head has all that is asked: what the operations
-- gave back and left, as their contracts say it, and where a duty speaks of sound stores, that they are. A field says a sentence.
use Rattle.std.specs.Prelude.{ℕ, ◌≤◌, ◌<◌, ◌≡◌, Bool, true, false, List, ◌↔◌, length, take}
use Rattle.std.specs.Borrow.{Bor}
use Rattle.rules.specs.Refusals.{First, NoneOf}
use Rattle.trees.specs.Agreement.{SameTree}
use Rattle.trees.specs.Paths.{Leads}
use Rattle.sheet.specs.Format.{row_count_of, label_at, input_at, start}
use Rattle.wires.specs.Wires.{is_wire}
use Rattle.bundle.specs.Shown.{Shows, SamePart}
use Rattle.store.specs.Layout.{in_use, word_at, row_word, store_graph, room}
use Rattle.store.specs.Sound.{Sound}
use Rattle.checking.specs.Check.{check_refusals}
use Rattle.checking.specs.Answers.{AnswerSays}
use Rattle.checking.specs.declared.look.Answer.{Answer}
use Rattle.sheet.specs.Faults.{FaultSays}
use Rattle.sheet.specs.Refusals.{sheet_refusals}
use Rattle.sheet.specs.Read.{read_sheet, number_of, fault_of}
use Rattle.inserting.specs.Insert.{insert_refusals, InsertSays}
use Rattle.inserting.specs.declared.insertion.Inserted.{Inserted}
use Rattle.keys.specs.Sheets.{sheet_graph, IsKey, KeySays}
use Rattle.keying.specs.Written.{key_of, write_refusals, WriteSays}
use Rattle.keying.specs.declared.Written.{Written}
use Rattle.comparing.specs.Refused.{compare_refusals}
use Rattle.parts.specs.Parts.{part_refusals}
use Rattle.duties.specs.Words.{sheet_trees, answer, OneRow, Appears, EarlierRow, Outnumber, listed_before, KeyKnown, SameOutcome}

-- of every store, sheet, number and buffer: nothing is asked of them. That the operations return is part of their proofs
pub record Duty1
    {w v b answers buffer w' answers' buffer' : List ℕ} {row other c : ℕ} {i : Inserted} {k : Written} {s p : Answer}
    (checked : First (check_refusals w) c)
    (inserted : InsertSays w b answers i w' answers')
    (written : WriteSays w row buffer k buffer')
    (compared : AnswerSays (compare_refusals w row v other) (SameTree (store_graph room w) row (store_graph room v) other) s)
    (told : AnswerSays (part_refusals w row other) (Leads (store_graph room w) other row) p)
    : Type 0 where
  -- It takes every store, sheet, number and buffer, checks them itself and returns: where it is done, nothing listed was wrong.
  pub check_checks : c ≡ 0 → NoneOf (check_refusals w)
  pub insert_checks : i.number ≡ 0 → NoneOf (insert_refusals w b answers)
  pub write_checks : k.number ≡ 0 → NoneOf (write_refusals w row buffer)
  pub compare_checks : s.number ≡ 0 → NoneOf (compare_refusals w row v other)
  pub part_checks : p.number ≡ 0 → NoneOf (part_refusals w row other)
  -- A refusal gives the listed number, the first that applies,
  pub check_gives : First (check_refusals w) c
  pub insert_number : First (insert_refusals w b answers) i.number
  pub write_gives : First (write_refusals w row buffer) k.number
  pub compare_number : First (compare_refusals w row v other) s.number
  pub part_number : First (part_refusals w row other) p.number
  -- and changes no word of the store, the answer list or the key buffer.
  pub store : (i.number ≡ 0 → ⊥) → w' ≡ w
  pub list : (i.number ≡ 0 → ⊥) → answers' ≡ answers
  pub key : (k.number ≡ 0 → ⊥) → buffer' ≡ buffer
  -- Beside its number it gives no rows added, no bytes written, and no.
  pub none_added : (i.number ≡ 0 → ⊥) → i.added ≡ 0
  pub none_written : (k.number ≡ 0 → ⊥) → k.bytes ≡ 0
  pub not_same : (s.number ≡ 0 → ⊥) → s.yes ≡ false
  pub no_part : (p.number ≡ 0 → ⊥) → p.yes ≡ false
  -- Of a sheet it says where it is wrong: the byte at which the fault starts with 3 to 6, and 0 with every other number.
  pub place : FaultSays b 0 i.number i.place
  pub read_number : First (sheet_refusals b) (number_of (read_sheet b))
  pub read_place : FaultSays b 0 (number_of (read_sheet b)) (fault_of (read_sheet b))

-- of a sheet inserted into a store, and of a key written. A sheet has no store numbers, and so its rows have their trees whatever the store
pub record Duty2
    {w b answers w' answers' : List ℕ} {r : Inserted}
    (inserted : InsertSays w b answers r w' answers')
    {v buffer key : List ℕ} {row : ℕ} {k : Written}
    (written : WriteSays v row buffer k key)
    : Type 0 where
  -- Each row of an accepted sheet gets the number of the one store row with its tree.
  pub numbers : r.number ≡ 0 → (i : ℕ) → i < row_count_of b → OneRow (sheet_trees b) i w' (answer answers' i)
  -- Old rows and numbers stay;
  pub old_words : (n : ℕ) → 0 < n → n < row_word room (in_use w) → word_at w' n ≡ word_at w n
  pub old_trees : (m : ℕ) → m < in_use w → SameTree (store_graph room w) m (store_graph room w') m
  pub old_numbers : r.number ≡ 0 → (i m : ℕ) → i < row_count_of b → m < in_use w → SameTree (sheet_trees b) i (store_graph room w) m → answer answers' i ≡ m
  -- new trees take the next numbers in order of first appearance.
  pub new_numbers : r.number ≡ 0 → (i : ℕ) → i < row_count_of b → Appears w b i → in_use w ≤ answer answers' i
  pub next_numbers : r.number ≡ 0 → (i n : ℕ) → i < row_count_of b → Appears w b i → in_use w ≤ n → n < answer answers' i → EarlierRow answers' i n
  pub all_given : r.number ≡ 0 → (n : ℕ) → in_use w ≤ n → n < in_use w' → EarlierRow answers' (row_count_of b) n
  -- A wire row gets the number of what it leads to.
  pub wires : r.number ≡ 0 → (i : ℕ) → i < row_count_of b → is_wire (label_at b (start b i)) ≡ true → answer answers' i ≡ answer answers' (input_at b (start b i) 0)
  -- With nothing listed before it wrong, "no room" is given exactly when the new distinct trees outnumber the free rows.
  pub no_room : NoneOf (listed_before w b answers) → (r.number ≡ 8) ↔ Outnumber w b
  -- (Whatever the outcome, a sound store stays sound.)
  pub still_sound : Sound room w → Sound room w'
  -- A key read back yields its tree.
  pub is_key : k.number ≡ 0 → IsKey (take k.bytes key)
  pub read_back : k.number ≡ 0 → SameTree (store_graph room v) row (sheet_graph (take k.bytes key)) 0

-- of rows of any two sound stores, whose keys are written into buffers long enough, and of the second store into which the first key is inserted,
-- or any bytes that are a key, with answer lists long enough
pub record Duty3
    {w v : List ℕ} {a b : ℕ}
    (sound : Sound room w) (used : a < in_use w) (sound' : Sound room v) (used' : b < in_use v)
    {buffer key buffer' key' : List ℕ} {k k' : Written}
    (written : WriteSays w a buffer k key) (long : length (key_of w a) ≤ length buffer)
    (written' : WriteSays v b buffer' k' key') (long' : length (key_of v b) ≤ length buffer')
    {answers v' answers' : List ℕ} {r : Inserted}
    (inserted : InsertSays v (take k.bytes key) answers r v' answers') (enough : row_count_of (take k.bytes key) ≤ length answers)
    {bytes list v'' list' : List ℕ} {i : Inserted}
    (is_key : IsKey bytes) (brought : InsertSays v bytes list i v'' list') (enough' : row_count_of bytes ≤ length list)
    : Type 0 where
  -- Keys of rows of any two sound stores are equal byte for byte exactly when the rows agree at every depth:
  pub keys : SameTree (store_graph room w) a (store_graph room v) b ↔ (key_of w a ≡ key_of v b)
  -- the bytes written are the key, and so they are equal when the keys are.
  pub done : k.number ≡ 0
  pub front : take k.bytes key ≡ key_of w a
  pub written_keys : SameTree (store_graph room w) a (store_graph room v) b ↔ (take k.bytes key ≡ take k'.bytes key')
  -- A key inserted into a sound store that has the tree gives its number for row 0 and adds no row.
  pub known : SameTree (sheet_graph bytes) 0 (store_graph room v) b → KeyKnown v b i v'' list'
  pub written_known : SameTree (store_graph room w) a (store_graph room v) b → KeyKnown v b r v' answers'

-- of two outcomes that the contract of an operation allows. The other operations on bundles have a value each; the calls for C and the program
-- stand on these
pub record OneOutcome
    {w v b answers buffer : List ℕ} {row other at : ℕ} {bundle : Bor (List ℕ)}
    {c c' : ℕ} (checked : First (check_refusals w) c) (checked' : First (check_refusals w) c')
    {i i' : Inserted} {x x' l l' : List ℕ} (inserted : InsertSays w b answers i x l) (inserted' : InsertSays w b answers i' x' l')
    {k k' : Written} {y y' : List ℕ} (written : WriteSays w row buffer k y) (written' : WriteSays w row buffer k' y')
    {t t' : Bool} (tested : KeySays b t) (tested' : KeySays b t')
    {s s' : Answer}
    (compared : AnswerSays (compare_refusals w row v other) (SameTree (store_graph room w) row (store_graph room v) other) s)
    (compared' : AnswerSays (compare_refusals w row v other) (SameTree (store_graph room w) row (store_graph room v) other) s')
    {p p' : Answer}
    (told : AnswerSays (part_refusals w row other) (Leads (store_graph room w) other row) p)
    (told' : AnswerSays (part_refusals w row other) (Leads (store_graph room w) other row) p')
    {d d' : Bor (List ℕ)} (shown : Shows bundle at d) (shown' : Shows bundle at d')
    : Type 0 where
  -- Two outcomes that one public contract allows are equal.
  pub check : c ≡ c'
  pub insert : SameOutcome i i' x x' l l'
  pub keys_agree : k ≡ k'
  pub bytes_agree : y ≡ y'
  pub is_key : t ≡ t'
  pub compare : s ≡ s'
  pub part_of : p ≡ p'
  pub shows : SamePart d d'
