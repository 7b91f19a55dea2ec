-- The duties hold.
use Prim.Native.Nat.{ℕ, ◌≤◌, ◌<◌}
use native.Mathlib.Omega.{arith}
use mathlib.Core.Path.{◌≡◌, refl}
use mathlib.Core.Bool.{Bool, false}
use mathlib.Core.List.{List}
use lib.ListN.{length, take}
use denote.Ref.{Bor}
use Rattle.rules.specs.Refusals.{Refusal, First, NoneOf, Numbered}
use Rattle.rules.proofs.Refusals.{done_none}
use Rattle.trees.specs.Agreement.{SameTree}
use Rattle.trees.specs.Paths.{Leads}
use Rattle.trees.proofs.Agreement.{same_refl, same_sym, same_trans}
use Rattle.sheet.specs.Format.{row_count_of}
use Rattle.sheet.proofs.Readable.{sheet_first}
use Rattle.sheet.proofs.Faults.{reader_says}
use Rattle.bundle.specs.Shown.{Shows}
use Rattle.bundle.proofs.Showing.{shows_unique}
use Rattle.store.specs.Layout.{in_use, word_at, row_word, store_graph, room}
use Rattle.store.specs.Sound.{Sound}
use Rattle.checking.specs.Check.{check_refusals}
use Rattle.checking.specs.Answers.{AnswerSays, answers_refused, answers_done}
use Rattle.checking.specs.declared.look.Answer.{Answer}
use Rattle.checking.proofs.Checking.{check_unique}
use Rattle.checking.proofs.Looking.{answer_unique}
use Rattle.inserting.specs.Insert.{insert_refusals, InsertDone, InsertSays, says_refused, says_done}
use Rattle.inserting.specs.declared.insertion.Inserted.{Inserted}
use Rattle.keys.specs.Sheets.{IsKey, KeySays}
use Rattle.keytest.proofs.Answering.{key_unique}
use Rattle.keying.specs.Written.{key_of, write_refusals, WriteSays, write_refused, write_done}
use Rattle.keying.specs.declared.Written.{Written}
use Rattle.keying.proofs.Keying.{write_number_lem, write_bytes}
use Rattle.comparing.specs.Refused.{compare_refusals}
use Rattle.parts.specs.Parts.{part_refusals}
use Rattle.duties.specs.Words.{sheet_trees, answer, OneRow}
use Rattle.duties.specs.Duties.{Duty1, Duty2, Duty3, OneOutcome}
use Rattle.duties.proofs.Done.{beside, answer_used, answer_tree, answer_only, old_words, old_tree, known_number, new_number, next_number, added_given}
use Rattle.duties.proofs.Outcome.{insert_fault, done_refuses_none, insert_first, insert_unique, stays_sound}
use Rattle.duties.proofs.Rooms.{no_room}
use Rattle.duties.proofs.WireNumbers.{wire_number}
use Rattle.duties.proofs.Keys.{keys_equal}
use Rattle.duties.proofs.Inserted.{key_known}
use Rattle.duties.proofs.Written.{Wrote, has_words, key_there, write_none, write_wrote, written_key, written_reads, written_equal, written_known}

-- ---- duty 1

-- what an insert tells beside its number
insert_none : {w b answers : List ℕ} {r : Inserted} {w' answers' : List ℕ} → InsertSays w b answers r w' answers' → r.number ≡ 0 → NoneOf (insert_refusals w b answers)
insert_none (says_refused f z o) e = absurd (z e)
insert_none (says_done d) e = done_refuses_none d

insert_store : {w b answers : List ℕ} {r : Inserted} {w' answers' : List ℕ} → InsertSays w b answers r w' answers' → (r.number ≡ 0 → ⊥) → w' ≡ w
insert_store (says_refused f z o) n = refl
insert_store (says_done d) n = absurd (n refl)

insert_answers : {w b answers : List ℕ} {r : Inserted} {w' answers' : List ℕ} → InsertSays w b answers r w' answers' → (r.number ≡ 0 → ⊥) → answers' ≡ answers
insert_answers (says_refused f z o) n = refl
insert_answers (says_done d) n = absurd (n refl)

insert_added : {w b answers : List ℕ} {r : Inserted} {w' answers' : List ℕ} → InsertSays w b answers r w' answers' → (r.number ≡ 0 → ⊥) → r.added ≡ 0
insert_added (says_refused f z o) n = refl
insert_added (says_done d) n = absurd (n refl)

-- and the writing of a key
write_first : {w old : List ℕ} {a : ℕ} {key : List ℕ} {k : Written} → WriteSays w a old k key → First (write_refusals w a old) k.number
write_first (write_refused f z) = f
write_first (write_done f) = f

write_key_lem : {w old : List ℕ} {a : ℕ} {key : List ℕ} {k : Written} → WriteSays w a old k key → (k.number ≡ 0 → ⊥) → key ≡ old
write_key_lem (write_refused f z) n = refl
write_key_lem (write_done f) n = absurd (n refl)

write_count_lem : {w old : List ℕ} {a : ℕ} {key : List ℕ} {k : Written} → WriteSays w a old k key → (k.number ≡ 0 → ⊥) → k.bytes ≡ 0
write_count_lem (write_refused f z) n = refl
write_count_lem (write_done f) n = absurd (n refl)

-- and a question on stores
module _ {list : List Refusal} {P : Type 0} where
  answer_first : {a : Answer} → AnswerSays list P a → First list a.number
  answer_first (answers_refused f z) = f
  answer_first (answers_done f s) = f

  answer_no : {a : Answer} → AnswerSays list P a → (a.number ≡ 0 → ⊥) → a.yes ≡ false
  answer_no (answers_refused f z) n = refl
  answer_no (answers_done f s) n = absurd (n refl)

  answer_none : {a : Answer} → Numbered list → AnswerSays list P a → a.number ≡ 0 → NoneOf list
  answer_none m (answers_refused f z) e = absurd (z e)
  answer_none m (answers_done f s) e = done_none m f

check_none : (w : List ℕ) {c : ℕ} → First (check_refusals w) c → c ≡ 0 → NoneOf (check_refusals w)
check_none w f e = done_none ((λ z. omega arith), ((λ z. omega arith), tt)) (rw e at f)

compare_numbered : (w : List ℕ) (row : ℕ) (v : List ℕ) (other : ℕ) → Numbered (compare_refusals w row v other)
compare_numbered w row v other = ((λ z. omega arith), ((λ z. omega arith), ((λ z. omega arith), ((λ z. omega arith), ((λ z. omega arith), tt)))))

part_numbered : (w : List ℕ) (row other : ℕ) → Numbered (part_refusals w row other)
part_numbered w row other = ((λ z. omega arith), ((λ z. omega arith), ((λ z. omega arith), tt)))

pub duty_one : {w v b answers buffer w' answers' buffer' : List ℕ} {row other c : ℕ} {i : Inserted} {k : Written} {s p : Answer} (checked : First (check_refusals w) c) (inserted : InsertSays w b answers i w' answers') (written : WriteSays w row buffer k buffer') (compared : AnswerSays (compare_refusals w row v other) (SameTree (store_graph room w) row (store_graph room v) other) s) (told : AnswerSays (part_refusals w row other) (Leads (store_graph room w) other row) p) → Duty1 checked inserted written compared told
duty_one {w} {v} {b = b} {row = row} {other = other} checked inserted written compared told =
    record {
      check_checks = check_none w checked;
      insert_checks = insert_none inserted;
      write_checks = write_none written;
      compare_checks = answer_none (compare_numbered w row v other) compared;
      part_checks = answer_none (part_numbered w row other) told;
      check_gives = checked;
      insert_number = insert_first inserted;
      write_gives = write_first written;
      compare_number = answer_first compared;
      part_number = answer_first told;
      store = insert_store inserted;
      list = insert_answers inserted;
      key = write_key_lem written;
      none_added = insert_added inserted;
      none_written = write_count_lem written;
      not_same = answer_no compared;
      no_part = answer_no told;
      place = insert_fault inserted;
      read_number = sheet_first b;
      read_place = reader_says b 0;
    }

-- ---- duty 2

module _ {w b answers w' answers' : List ℕ} {added : ℕ} (d : InsertDone w b answers w' answers' added) where
  one_row_lem : (i : ℕ) → i < row_count_of b → OneRow (sheet_trees b) i w' (answer answers' i)
  one_row_lem i h =
      record {
        used = answer_used d i h;
        tree = same_trans (beside d i h) (answer_tree d i h);
        only = λ m l t. answer_only d i m h l (same_trans (same_sym (beside d i h)) t);
      }

  known_row : (i m : ℕ) → i < row_count_of b → m < in_use w → SameTree (sheet_trees b) i (store_graph room w) m → answer answers' i ≡ m
  known_row i m h l t = known_number d i m h l (same_trans (same_sym (beside d i h)) t)

accepted : {w b answers : List ℕ} {r : Inserted} {w' answers' : List ℕ} → InsertSays w b answers r w' answers' → r.number ≡ 0 → InsertDone w b answers w' answers' r.added
accepted (says_refused f z o) e = absurd (z e)
accepted (says_done d) e = d

stays_words : {w b answers : List ℕ} {r : Inserted} {w' answers' : List ℕ} → InsertSays w b answers r w' answers' → (n : ℕ) → 0 < n → n < row_word room (in_use w) → word_at w' n ≡ word_at w n
stays_words (says_refused f z o) n h l = refl
stays_words (says_done d) n h l = old_words d n h l

stays_trees : {w b answers : List ℕ} {r : Inserted} {w' answers' : List ℕ} → InsertSays w b answers r w' answers' → (m : ℕ) → m < in_use w → SameTree (store_graph room w) m (store_graph room w') m
stays_trees {w} (says_refused f z o) m h = same_refl (store_graph room w) m
stays_trees (says_done d) m h = old_tree d m h

pub duty_two : {w b answers w' answers' : List ℕ} {r : Inserted} (inserted : InsertSays w b answers r w' answers') {v buffer key : List ℕ} {row : ℕ} {k : Written} (written : WriteSays v row buffer k key) → Duty2 inserted written
duty_two inserted written =
    record {
      numbers = λ e i h. one_row_lem (accepted inserted e) i h;
      old_words = stays_words inserted;
      old_trees = stays_trees inserted;
      old_numbers = λ e i m h l t. known_row (accepted inserted e) i m h l t;
      new_numbers = λ e i h a. new_number (accepted inserted e) i h a;
      next_numbers = λ e i n h a l q. next_number (accepted inserted e) i h a n l q;
      all_given = λ e n l q. added_given (accepted inserted e) n l q;
      wires = λ e i h x. wire_number (accepted inserted e) i h x;
      no_room = λ none. no_room none inserted;
      still_sound = λ s. stays_sound s inserted;
      is_key = λ e. written_key (write_wrote written e);
      read_back = λ e. written_reads (write_wrote written e);
    }

-- ---- duty 3

pub duty_three : {w v : List ℕ} {a b : ℕ} (sound : Sound room w) (used : a < in_use w) (sound' : Sound room v) (used' : b < in_use v) {buffer key buffer' key' : List ℕ} {k k' : Written} (written : WriteSays w a buffer k key) (long : length (key_of w a) ≤ length buffer) (written' : WriteSays v b buffer' k' key') (long' : length (key_of v b) ≤ length buffer') {answers v' answers' : List ℕ} {r : Inserted} (inserted : InsertSays v (take k.bytes key) answers r v' answers') (enough : row_count_of (take k.bytes key) ≤ length answers) {bytes list v'' list' : List ℕ} {i : Inserted} (is_key : IsKey bytes) (brought : InsertSays v bytes list i v'' list') (enough' : row_count_of bytes ≤ length list) → Duty3 sound used sound' used' written long written' long' inserted enough is_key brought enough'
duty_three {w} {v} {a} {b} sound used sound' used' {key = key} {key' = key'} {k = k} {k' = k'} written long written' long' inserted enough {bytes = bytes} is_key brought enough' =
    let x : Wrote w a k key = record { sound = sound; used = used; has = key_there sound used long written } in
    let y : Wrote v b k' key' = record { sound = sound'; used = used'; has = key_there sound' used' long' written' } in
    record {
      keys = keys_equal sound sound' used used';
      done = x.has.done;
      front = x.has.bytes;
      written_keys = written_equal x y;
      known = λ t. key_known v bytes is_key sound' used' t (has_words v b used') enough' brought;
      written_known = written_known x sound' used' enough inserted;
    }

-- ---- one outcome

pub one_outcome : {w v b answers buffer : List ℕ} {row other at : ℕ} {bundle : Bor (List ℕ)} {c c' : ℕ} (checked : First (check_refusals w) c) (checked' : First (check_refusals w) c') {i i' : Inserted} {x x' l l' : List ℕ} (inserted : InsertSays w b answers i x l) (inserted' : InsertSays w b answers i' x' l') {k k' : Written} {y y' : List ℕ} (written : WriteSays w row buffer k y) (written' : WriteSays w row buffer k' y') {t t' : Bool} (tested : KeySays b t) (tested' : KeySays b t') {s s' : Answer} (compared : AnswerSays (compare_refusals w row v other) (SameTree (store_graph room w) row (store_graph room v) other) s) (compared' : AnswerSays (compare_refusals w row v other) (SameTree (store_graph room w) row (store_graph room v) other) s') {p p' : Answer} (told : AnswerSays (part_refusals w row other) (Leads (store_graph room w) other row) p) (told' : AnswerSays (part_refusals w row other) (Leads (store_graph room w) other row) p') {d d' : Bor (List ℕ)} (shown : Shows bundle at d) (shown' : Shows bundle at d') → OneOutcome checked checked' inserted inserted' written written' tested tested' compared compared' told told' shown shown'
one_outcome {w} checked checked' inserted inserted' written written' tested tested' compared compared' told told' shown shown' =
    record {
      check = check_unique w checked checked';
      insert = insert_unique inserted inserted';
      keys_agree = write_number_lem written written';
      bytes_agree = write_bytes written written';
      is_key = key_unique tested.says tested'.says;
      compare = answer_unique compared compared';
      part_of = answer_unique told told';
      shows = shows_unique shown shown';
    }
