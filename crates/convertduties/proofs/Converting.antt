-- What converting is for, of every outcome that the contracts allow.
use Prim.Native.Nat.{ℕ, ◌<◌}
use mathlib.Core.Path.{◌≡◌, ◌∙◌}
use mathlib.Core.List.{List}
use lib.ListN.{length, take}
use Rattle.store.specs.Layout.{in_use, room}
use Rattle.store.specs.Sound.{Sound}
use Rattle.inserting.specs.Insert.{InsertDone, InsertSays, says_refused, says_done}
use Rattle.inserting.specs.declared.insertion.Inserted.{Inserted}
use Rattle.converts.specs.Convert.{result, ConvertDone, ConvertSays}
use Rattle.converts.specs.declared.outcome.Converted.{Converted}
use Rattle.converts.proofs.OneOutcome.{convert_first, convert_done, done_front, refused_stands, refused_none}
use Rattle.convertduties.specs.Converting.{Converting}
use Rattle.convertduties.proofs.Named.{names_alone}
use Rattle.convertduties.proofs.Faults.{convert_fault}
use Rattle.convertduties.proofs.Converted.{converted_alone, converted_taken, converted_inserted, converted_known}
use Rattle.convertduties.proofs.Itself.{converted_itself}

insert_done : {v c answers v' answers' : List ℕ} {r : Inserted} → InsertSays v c answers r v' answers' → r.number ≡ 0 → InsertDone v c answers v' answers' r.added
insert_done (says_refused f z o) e = absurd (z e)
insert_done (says_done d) e = d

module _ {w b out out' : List ℕ} {c : Converted} (converted : ConvertSays w b out c out') (z : c.number ≡ 0) where
  done : ConvertDone w b out out' c.bytes
  done = convert_done converted z

  front : take c.bytes out' ≡ result w b done.rows
  front = done_front done

module _ {w b out out' : List ℕ} {c : Converted} (converted : ConvertSays w b out c out') {v answers v' answers' : List ℕ} {r : Inserted} (sound : Sound room v) (words : 0 < length v) (inserted : InsertSays v (take c.bytes out') answers r v' answers') where
  brought : (z : c.number ≡ 0) → InsertSays v (result w b (done converted z).rows) answers r v' answers'
  brought z = rw (front converted z) at inserted

  pub converting : Converting converted sound words inserted
  converting =
      record {
        number = convert_first converted;
        place = convert_fault converted;
        buffer = refused_stands converted;
        none_written = refused_none converted;
        itself = λ z each none.
            let d = done converted z in
            front converted z ∙ (converted_itself d.readable (names_alone (in_use w) none d.leads) w each d.appended).1;
        alone = λ z. rw (front converted z) (converted_alone (done converted z));
        taken = λ z. rw (front converted z) (converted_taken (done converted z) sound words (brought z));
        numbers = λ z e. converted_inserted (done converted z) (insert_done (brought z) e);
        known = λ z e. converted_known (done converted z) (insert_done (brought z) e);
      }
