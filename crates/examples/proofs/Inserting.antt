-- What inserting a sheet gives back and leaves, reckoned; and that the contract allows this outcome and no other.
use Prim.Native.Nat.{ℕ, ◌+◌, ◌-◌, ◌≤◌, ◌<◌}
use native.Mathlib.Omega.{arith}
use mathlib.Core.Path.{◌≡◌, refl, sym}
use mathlib.Core.Bool.{Bool, true, false}
use mathlib.Core.List.{List, [], ◌∷◌, ◌++◌}
use lib.ListN.{length}
use lib.Dec.{ltb, eqb}
use Rattle.std.specs.Prelude.{Result, Ok, Err}
use Rattle.rules.specs.Pick.{pick}
use Rattle.rules.specs.Lists.{firsts}
use Rattle.rules.specs.Answers.{Says, says_yes, says_no}
use Rattle.rules.specs.Refusals.{First, ◌when◌}
use Rattle.rules.specs.Writes.{over_front}
use Rattle.rules.proofs.Refusals.{first_here, first_later, first_front, first_past}
use Rattle.rules.proofs.Tested.{says_below, says_equal}
use Rattle.trees.specs.Graph.{Closed}
use Rattle.trees.specs.Sorting.{Sorted}
use Rattle.sheet.specs.Format.{row_count_of}
use Rattle.sheet.specs.Faults.{fault_at}
use Rattle.sheet.specs.Points.{PointsNowhere}
use Rattle.sheet.specs.Refusals.{Readable}
use Rattle.sheet.proofs.Readable.{readable_right}
use Rattle.store.specs.Layout.{in_use, capacity_of, room}
use Rattle.store.specs.Sound.{Sound}
use Rattle.rows.specs.Joined.{source}
use Rattle.rows.specs.View.{Viewed}
use Rattle.rows.proofs.View.{viewed_closed}
use Rattle.rows.specs.Named.{ShortWire, SheetWireLoop}
use Rattle.fronting.specs.Front.{wire_list}
use Rattle.rounds.specs.Classes.{class_of}
use Rattle.numbering.specs.Numbers.{trees_below}
use Rattle.numbering.proofs.Counting.{below_all, below_mono}
use Rattle.writing.specs.After.{store_written, answer_of}
use Rattle.sheet.proofs.Within.{leads_names}
use Rattle.sheet.specs.Front.{FrontSays, front_refused, front_rows, sheet_list}
use Rattle.fronting.specs.Together.{together, all_rows}
use Rattle.inserting.specs.Insert.{NoRoom, insert_refusals, InsertSays, says_refused, says_done}
use Rattle.sheet.specs.declared.fault.Fault.{Fault}
use Rattle.sheet.proofs.Faults.{fault_1, fault_2, fault_7, fault_8}
use Rattle.inserting.specs.declared.insertion.Inserted.{Inserted}
use Rattle.inserting.proofs.Inserting.{sheet_number}
use Rattle.classes.proofs.Owning.{minimal_own}
use Rattle.duties.specs.Words.{SameOutcome}
use Rattle.duties.proofs.Firsts.{Joint, spots, all_rows_lem, view_of}
use Rattle.duties.proofs.Outcome.{insert_unique}
use Rattle.checking.proofs.Rounds.{classes_of}
use Rattle.checking.proofs.Classes.{classes_sorted}
use Rattle.checking.proofs.Soundness.{is_sound, says_sound}
use Rattle.examples.proofs.Fronts.{front_of, front_reckoned}
use Rattle.examples.proofs.Wires.{some_short, says_short, some_looped, says_looped}

-- what comes back, and the store and the answer list after
pub record Outcome : Type 0 where
  pub result : Inserted
  pub store : List ℕ
  pub answers : List ℕ

-- ---- the reckoning

unfoldable pub refused_outcome : (w answers : List ℕ) → (number place : ℕ) → Outcome
refused_outcome w answers number place =
    record { result = record { number = number; added = 0; place = place }; store = w; answers = answers }

unfoldable pub done_outcome : (w b answers cls : List ℕ) → Outcome
done_outcome w b answers cls =
    record {
      result = record { number = 0; added = trees_below (class_of cls) (all_rows w b) - in_use w; place = 0 };
      store = store_written room (together w b) (class_of cls) (in_use w) (all_rows w b) w;
      answers = over_front (firsts (answer_of (class_of cls) (in_use w)) (row_count_of b)) answers;
    }

-- 7, 8, or done
unfoldable pub back_outcome : (w b answers cls : List ℕ) → Outcome
back_outcome w b answers cls =
    pick (ltb (length answers) (row_count_of b)) (refused_outcome w answers 7 0)
    (pick (ltb (capacity_of room (length w)) (trees_below (class_of cls) (all_rows w b))) (refused_outcome w answers 8 0)
    (done_outcome w b answers cls))

unfoldable pub behind_outcome : (w b answers : List ℕ) → Result ℕ Fault → Outcome
behind_outcome w b answers (Err f) = refused_outcome w answers f.number f.place
behind_outcome w b answers (Ok rows) =
    pick (some_short b) (refused_outcome w answers 14 0)
    (pick (some_looped b) (refused_outcome w answers 15 0) (back_outcome w b answers (classes_of (together w b) (all_rows w b))))

-- 1, 2, the sheet's numbers and those of its wires, then the rest
unfoldable pub insert_outcome : (w b answers : List ℕ) → Outcome
insert_outcome w b answers =
    pick (eqb (length w) 0) (refused_outcome w answers 1 0)
    (pick (is_sound w) (behind_outcome w b answers (front_of b)) (refused_outcome w answers 2 0))

-- ---- the contract allows it

pub record Allowed (w b answers : List ℕ) (o : Outcome) : Type 0 where
  pub says : InsertSays w b answers o.result o.store o.answers

module _ (w b answers : List ℕ) (there : length w ≡ 0 → ⊥) (s : Sound room w) (readable : Readable b) (leads : PointsNowhere b 0 → ⊥) where
  -- nothing before 14 applies
  sheet_past : {r : ℕ} → First (wire_list b ++ ((7 when (length answers < row_count_of b)) ∷ (8 when NoRoom w b) ∷ [])) r → First (insert_refusals w b answers) r
  sheet_past g =
      let n = readable_right b readable in
      first_later there
      (first_later (λ f. f s) (first_past (sheet_list b) (n.0, (n.1.0, (n.1.1.0, (leads_names b leads, (leads, tt))))) g))

  short_allowed : ShortWire b → Allowed w b answers (refused_outcome w answers 14 0)
  unfolding refused_outcome fault_at
  short_allowed x = record { says = says_refused (sheet_past (first_here x)) (λ z. omega arith) refl }

  looped_allowed : (ShortWire b → ⊥) → SheetWireLoop b → Allowed w b answers (refused_outcome w answers 15 0)
  unfolding refused_outcome fault_at
  looped_allowed n x = record { says = says_refused (sheet_past (first_later n (first_here x))) (λ z. omega arith) refl }

module _ (w b answers : List ℕ) (there : length w ≡ 0 → ⊥) (s : Sound room w) (readable : Readable b) (leads : PointsNowhere b 0 → ⊥) (straight : ShortWire b → ⊥) (unlooped : SheetWireLoop b → ⊥) where
  joint : Joint w b
  joint = record { sound = s; readable = readable; leads = leads; straight = straight; unlooped = unlooped }

  view : Viewed (source room w (in_use w) b) (spots w b)
  view = view_of joint

  all : all_rows w b ≡ in_use w + length (spots w b)
  all = all_rows_lem w b

  module _ (cls : List ℕ) (sorted : Sorted (together w b) (all_rows w b) (class_of cls)) where
    -- the store's rows are each the first with their trees
    at_least : in_use w ≤ trees_below (class_of cls) (all_rows w b)
    at_least =
        let o = minimal_own {cls = cls} view (rw all at sorted) s.distinct in
        omega (arith, below_all (class_of cls) (in_use w) o.own, below_mono (class_of cls) (in_use w) (all_rows w b) (omega arith))

    -- nothing before 7 applies
    past : {r : ℕ} → First ((7 when (length answers < row_count_of b)) ∷ (8 when NoRoom w b) ∷ []) r → First (insert_refusals w b answers) r
    past g = sheet_past w b answers there s readable leads (first_past (wire_list b) (straight, (unlooped, tt)) g)

    back_allowed : Allowed w b answers (back_outcome w b answers cls)
    unfolding back_outcome refused_outcome done_outcome
    back_allowed =
        go (ltb (length answers) (row_count_of b)) (says_below (length answers) (row_count_of b))
        (ltb (capacity_of room (length w)) (trees_below (class_of cls) (all_rows w b)))
        (says_below (capacity_of room (length w)) (trees_below (class_of cls) (all_rows w b)))
      where
        go : (x : Bool) → Says (length answers < row_count_of b) x → (y : Bool) → Says (capacity_of room (length w) < trees_below (class_of cls) (all_rows w b)) y
            → Allowed w b answers (pick x (refused_outcome w answers 7 0) (pick y (refused_outcome w answers 8 0) (done_outcome w b answers cls)))
        go true (says_yes h) y t = record { says = says_refused (past (first_here h)) (λ z. omega arith) (sym (fault_7 b 0)) }
        go false (says_no h) true (says_yes k) =
            record { says = says_refused (past (first_later h (first_here (record { class = class_of cls; sorted = sorted; over = k })))) (λ z. omega arith) (sym (fault_8 b 0)) }
        go false (says_no h) false (says_no k) =
            record {
              says =
                  says_done {added = trees_below (class_of cls) (all_rows w b) - in_use w}
                  (record {
                    words = omega arith;
                    sound = s;
                    readable = readable;
                    leads = leads;
                    straight = straight;
                    unlooped = unlooped;
                    long = omega arith;
                    class = class_of cls;
                    sorted = sorted;
                    fits = omega arith;
                    stored = refl;
                    answered = refl;
                    grown = omega (arith, at_least);
                  });
            }

  behind_allowed : Allowed w b answers (back_outcome w b answers (classes_of (together w b) (all_rows w b)))
  behind_allowed =
      let closed : Closed (together w b) (all_rows w b) = rw all (viewed_closed view) in
      back_allowed (classes_of (together w b) (all_rows w b)) (classes_sorted (together w b) (all_rows w b) closed)

-- behind the sheet's numbers: 14, 15, or what comes after them
wired_allowed : (w b answers : List ℕ) (rows : ℕ) → (length w ≡ 0 → ⊥) → Sound room w → Readable b → (PointsNowhere b 0 → ⊥) → Allowed w b answers (behind_outcome w b answers (Ok rows))
unfolding behind_outcome
wired_allowed w b answers rows z s r l = go (some_short b) (says_short b)
  where
    looped : (ShortWire b → ⊥) → (y : Bool) → Says (SheetWireLoop b) y
        → Allowed w b answers (pick y (refused_outcome w answers 15 0) (back_outcome w b answers (classes_of (together w b) (all_rows w b))))
    looped n true (says_yes x) = looped_allowed w b answers z s r l n x
    looped n false (says_no f) = behind_allowed w b answers z s r l n f

    go : (x : Bool) → Says (ShortWire b) x
        → Allowed w b answers (pick x (refused_outcome w answers 14 0) (pick (some_looped b) (refused_outcome w answers 15 0) (back_outcome w b answers (classes_of (together w b) (all_rows w b)))))
    go true (says_yes x) = short_allowed w b answers z s r l x
    go false (says_no n) = looped n (some_looped b) (says_looped b 0 r l n)

pub insert_allowed : (w b answers : List ℕ) → Allowed w b answers (insert_outcome w b answers)
unfolding insert_outcome refused_outcome behind_outcome
insert_allowed w b answers =
    go (eqb (length w) 0) (says_equal (length w) 0) (is_sound w) (says_sound w) (front_of b) (front_reckoned b)
  where
    go : (x : Bool) → Says (length w ≡ 0) x → (y : Bool) → Says (Sound room w) y → (r : Result ℕ Fault) → FrontSays (sheet_list b) b 0 r
        → Allowed w b answers (pick x (refused_outcome w answers 1 0) (pick y (behind_outcome w b answers r) (refused_outcome w answers 2 0)))
    go true (says_yes z) y s r f = record { says = says_refused (first_here z) (λ q. omega arith) (sym (fault_1 b 0)) }
    go false (says_no z) false (says_no s) r f = record { says = says_refused (first_later z (first_here s)) (λ q. omega arith) (sym (fault_2 b 0)) }
    go false (says_no z) true (says_yes s) (Err f) (front_refused l n p) =
        record { says = sheet_number w b answers (omega arith) f.number f.place s (first_front (wire_list b) l n) n p }
    go false (says_no z) true (says_yes s) (Ok rows) (front_rows c r l m) = wired_allowed w b answers rows z s r l

-- ---- and no other

pub insert_reckoned : {w b answers : List ℕ} {r : Inserted} {w' answers' : List ℕ} → InsertSays w b answers r w' answers' → SameOutcome r (insert_outcome w b answers).result w' (insert_outcome w b answers).store answers' (insert_outcome w b answers).answers
insert_reckoned {w} {b} {answers} s = insert_unique s (insert_allowed w b answers).says

-- what the contract of insert allows is this and nothing else: the number, the rows added, the place, the store and the answer list after
pub record Inserts (w b answers : List ℕ) (number added place : ℕ) (w' answers' : List ℕ) : Type 0 where
  pub allowed : InsertSays w b answers (record { number = number; added = added; place = place }) w' answers'
  pub only : (r : Inserted) (v a : List ℕ) → InsertSays w b answers r v a → SameOutcome r (record { number = number; added = added; place = place }) v w' a answers'

pub computed_insert : {w b answers : List ℕ} {number added place : ℕ} {w' answers' : List ℕ} → insert_outcome w b answers ≡ record { result = record { number = number; added = added; place = place }; store = w'; answers = answers' } → Inserts w b answers number added place w' answers'
computed_insert {w} {b} {answers} e =
    record {
      allowed = (rw e at (insert_allowed w b answers)).says;
      only = λ r v a t. rw e at (insert_reckoned t);
    }
