-- The back of an insert, from the sorted rows: the trees counted, room, the write.
use Prim.Native.Nat.{ℕ, ◌+◌, ◌-◌, ◌≤◌, ◌<◌}
use native.Mathlib.Omega.{arith}
use mathlib.Core.Path.{◌≡◌, refl}
use mathlib.Core.List.{List}
use mathlib.Core.Bool.{Bool, true, false, not}
use lib.ListN.{length}
use lib.Dec.{leb}
use borrow.Author.Tests.{leb-true, leb-false}
use Rattle.rules.specs.Answers.{Says, says_yes, says_no}
use Rattle.rules.specs.Lists.{firsts}
use Rattle.rules.specs.Writes.{over_front}
use Rattle.rules.proofs.Tested.{passed_yes, passed_no}
use Rattle.store.specs.Layout.{capacity_of, capacity_answer, room}
use Rattle.std.specs.Prelude.{Option, Some, None}
use Rattle.store.proofs.Room.{none_words, rows_words}
use Rattle.rows.specs.Joined.{source, joined}
use Rattle.rows.specs.View.{Viewed}
use Rattle.rows.proofs.View.{viewed_few}
use Rattle.rounds.specs.Classes.{class_of}
use Rattle.numbering.specs.Numbers.{trees_below}
use Rattle.numbering.proofs.Counting.{below_all, below_mono, below_most}
use Rattle.writing.specs.After.{store_written, answer_of}
use Rattle.writing.specs.Asked.{ToWrite}
use Rattle.inserting.specs.Insert.{InsertSays}
use Rattle.inserting.specs.Backed.{Backed, Totalled}
use Rattle.inserting.proofs.Inserting.{back_full, back_done}

-- ---- room

pub says_most : (a b : ℕ) → Says (a ≤ b) (leb a b)
says_most a b = go (leb a b) refl
  where
    go : (t : Bool) → leb a b ≡ t → Says (a ≤ b) t
    go true p = says_yes (leb-true a b p)
    go false p = says_no (λ h. let l = leb-false a b p in omega arith)

module _ (words rows : ℕ) (a : Option ℕ) (e : a ≡ capacity_answer room words) where
  pub room_none : 0 < words → a ≡ None → Says (rows ≤ capacity_of room words) false
  room_none h q = let z = none_words room words a e q in absurd (omega arith)

  pub room_says : (capacity : ℕ) → a ≡ Some capacity → Says (rows ≤ capacity_of room words) (leb rows capacity)
  room_says capacity q = let p = rows_words room words a e capacity q in rw (← p) (says_most rows capacity)

-- ---- the trees counted

module _ (w b : List ℕ) (stored : ℕ) (table cls : List ℕ) (k : Backed w b stored table cls) where
  view : Viewed (source room w stored b) table
  view = k.spotted.view

  pub backed_few : stored + length table ≤ 2048
  backed_few = viewed_few view

  pub backed_totalled : (answers : List ℕ) (total : ℕ) → length table ≤ length answers → total ≡ trees_below (class_of cls) (stored + length table) → Totalled w b stored table cls answers total
  backed_totalled answers total h e = record { backed = k; trees = e; answered = h }

-- ---- room, and the write

module _ (w b : List ℕ) (stored : ℕ) (table cls answers : List ℕ) (total : ℕ) (m : Totalled w b stored table cls answers total) where
  -- the store's own trees are among them
  pub total_stored : stored ≤ total
  total_stored =
      let a = below_all (class_of cls) stored m.backed.own.own in
      let x = below_mono (class_of cls) stored (stored + length table) (omega arith) in
      omega (arith, m.trees)

  pub total_few : total ≤ 2048
  total_few =
      let a = below_most (class_of cls) (stored + length table) in
      let f = backed_few w b stored table cls m.backed in
      omega (arith, m.trees)

  pub total_words : 0 < length w
  total_words = m.backed.spotted.front.words

  module _ (t : Bool) (s : Says (total ≤ capacity_of room (length w)) t) where
    pub says_full : not t ≡ true → InsertSays w b answers (record { number = 8; added = 0; place = 0 }) w answers
    says_full q =
        let f = passed_no s q in
        back_full w b answers stored table cls m.backed m.answered total m.trees (omega arith)

    module _ (q : not t ≡ false) where
      pub to_write : ToWrite room w b stored table cls answers
      to_write =
          record {
            words = total_words;
            view = m.backed.spotted.view;
            long = m.backed.long;
            sorted = m.backed.sorted;
            roomy = record { limit = omega arith; room = rw m.trees at (passed_yes s q) };
            answered = m.answered;
          }

      pub says_written : (w' answers' : List ℕ) (more : ℕ) → w' ≡ store_written room (joined (source room w stored b)) (class_of cls) stored (stored + length table) w → answers' ≡ over_front (firsts (answer_of (class_of cls) stored) (length table)) answers → more ≡ total - stored → InsertSays w b answers (record { number = 0; added = more; place = 0 }) w' answers'
      says_written w' answers' more p r d =
          back_done w b answers stored table cls m.backed m.answered total m.trees w' answers' more (passed_yes s q) p r d total_stored
