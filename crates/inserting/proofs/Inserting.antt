-- The outcomes of an insert, each from what led to it.
use Prim.Native.Nat.{ℕ, ◌+◌, ◌-◌, ◌≤◌, ◌<◌}
use native.Mathlib.Omega.{arith}
use mathlib.Core.Path.{◌≡◌, sym, ap, ◌∙◌}
use mathlib.Core.List.{List, [], ◌∷◌}
use mathlib.Core.Bool.{Bool, true, false, not}
use lib.ListN.{length, take}
use Rattle.rules.specs.Answers.{Says}
use Rattle.rules.specs.Lists.{firsts}
use Rattle.rules.specs.Refusals.{First, ◌when◌}
use Rattle.rules.specs.Writes.{over_front}
use Rattle.rules.proofs.Answers.{said_yes, said_no}
use Rattle.rules.proofs.Tested.{passed_yes, passed_no}
use Rattle.rules.proofs.Lists.{firsts_length}
use Rattle.rules.proofs.Refusals.{first_here, first_later, first_front, first_past}
use Rattle.trees.specs.Agreement.{Minimal}
use Rattle.trees.specs.Sorting.{Sorted}
use Rattle.sheet.specs.Format.{row_count_of, start}
use Rattle.sheet.specs.Points.{PointsNowhere}
use Rattle.sheet.proofs.Readable.{readable_right}
use Rattle.sheet.proofs.Within.{leads_names, leads_any}
use Rattle.store.specs.Layout.{in_use, capacity_of, store_graph, room}
use Rattle.store.specs.Sound.{Sound, ShapeSays, says_no_words, says_broken, flaw_number}
use Rattle.store.specs.declared.shape.Flaw.{Flaw}
use Rattle.store.specs.declared.shape.Flaw.TheVariants.{NoWords, Broken}
use Rattle.rows.specs.Joined.{source, joined}
use Rattle.rows.specs.View.{Viewed, view_rows}
use Rattle.rows.proofs.View.{viewed_few, viewed_stored}
use Rattle.rounds.specs.Classes.{class_of}
use Rattle.numbering.specs.Numbers.{trees_below}
use Rattle.writing.specs.After.{store_written, answer_of}
use Rattle.classes.specs.Settled.{SortedOver}
use Rattle.checking.specs.Check.{InShape}
use Rattle.classes.specs.Own.{OwnClasses}
use Rattle.fronting.specs.Together.{together, all_rows}
use Rattle.inserting.specs.Insert.{NoRoom, insert_refusals, InsertSays, says_refused, says_done}
use Rattle.sheet.specs.Faults.{fault_at}
use Rattle.sheet.proofs.Faults.{fault_1, fault_2, fault_7, fault_8}
use Rattle.rows.specs.Tabled.{Fronted, Tabled}
use Rattle.wiring.specs.Spots.{Settled, Skipped, Spotted}
use Rattle.wiring.proofs.Views.{ends_settled, skipped_spotted}
use Rattle.fronting.specs.Front.{drawn_list, Wired, Fronting, DrawnSays, drawn_refused, drawn_rows}
use Rattle.inserting.specs.Backed.{Backed}
use Rattle.inserting.specs.Behind.{Behind, stands, twice}
use Rattle.inserting.specs.declared.insertion.Inserted.{Inserted}
use Rattle.sheet.specs.declared.fault.Fault.{Fault}
use Rattle.std.specs.Prelude.{Result, Ok, Err}
use Rattle.classes.proofs.Owning.{own_minimal, minimal_own}

-- ---- the store refused by its shape

module _ (w b answers : List ℕ) (a : Result ℕ Flaw) (s : ShapeSays room w a) where
  pub insert_flaw : (flaw : Flaw) (number place : ℕ) → a ≡ Err flaw → number ≡ flaw_number flaw → place ≡ 0
      → InsertSays w b answers (record { number = number; added = 0; place = place }) w answers
  insert_flaw flaw number place e n z = rw (n, z) (go flaw (rw e at s))
    where
      go : (f : Flaw) → ShapeSays room w (Err f) → InsertSays w b answers (record { number = flaw_number f; added = 0; place = 0 }) w answers
      go NoWords (says_no_words z) = says_refused (first_here z) (λ q. omega arith) (sym (fault_1 b 0))
      go Broken (says_broken h f) = says_refused (first_later (λ z. omega arith) (first_here (λ x. f x.shaped))) (λ q. omega arith) (sym (fault_2 b 0))

-- ---- the store unsound, or the sheet refused

-- the store's rows of different trees, or two of the same
module _ (w : List ℕ) (number place : ℕ) (t : Bool) (m : Says (Minimal (store_graph room w) (in_use w)) t) where
  pub behind_stands : t ≡ true → Behind w number place (record { number = number; added = 0; place = place })
  behind_stands q = stands (said_yes (rw q at m))

  pub behind_twice : t ≡ false → Behind w number place (record { number = 2; added = 0; place = 0 })
  behind_twice q = twice (said_no (rw q at m))

module _ (w b answers : List ℕ) (there : 0 < length w) where
  unsound : (Sound room w → ⊥) → InsertSays w b answers (record { number = 2; added = 0; place = 0 }) w answers
  unsound f = says_refused (first_later (λ z. omega arith) (first_here f)) (λ q. omega arith) (sym (fault_2 b 0))

  -- a number of the sheet, of a sound store
  pub sheet_number : (r place : ℕ) → Sound room w → First (drawn_list b) r → (r ≡ 0 → ⊥) → place ≡ fault_at r b 0 → InsertSays w b answers (record { number = r; added = 0; place = place }) w answers
  sheet_number r place s f z p =
      says_refused
      (first_later (λ q. omega arith)
      (first_later (λ n. n s) (first_front ((7 when (length answers < row_count_of b)) ∷ (8 when NoRoom w b) ∷ []) f z)))
      z
      p

-- the front's refusal, where the store stands behind it or not
pub refused_sheet : (w b answers : List ℕ) (stored : ℕ) (table jumps : List ℕ) (r : Result ℕ Fault) (f : Fault) (i : Inserted) → InShape w stored → DrawnSays (drawn_list b) b 0 table jumps r → r ≡ Err f → Behind w f.number f.place i → InsertSays w b answers i w answers
refused_sheet w b answers stored table jumps r f i told s e k = go (rw e at s) k
  where
    go : DrawnSays (drawn_list b) b 0 table jumps (Err f) → {x : Inserted} → Behind w f.number f.place x → InsertSays w b answers x w answers
    go (drawn_refused l z p) (stands m) =
        sheet_number w b answers told.words f.number f.place
        (record { shaped = told.shaped; distinct = m })
        l
        z
        p
    go (drawn_refused l z p) (twice m) = unsound w b answers told.words (λ x. m x.distinct)

-- ---- the front passed

module _ (w b : List ℕ) (stored rows : ℕ) (table jumps : List ℕ) (r : Result ℕ Fault) (told : InShape w stored) (s : DrawnSays (drawn_list b) b 0 table jumps r) (e : r ≡ Ok rows) where
  pub fronted : Fronting b 0 rows table jumps
  fronted = go (rw e at s)
    where
      go : DrawnSays (drawn_list b) b 0 table jumps (Ok rows) → Fronting b 0 rows table jumps
      go (drawn_rows x) = x

  -- no input names a row of a store
  pub fronted_own : PointsNowhere b 0 → ⊥
  fronted_own = fronted.passed.leads

  pub fronted_few : rows ≤ length table
  fronted_few = fronted.few

  module _ (part : List ℕ) (q : part ≡ take rows table) where
    long : length part ≡ rows
    long = ap length (q ∙ fronted.places) ∙ firsts_length (start b) rows

    pub fronted_tabled : Tabled w b stored part
    fronted_tabled =
        record {
          front =
              rw long
              (record {
                words = told.words;
                shaped = told.shaped;
                counted = told.counted;
                readable = fronted.passed.readable;
                numbered = fronted.passed.numbered;
                leads = leads_any b fronted.passed.leads (omega (arith, fronted.passed.readable.few)) stored;
              });
          places = rw long (q ∙ fronted.places);
        }

    pub fronted_wired : Wired b (length part) jumps
    fronted_wired = rw long fronted.wired

-- ---- each row where its wires lead

pub wired_settled : (w b : List ℕ) (stored : ℕ) (table jumps : List ℕ) → Tabled w b stored table → (PointsNowhere b 0 → ⊥) → Wired b (length table) jumps → Settled (length table) jumps
wired_settled w b stored table jumps t own x = ends_settled t.front.readable own x.straight (length table) jumps t.front.numbered x.ends

pub wired_spotted : (w b : List ℕ) (stored : ℕ) (table jumps new : List ℕ) → Tabled w b stored table → (PointsNowhere b 0 → ⊥) → Wired b (length table) jumps → Skipped table jumps new → Spotted w b stored new
wired_spotted w b stored table jumps new t own x k = skipped_spotted w b stored table jumps new t own x.straight x.unlooped x.ends k

module _ (w b : List ℕ) (stored : ℕ) (table : List ℕ) (t : Spotted w b stored table) where
  passed : Fronted w b stored (length table)
  passed = t.front

  viewed : Viewed (source room w stored b) table
  viewed = t.view

  pub spotted_view : Viewed (source room w stored b) table
  spotted_view = t.view

  pub spotted_fits : (cls : List ℕ) → length cls ≡ 2048 → view_rows (source room w stored b) table ≤ length cls
  spotted_fits cls l = let x = viewed_few viewed in omega arith

  pub tabled_rows : (old cls : List ℕ) → length old ≡ 2048 → SortedOver (source room w stored b) table old cls → stored ≤ length cls
  tabled_rows old cls l o = let x = viewed_stored viewed in omega (arith, o.stands.same)

  module _ (old cls : List ℕ) (o : SortedOver (source room w stored b) table old cls) (a : Bool) (p : Says (OwnClasses stored cls) a) where
    pub view_twice : (answers : List ℕ) → not a ≡ true → InsertSays w b answers (record { number = 2; added = 0; place = 0 }) w answers
    view_twice answers q =
        unsound w b answers passed.words
        (λ x. passed_no p q (minimal_own viewed o.sorted (rw passed.counted x.distinct)))

    pub view_backed : not a ≡ false → length old ≡ 2048 → Backed w b stored table cls
    view_backed q l =
        let x = viewed_few viewed in
        record { spotted = t; long = omega (arith, o.stands.same); sorted = o.sorted; own = passed_yes p q }

-- ---- the back

module _ (w b answers : List ℕ) (stored : ℕ) (table cls : List ℕ) (k : Backed w b stored table cls) where
  f : Fronted w b stored (length table)
  f = k.spotted.front

  sound : Sound room w
  sound =
      record {
        shaped = f.shaped;
        distinct = rw (← f.counted) (own_minimal k.spotted.view k.sorted k.own);
      }

  sorted : Sorted (together w b) (all_rows w b) (class_of cls)
  sorted = rw (f.counted, f.numbered) at k.sorted

  -- nothing before 7 applies
  past : {r : ℕ} → First ((7 when (length answers < row_count_of b)) ∷ (8 when NoRoom w b) ∷ []) r → First (insert_refusals w b answers) r
  past g =
      let h = f.words in
      let n = readable_right b f.readable in
      first_later (λ q. omega arith)
      (first_later (λ n. n sound)
      (first_past (drawn_list b) (n.0, (n.1.0, (n.1.1.0, (leads_names b k.spotted.leads, (k.spotted.leads, (k.spotted.straight, (k.spotted.unlooped, tt))))))) g))

  pub back_short : length answers < length table → InsertSays w b answers (record { number = 7; added = 0; place = 0 }) w answers
  back_short h = says_refused (past (first_here (omega (arith, f.numbered)))) (λ q. omega arith) (sym (fault_7 b 0))

  module _ (l : length table ≤ length answers) (total : ℕ) (e : total ≡ trees_below (class_of cls) (stored + length table)) where
    counted : total ≡ trees_below (class_of cls) (all_rows w b)
    counted = rw (f.counted, f.numbered) at e

    pub back_full : capacity_of room (length w) < total → InsertSays w b answers (record { number = 8; added = 0; place = 0 }) w answers
    back_full h =
        says_refused
        (past (first_later (λ q. omega (arith, f.numbered)) (first_here (record { class = class_of cls; sorted = sorted; over = rw counted at h }))))
        (λ q. omega arith)
        (sym (fault_8 b 0))

    pub back_done : (w' answers' : List ℕ) (added : ℕ) → total ≤ capacity_of room (length w) → w' ≡ store_written room (joined (source room w stored b)) (class_of cls) stored (stored + length table) w → answers' ≡ over_front (firsts (answer_of (class_of cls) stored) (length table)) answers → added ≡ total - stored → stored ≤ total → InsertSays w b answers (record { number = 0; added = added; place = 0 }) w' answers'
    back_done w' answers' added h p q d m =
        says_done {added = added}
        (record {
          words = f.words;
          sound = sound;
          readable = f.readable;
          leads = k.spotted.leads;
          straight = k.spotted.straight;
          unlooped = k.spotted.unlooped;
          long = omega (arith, f.numbered);
          class = class_of cls;
          sorted = sorted;
          fits = rw counted at h;
          stored = rw (f.counted, f.numbered) at p;
          answered = rw (f.counted, f.numbered) at q;
          grown = omega (arith, counted, f.counted);
        })
