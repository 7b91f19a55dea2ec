-- The converted sheet inserted into any sound store with words: what it is not refused for, and that the rows of the old sheet get the numbers
-- of the trees that they had beside the old store.
use Prim.Native.Nat.{ℕ, ◌+◌, ◌<◌}
use native.Mathlib.Omega.{arith}
use mathlib.Core.Path.{◌≡◌}
use mathlib.Core.List.{List, ◌∷◌}
use lib.ListN.{length, get_or}
use Rattle.rules.specs.Refusals.{Refusal, ◌when◌, First, NoneOf}
use Rattle.rules.proofs.Refusals.{past_first}
use Rattle.trees.specs.Agreement.{SameTree}
use Rattle.trees.proofs.Agreement.{same_sym, same_trans}
use Rattle.sheet.specs.Format.{row_count_of}
use Rattle.sheet.specs.Points.{PointsNowhere}
use Rattle.sheet.specs.Refusals.{Readable}
use Rattle.sheet.proofs.Readable.{readable_right}
use Rattle.sheet.proofs.Within.{leads_names}
use Rattle.store.specs.Layout.{in_use, store_graph, room}
use Rattle.store.specs.Sound.{Sound}
use Rattle.store.proofs.Graphs.{shaped_closed, shaped_plain, shaped_read}
use Rattle.wires.specs.Wires.{skipping}
use Rattle.wires.proofs.Skipping.{plain_fits}
use Rattle.rows.specs.Named.{ShortWire, SheetWireLoop}
use Rattle.fronting.specs.Front.{drawn_list}
use Rattle.keys.specs.Sheets.{sheet_graph}
use Rattle.fronting.specs.Together.{together, as_drawn}
use Rattle.inserting.specs.Insert.{InsertDone, InsertSays}
use Rattle.inserting.specs.declared.insertion.Inserted.{Inserted}
use Rattle.converts.specs.Convert.{result, ConvertDone}
use Rattle.wires.proofs.SameSkipped.{same_skipped}
use Rattle.converts.proofs.Rising.{rising_each}
use Rattle.converts.proofs.Against.{Against, done_against, against_closed, against_fits, result_rows, result_tree, stored_tree, result_readable, result_leads, result_straight, result_unlooped}
use Rattle.duties.specs.Words.{answer, OneRow}
use Rattle.duties.proofs.Done.{answer_used, answer_tree, answer_only, known_number}
use Rattle.duties.proofs.Outcome.{insert_first}
use Rattle.convertduties.specs.Converting.{refusals_left}
use Rattle.duties.proofs.Alone.{sheet_tree}

-- what is listed for an insert before the answer list and room
abbrev listed_first : (v c : List ℕ) → List Refusal
listed_first v c = (1 when (length v ≡ 0)) ∷ (2 when (Sound room v → ⊥)) ∷ drawn_list c

module _ {w b out out' : List ℕ} {bytes : ℕ} (d : ConvertDone w b out out' bytes) where
  against : Against w b
  against = done_against d

  readable : Readable (result w b d.rows)
  readable = result_readable against d.appended d.few

  -- no input of it names a row of a store, and none points nowhere
  pub converted_alone : PointsNowhere (result w b d.rows) 0 → ⊥
  converted_alone = result_leads against d.appended d.few

  straight : ShortWire (result w b d.rows) → ⊥
  straight = result_straight against d.appended d.few

  unlooped : SheetWireLoop (result w b d.rows) → ⊥
  unlooped = result_unlooped against d.appended d.few

  count : row_count_of (result w b d.rows) ≡ row_count_of b + length d.rows
  count = result_rows against d.appended

  -- ---- trees

  -- read with wires skipped, each row of the old sheet has in the result the tree that it had
  pub converted_skipped : (i : ℕ) → i < row_count_of b → SameTree (skipping (as_drawn w b)) (in_use w + i) (skipping (sheet_graph (result w b d.rows))) i
  converted_skipped i h =
      same_skipped (against_closed against) (against_fits against) (in_use w + i) i (omega arith) (result_tree against d.appended i h)

  -- and so has each row of the old store that is appended
  pub appended_skipped : (k : ℕ) → k < length d.rows → SameTree (store_graph room w) (get_or d.rows k 0) (skipping (sheet_graph (result w b d.rows))) (row_count_of b + k)
  appended_skipped k h =
      let s = d.sound.shaped in
      let m = get_or d.rows k 0 in
      let l = ((rising_each d.appended.rising).each k h).below in
      let closed = shaped_closed room w s in
      same_trans (same_sym (shaped_read room w s m l))
      (same_skipped closed (plain_fits (store_graph room w) closed (shaped_plain room w s)) m (row_count_of b + k) l (stored_tree against d.appended k h))

  module _ (v : List ℕ) where
    -- beside any store
    pub converted_beside : (i : ℕ) → i < row_count_of b → SameTree (skipping (as_drawn w b)) (in_use w + i) (together v (result w b d.rows)) (in_use v + i)
    converted_beside i h = same_trans (converted_skipped i h) (sheet_tree readable converted_alone straight v i (omega (arith, count)))

    pub appended_beside : (k : ℕ) → k < length d.rows → SameTree (store_graph room w) (get_or d.rows k 0) (together v (result w b d.rows)) (in_use v + (row_count_of b + k))
    appended_beside k h =
        same_trans (appended_skipped k h) (sheet_tree readable converted_alone straight v (row_count_of b + k) (omega (arith, count)))

  -- ---- inserted into a sound store with words: 7 or 8, or done

  module _ {v : List ℕ} (sound : Sound room v) (words : 0 < length v) where
    none : NoneOf (listed_first v (result w b d.rows))
    none =
        let n = readable_right (result w b d.rows) readable in
        (λ z. omega arith, ((λ f. f sound), (n.0, (n.1.0, (n.1.1.0, (leads_names (result w b d.rows) converted_alone, (converted_alone, (straight, (unlooped, tt)))))))))

    pub converted_taken : {answers : List ℕ} {r : Inserted} {v' answers' : List ℕ} → InsertSays v (result w b d.rows) answers r v' answers' → First (refusals_left v (result w b d.rows) answers) r.number
    converted_taken s = past_first (listed_first v (result w b d.rows)) none (insert_first s)

  -- ---- and done

  module _ {v answers v' answers' : List ℕ} {added : ℕ} (e : InsertDone v (result w b d.rows) answers v' answers' added) where
    -- each row of the old sheet has the number of the one row with the tree that it had
    pub converted_inserted : (i : ℕ) → i < row_count_of b → OneRow (skipping (as_drawn w b)) (in_use w + i) v' (answer answers' i)
    converted_inserted i h =
        let l : i < row_count_of (result w b d.rows) = omega (arith, count) in
        record {
          used = answer_used e i l;
          tree = same_trans (converted_beside v i h) (answer_tree e i l);
          only = λ m p t. answer_only e i m l p (same_trans (same_sym (converted_beside v i h)) t);
        }

    -- a tree that the store had keeps its number
    pub converted_known : (i m : ℕ) → i < row_count_of b → m < in_use v → SameTree (skipping (as_drawn w b)) (in_use w + i) (store_graph room v) m → answer answers' i ≡ m
    converted_known i m h l t = known_number e i m (omega (arith, count)) l (same_trans (same_sym (converted_beside v i h)) t)

  -- ---- into the old store itself

  module _ {answers w' answers' : List ℕ} {added : ℕ} (e : InsertDone w (result w b d.rows) answers w' answers' added) where
    -- a row with the tree of row m of the store gets m
    pub converted_home : (i m : ℕ) → i < row_count_of b → m < in_use w → SameTree (skipping (as_drawn w b)) (in_use w + i) (store_graph room w) m → answer answers' i ≡ m
    converted_home = converted_known e

    -- and each row appended gets its own number
    pub appended_home : (k : ℕ) → k < length d.rows → answer answers' (row_count_of b + k) ≡ get_or d.rows k 0
    appended_home k h =
        known_number e (row_count_of b + k) (get_or d.rows k 0) (omega (arith, count)) ((rising_each d.appended.rising).each k h).below
        (same_sym (appended_beside w k h))
