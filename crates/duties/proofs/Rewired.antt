-- Wires put between the boxes of a sheet change nothing: every box gets the number it had, and the store is the same word for word.
use Prim.Native.Nat.{ℕ, zero, suc, ◌+◌, ◌-◌, ◌≤◌, ◌<◌}
use native.Mathlib.Omega.{arith}
use native.Mathlib.Decide.{dec_lt}
use mathlib.Core.Path.{◌≡◌, refl, sym, ap, ◌∙◌}
use mathlib.Core.List.{List}
use lib.ListN.{length, set}
use Rattle.trees.specs.Agreement.{Alike, SameTree}
use Rattle.trees.specs.Sorting.{Sorted}
use Rattle.trees.proofs.Agreement.{same_sym, same_trans, same_alike, same_input}
use Rattle.trees.proofs.Matching.{Matching, matching_same}
use Rattle.sheet.specs.Format.{row_count_of}
use Rattle.wires.specs.Wires.{Wire, through}
use Rattle.wires.proofs.Following.{through_plain}
use Rattle.wires.proofs.Skipping.{skipping_label, skipping_count, skipping_input, plain_alike, plain_input}
use Rattle.store.specs.Layout.{in_use, room}
use Rattle.rows.specs.Joined.{source, joined}
use Rattle.rows.specs.View.{Viewed}
use Rattle.rows.proofs.Joined.{store_label, store_count, store_input}
use Rattle.rows.proofs.View.{laid_alone, laid_closed, laid_plain, viewed_closed, viewed_end, viewed_end_same}
use Rattle.numbering.specs.Numbers.{trees_below, row_number}
use Rattle.numbering.proofs.Counting.{below_known, number_class}
use Rattle.numbering.proofs.Quotient.{class_low}
use Rattle.writing.specs.After.{is_new, new_row, rows_put, store_written}
use Rattle.writing.proofs.Clauses.{new_known, rows_put_miss}
use Rattle.writing.proofs.Inputs.{new_row_same}
use Rattle.writing.proofs.Same.{SameClasses, sorted_same, below_same, number_classes}
use Rattle.fronting.specs.Together.{together, as_drawn, all_rows}
use Rattle.inserting.specs.Insert.{InsertDone}
use Rattle.duties.specs.Words.{answer}
use Rattle.duties.specs.Rewired.{Rewired}
use Rattle.duties.proofs.Firsts.{Joint, done_joint, spots, all_rows_lem, view_of}
use Rattle.duties.proofs.Done.{answered}

module _ {w b d : List ℕ} (r : Rewired w b d) (j : Joint w b) (k : Joint w d) where
  -- ---- the rows of the store and the boxes, drawn in both ways

  old : Viewed (source room w (in_use w) b) (spots w b)
  old = view_of j

  new : Viewed (source room w (in_use w) d) (spots w d)
  new = view_of k

  fewer : all_rows w b ≤ all_rows w d
  fewer = omega (arith, r.more)

  -- a row past the store is a row of the sheet
  behind : (u : ℕ) → (u < in_use w → ⊥) → in_use w + (u - in_use w) ≡ u
  behind u q = omega arith

  box : (u : ℕ) → u < all_rows w b → Wire (as_drawn w b) u → ⊥
  box u h x = go (dec_lt u (in_use w))
    where
      go : Dec (u < in_use w) → ⊥
      go (yes q) = (laid_plain old.laid).plain u q x
      go (no q) = r.plain (u - in_use w) (omega arith) (rw (behind u q) x)

  alike : (u : ℕ) → u < all_rows w b → Alike (as_drawn w b) u (as_drawn w d) u
  alike u h = go (dec_lt u (in_use w))
    where
      go : Dec (u < in_use w) → Alike (as_drawn w b) u (as_drawn w d) u
      go (yes q) =
          record {
            labels = store_label (source room w (in_use w) b) u q ∙ sym (store_label (source room w (in_use w) d) u q);
            counts = store_count (source room w (in_use w) b) u q ∙ sym (store_count (source room w (in_use w) d) u q);
          }
      go (no q) = rw (behind u q) at (r.boxes (u - in_use w) (omega arith))

  still_box : (u : ℕ) → u < all_rows w b → Wire (as_drawn w d) u → ⊥
  still_box u h x = box u h (record { is = rw (alike u h).labels x.is })

  leads : (u i : ℕ) → u < all_rows w b → i < (as_drawn w b).count u → through (as_drawn w d) ((as_drawn w d).input u i) ≡ (as_drawn w b).input u i
  leads u i h l = go (dec_lt u (in_use w))
    where
      go : Dec (u < in_use w) → through (as_drawn w d) ((as_drawn w d).input u i) ≡ (as_drawn w b).input u i
      go (yes q) =
          let e : (as_drawn w d).input u i ≡ (as_drawn w b).input u i = store_input (source room w (in_use w) d) u q i ∙ sym (store_input (source room w (in_use w) b) u q i) in
          let m = (laid_alone old.laid).within u i q l in
          rw e (through_plain (as_drawn w d) ((as_drawn w b).input u i) ((laid_plain new.laid).plain ((as_drawn w b).input u i) m))
      go (no q) =
          let e = behind u q in
          rw e at (r.leads (u - in_use w) i (omega arith) (rw e l))

  -- ---- one tree each

  record Ends (x y : ℕ) : Type 0 where
    pub low : x < all_rows w b
    pub ends : through (as_drawn w d) y ≡ x

  within : (x i : ℕ) → x < all_rows w b → i < (as_drawn w b).count x → (as_drawn w b).input x i < all_rows w b
  within x i h l = omega (arith, (laid_closed old.laid).within x i (omega (arith, all_rows_lem w b)) l, all_rows_lem w b)

  matching : Matching (together w b) (together w d) Ends
  unfolding joined
  matching =
      record {
        alike = λ x y t. record {
          labels = (plain_alike (as_drawn w b) x (box x t.low)).labels ∙ (alike x t.low).labels ∙ sym (skipping_label (as_drawn w d) y ∙ ap (as_drawn w d).label t.ends);
          counts = (plain_alike (as_drawn w b) x (box x t.low)).counts ∙ (alike x t.low).counts ∙ sym (skipping_count (as_drawn w d) y ∙ ap (as_drawn w d).count t.ends);
        };
        inputs = λ x y t i l.
            let m : i < (as_drawn w b).count x = rw (plain_alike (as_drawn w b) x (box x t.low)).counts at l in
            record {
              low = rw (plain_input (as_drawn w b) x (box x t.low) i) (within x i t.low m);
              ends =
                  ap (through (as_drawn w d)) (skipping_input (as_drawn w d) y i ∙ ap (λ v. (as_drawn w d).input v i) t.ends)
                  ∙ leads x i t.low m
                  ∙ sym (plain_input (as_drawn w b) x (box x t.low) i);
            };
      }

  same : (u : ℕ) → u < all_rows w b → SameTree (together w b) u (together w d) u
  same u h = matching_same matching (record { low = h; ends = through_plain (as_drawn w d) u (still_box u h) })

  -- ---- one class each

  module _ {c e : ℕ → ℕ} (s : Sorted (together w b) (all_rows w b) c) (t : Sorted (together w d) (all_rows w d) e) where
    to_old : (u v : ℕ) → u < all_rows w b → v < all_rows w b → SameTree (together w d) u (together w d) v → SameTree (together w b) u (together w b) v
    to_old u v h l q = same_trans (same u h) (same_trans q (same_sym (same v l)))

    to_new : (u v : ℕ) → u < all_rows w b → v < all_rows w b → SameTree (together w b) u (together w b) v → SameTree (together w d) u (together w d) v
    to_new u v h l q = same_trans (same_sym (same u h)) (same_trans q (same v l))

    cut : Sorted (together w b) (all_rows w b) e
    cut =
        record {
          exact = record {
            tree = λ u v h l q. to_old u v h l (t.exact.tree u v (omega (arith, fewer)) (omega (arith, fewer)) q);
            class = λ u v h l q. t.exact.class u v (omega (arith, fewer)) (omega (arith, fewer)) (to_new u v h l q);
          };
          has = λ u h. to_old (e u) u (omega (arith, class_low t u (omega (arith, fewer)))) h (t.has u (omega (arith, fewer)));
          lowest = λ u v h l q. t.lowest u v (omega (arith, fewer)) (omega (arith, fewer)) (to_new u v h l q);
        }

    classes : SameClasses (all_rows w b) c e
    classes = sorted_same s cut

    -- a row behind the boxes is a wire, and not the first with its tree
    known : (u : ℕ) → all_rows w b ≤ u → u < all_rows w d → e u ≡ u → ⊥
    known u h l q = go (dec_lt (through (as_drawn w d) u) (all_rows w b))
      where
        m : u < in_use w + length (spots w d)
        m = omega (arith, all_rows_lem w d)

        go : Dec (through (as_drawn w d) u < all_rows w b) → ⊥
        go (yes p) =
            let x = t.lowest u (through (as_drawn w d) u) l (omega (arith, fewer)) (viewed_end_same new u m) in
            omega arith
        go (no p) =
            let z = viewed_end new u m in
            let i : in_use w + (through (as_drawn w d) u - in_use w) ≡ through (as_drawn w d) u = omega arith in
            new.ended u m (rw i at (r.wires (through (as_drawn w d) u - in_use w) (omega arith) (omega (arith, all_rows_lem w d))))

    trees : (n : ℕ) → all_rows w b + n ≤ all_rows w d → trees_below e (all_rows w b + n) ≡ trees_below e (all_rows w b)
    trees zero h = let z : all_rows w b + 0 ≡ all_rows w b = omega arith in rw z refl
    trees (suc n) h =
        let z : all_rows w b + suc n ≡ (all_rows w b + n) + 1 = omega arith in
        rw z (below_known e (all_rows w b + n) (known (all_rows w b + n) (omega arith) (omega arith)) ∙ trees n (omega arith))

    pub same_count : trees_below e (all_rows w d) ≡ trees_below c (all_rows w b)
    same_count =
        let z : all_rows w b + (all_rows w d - all_rows w b) ≡ all_rows w d = omega (arith, fewer) in
        rw z at (trees (all_rows w d - all_rows w b) (omega (arith, fewer))) ∙ sym (below_same classes (all_rows w b) (omega arith))

    -- ---- one store

    inputs : (u i : ℕ) → u < all_rows w b → i < (together w b).count u → row_number c ((together w b).input u i) ≡ row_number e ((together w d).input u i)
    inputs u i h l =
        let x = (together w b).input u i in
        let y = (together w d).input u i in
        let p : x < all_rows w b = omega (arith, (viewed_closed old).within u i (omega (arith, all_rows_lem w b)) l, all_rows_lem w b) in
        let n : i < (together w d).count u = rw (same_alike (same u h)).counts at l in
        let q : y < all_rows w d = omega (arith, (viewed_closed new).within u i (omega (arith, fewer, all_rows_lem w d)) n, all_rows_lem w d) in
        number_classes classes x p
        ∙ number_class e x y (t.exact.class x y (omega (arith, fewer)) q (same_trans (same_sym (same x p)) (same_input (same u h) i l)))

    row_same : (u : ℕ) → u < all_rows w b → new_row (together w b) c u ≡ new_row (together w d) e u
    row_same u h = new_row_same (together w b) (together w d) c e u (same_alike (same u h)).labels (same_alike (same u h)).counts (λ i l. inputs u i h l)

    boxes_put : (u : ℕ) → u ≤ all_rows w b → rows_put room (together w b) c (in_use w) w u ≡ rows_put room (together w d) e (in_use w) w u
    unfolding rows_put is_new
    boxes_put zero h = refl
    boxes_put (suc u) h = rw (boxes_put u (omega arith), below_same classes u (omega arith), row_same u h, classes.each u h)

    wires_put : (n : ℕ) → all_rows w b + n ≤ all_rows w d → rows_put room (together w d) e (in_use w) w (all_rows w b + n) ≡ rows_put room (together w d) e (in_use w) w (all_rows w b)
    wires_put zero h = let z : all_rows w b + 0 ≡ all_rows w b = omega arith in rw z refl
    wires_put (suc n) h =
        let z : all_rows w b + suc n ≡ (all_rows w b + n) + 1 = omega arith in
        rw z
        (rows_put_miss room (together w d) e (in_use w) w (all_rows w b + n) (new_known (in_use w) e (all_rows w b + n) (known (all_rows w b + n) (omega arith) (omega arith)))
        ∙ wires_put n (omega arith))

    same_store : store_written room (together w d) e (in_use w) (all_rows w d) w ≡ store_written room (together w b) c (in_use w) (all_rows w b) w
    unfolding store_written
    same_store =
        let z : all_rows w b + (all_rows w d - all_rows w b) ≡ all_rows w d = omega (arith, fewer) in
        let p = rw z at (wires_put (all_rows w d - all_rows w b) (omega (arith, fewer))) in
        ap (λ l. set l 0 (trees_below e (all_rows w d))) (p ∙ sym (boxes_put (all_rows w b) (omega arith)))
        ∙ ap (λ n. set (rows_put room (together w b) c (in_use w) w (all_rows w b)) 0 n) same_count

-- a sheet, and the same with wires put between its boxes, inserted into one store
module _ {w b d answers w' answers' others v' others' : List ℕ} {added more : ℕ} (r : Rewired w b d) (x : InsertDone w b answers w' answers' added) (y : InsertDone w d others v' others' more) where
  -- every box gets the number it had,
  pub rewired_number : (i : ℕ) → i < row_count_of b → answer others' i ≡ answer answers' i
  rewired_number i h =
      let l = r.more in
      answered y i (omega arith)
      ∙ sym (number_classes (classes r (done_joint x) (done_joint y) x.sorted y.sorted) (in_use w + i) (omega arith))
      ∙ sym (answered x i h)

  -- as many rows are added, and the store is the same word for word
  pub rewired_added : more ≡ added
  rewired_added = omega (arith, same_count r (done_joint x) (done_joint y) x.sorted y.sorted, x.grown, y.grown)

  pub rewired_store : v' ≡ w'
  rewired_store = y.stored ∙ same_store r (done_joint x) (done_joint y) x.sorted y.sorted ∙ sym x.stored
