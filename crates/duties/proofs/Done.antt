-- Duty 2: what holds after a done insert.
use Prim.Native.Nat.{ℕ, ◌+◌, ◌-◌, ◌≤◌, ◌<◌}
use native.Mathlib.Omega.{arith}
use native.Mathlib.Decide.{dec_lt}
use mathlib.Core.Path.{◌≡◌, sym, ap, ◌∙◌}
use mathlib.Core.List.{List}
use lib.ListN.{length}
use Rattle.rules.specs.Lists.{firsts}
use Rattle.rules.proofs.Lists.{firsts_length, firsts_at}
use Rattle.rules.proofs.Writes.{over_front_lem, over_past}
use Rattle.trees.specs.Graph.{Closed}
use Rattle.trees.specs.Agreement.{SameTree}
use Rattle.trees.proofs.Agreement.{same_sym, same_trans}
use Rattle.sheet.specs.Format.{row_count_of}
use Rattle.store.specs.Layout.{in_use, word_at, row_word, store_graph, room}
use Rattle.store.specs.Sound.{Sound}
use Rattle.rows.specs.Joined.{source}
use Rattle.rows.specs.View.{Viewed}
use Rattle.rows.proofs.View.{store_same, viewed_closed}
use Rattle.numbering.specs.Numbers.{trees_below, row_number}
use Rattle.numbering.proofs.Counting.{below_all, below_mono, number_taken, number_first, FirstOf}
use Rattle.numbering.proofs.Quotient.{class_low, number_below, numbered_same}
use Rattle.writing.specs.After.{answer_of}
use Rattle.writing.proofs.After.{Fitting, Written, after_written, after_count}
use Rattle.writing.proofs.Stored.{view_fitting, after_numbered, after_sound}
use Rattle.fronting.specs.Together.{together, all_rows}
use Rattle.inserting.specs.Insert.{InsertDone}
use Rattle.duties.specs.Words.{sheet_trees, answer, Appears, EarlierRow}
use Rattle.duties.proofs.Alone.{sheet_tree}
use Rattle.duties.proofs.Firsts.{done_joint, spots, all_rows_lem, view_of, own_class}

module _ {w b answers w' answers' : List ℕ} {added : ℕ} (d : InsertDone w b answers w' answers' added) where
  -- ---- the view, and the classes of its rows

  view : Viewed (source room w (in_use w) b) (spots w b)
  view = view_of (done_joint d)

  all : all_rows w b ≡ in_use w + length (spots w b)
  all = all_rows_lem w b

  pub closed : Closed (together w b) (all_rows w b)
  closed = rw all (viewed_closed view)

  -- a row of the store is the first with its tree
  own : (u : ℕ) → u < in_use w → d.class u ≡ u
  own = own_class (done_joint d) d.sorted

  fitting : Fitting room (together w b) d.class (in_use w) (all_rows w b) w
  fitting = view_fitting view (all_rows w b) all d.class (omega arith) d.fits own

  written : Written room (together w b) d.class (in_use w) (all_rows w b) w w'
  written = rw d.stored (after_written fitting)

  count : in_use w' ≡ trees_below d.class (all_rows w b)
  count = rw d.stored (after_count room (together w b) d.class (in_use w) (all_rows w b) w d.words)

  -- each row of the view has its tree at its number
  at_number : (u : ℕ) → u < all_rows w b → SameTree (together w b) u (store_graph room w') (row_number d.class u)
  at_number u h = rw d.stored (numbered_same d.sorted closed (after_numbered view (all_rows w b) all d.class fitting) u h)

  pub answered : (i : ℕ) → i < row_count_of b → answer answers' i ≡ row_number d.class (in_use w + i)
  unfolding answer_of
  answered i h =
      let n = firsts_length (answer_of d.class (in_use w)) (row_count_of b) in
      rw d.answered
      (over_front_lem (firsts (answer_of d.class (in_use w)) (row_count_of b)) answers (omega (arith, d.long)) i 0 (omega arith)
      ∙ firsts_at (answer_of d.class (in_use w)) (row_count_of b) i h)

  -- ---- the store stays sound, and grows by the rows added

  pub done_sound : Sound room w'
  done_sound = rw d.stored (after_sound view (all_rows w b) all d.class fitting d.sorted d.words)

  pub done_added : in_use w' ≡ in_use w + added
  done_added = omega (arith, count, d.grown)

  -- ---- each row's answer is in use and has the row's tree, and no other row of the store has

  pub answer_used : (i : ℕ) → i < row_count_of b → answer answers' i < in_use w'
  answer_used i h = rw (answered i h, count) (number_below d.sorted (in_use w + i) (omega arith))

  pub answer_tree : (i : ℕ) → i < row_count_of b → SameTree (together w b) (in_use w + i) (store_graph room w') (answer answers' i)
  answer_tree i h = rw (answered i h) (at_number (in_use w + i) (omega arith))

  pub answer_only : (i k : ℕ) → i < row_count_of b → k < in_use w' → SameTree (together w b) (in_use w + i) (store_graph room w') k → k ≡ answer answers' i
  answer_only i k h l t =
      done_sound.distinct.apart k (answer answers' i) l (answer_used i h) (same_trans (same_sym t) (answer_tree i h))

  -- ---- old rows and numbers stand

  pub old_words : (k : ℕ) → 0 < k → k < row_word room (in_use w) → word_at w' k ≡ word_at w k
  old_words = written.before

  pub old_tree : (m : ℕ) → m < in_use w → SameTree (store_graph room w) m (store_graph room w') m
  old_tree m h =
      let n : row_number d.class m ≡ m = number_first d.class m (own m h) ∙ below_all d.class m (λ u l. own u (omega arith)) in
      same_trans (same_sym (store_same view m h)) (rw n at (at_number m (omega arith)))

  -- ---- words past the used rows stand, and answers past the sheet's rows

  pub past_words : (k : ℕ) → row_word room (in_use w') ≤ k → word_at w' k ≡ word_at w k
  past_words k h = written.past k (rw count at h)

  pub same_length : length w' ≡ length w
  same_length = written.long

  pub past_answers : (i : ℕ) → row_count_of b ≤ i → answer answers' i ≡ answer answers i
  past_answers i h =
      let n = firsts_length (answer_of d.class (in_use w)) (row_count_of b) in
      rw d.answered (over_past (firsts (answer_of d.class (in_use w)) (row_count_of b)) answers (omega (arith, d.long)) i 0 (omega arith))

  -- ---- known trees keep their numbers, new trees take the next ones in order of first appearance

  pub known_number : (i m : ℕ) → i < row_count_of b → m < in_use w → SameTree (together w b) (in_use w + i) (store_graph room w) m → answer answers' i ≡ m
  known_number i m h k t =
      let grown = d.grown in
      sym (answer_only i m h (omega (arith, count)) (same_trans t (old_tree m k)))

  -- row i of the sheet, with its tree, beside the store
  pub beside : (i : ℕ) → i < row_count_of b → SameTree (sheet_trees b) i (together w b) (in_use w + i)
  beside i h = sheet_tree d.readable d.leads d.straight w i h

  -- no row before a first appearance has its tree
  appears_first : (i : ℕ) → i < row_count_of b → Appears w b i → (v : ℕ) → v < in_use w + i → SameTree (together w b) v (together w b) (in_use w + i) → ⊥
  appears_first i h a v l t = go (dec_lt v (in_use w))
    where
      go : Dec (v < in_use w) → ⊥
      go (yes q) = a.new v q (same_trans (beside i h) (same_trans (same_sym t) (store_same view v q)))
      go (no q) =
          let e : in_use w + (v - in_use w) ≡ v = omega arith in
          a.first (v - in_use w) (omega arith) (same_trans (beside (v - in_use w) (omega arith)) (same_trans (rw e t) (same_sym (beside i h))))

  appears_class : (i : ℕ) → i < row_count_of b → Appears w b i → d.class (in_use w + i) ≡ in_use w + i
  appears_class i h a = go (dec_lt (d.class (in_use w + i)) (in_use w + i))
    where
      go : Dec (d.class (in_use w + i) < in_use w + i) → d.class (in_use w + i) ≡ in_use w + i
      go (yes q) = absurd (appears_first i h a (d.class (in_use w + i)) q (d.sorted.has (in_use w + i) (omega arith)))
      go (no q) = let l = class_low d.sorted (in_use w + i) (omega arith) in omega arith

  -- a number past the store's own that is given below a sheet row is the answer of an earlier row
  given_before : (i k : ℕ) → i ≤ row_count_of b → in_use w ≤ k → k < trees_below d.class (in_use w + i) → EarlierRow answers' i k
  given_before i k h l q = go (number_taken d.class (in_use w + i) k q)
    where
      go : FirstOf d.class (in_use w + i) k → EarlierRow answers' i k
      go f = at (dec_lt f.row (in_use w))
        where
          at : Dec (f.row < in_use w) → EarlierRow answers' i k
          at (yes p) =
              let e = below_all d.class f.row (λ u r. own u (omega arith)) in
              absurd (omega (arith, f.number))
          at (no p) =
              let r : f.row ≡ in_use w + (f.row - in_use w) = omega arith in
              record {
                row = f.row - in_use w;
                before = omega (arith, f.within);
                given =
                    answered (f.row - in_use w) (omega (arith, f.within))
                    ∙ ap (row_number d.class) (sym r)
                    ∙ number_first d.class f.row f.first
                    ∙ f.number;
              }

  -- every number added is the answer of a row of the sheet
  pub added_given : (k : ℕ) → in_use w ≤ k → k < in_use w' → EarlierRow answers' (row_count_of b) k
  added_given k l q = given_before (row_count_of b) k (omega arith) l (rw count at q)

  module _ (i : ℕ) (h : i < row_count_of b) (a : Appears w b i) where
    here : answer answers' i ≡ trees_below d.class (in_use w + i)
    here = answered i h ∙ number_first d.class (in_use w + i) (appears_class i h a)

    -- it is no number of the store before
    pub new_number : in_use w ≤ answer answers' i
    new_number =
        let e = below_all d.class (in_use w) own in
        let m = below_mono d.class (in_use w) (in_use w + i) (omega arith) in
        rw here (omega arith)

    -- and every number between is the answer of an earlier row: it is the next
    pub next_number : (k : ℕ) → in_use w ≤ k → k < answer answers' i → EarlierRow answers' i k
    next_number k l q = given_before i k (omega arith) l (rw here at q)
