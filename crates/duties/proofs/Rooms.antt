-- "No room" in trees: there are too many classes exactly when new distinct trees outnumber the free rows.
use Prim.Native.Nat.{ℕ, ◌+◌, ◌-◌, ◌≤◌, ◌<◌}
use native.Mathlib.Omega.{arith}
use native.Mathlib.Decide.{dec_lt}
use mathlib.Core.Path.{◌≡◌, sym, ap, ◌∙◌}
use mathlib.Core.List.{List, [], ◌∷◌, ◌++◌}
use mathlib.Core.Logic.{inl, inr, ◌↔◌}
use lib.ListN.{length}
use Rattle.rules.specs.Refusals.{Refusal, ◌when◌, FirstIn, NoneOf}
use Rattle.trees.specs.Agreement.{SameTree}
use Rattle.trees.specs.Sorting.{Sorted}
use Rattle.trees.proofs.Agreement.{same_sym, same_trans}
use Rattle.sheet.specs.Format.{row_count_of}
use Rattle.store.specs.Layout.{in_use, capacity_of, room}
use Rattle.rows.proofs.View.{store_same}
use Rattle.numbering.specs.Numbers.{trees_below, row_number}
use Rattle.numbering.proofs.Counting.{FirstOf, number_taken, number_once, below_all, below_mono, below_most}
use Rattle.numbering.proofs.Quotient.{class_own, number_below}
use Rattle.walks.proofs.Few.{Injects, pigeonhole}
use Rattle.fronting.specs.Together.{together, all_rows}
use Rattle.inserting.specs.Insert.{InsertSays, says_refused, says_done}
use Rattle.inserting.specs.declared.insertion.Inserted.{Inserted}
use Rattle.duties.specs.Words.{sheet_trees, NewTrees, Outnumber, listed_before}
use Rattle.duties.proofs.Alone.{sheet_tree}
use Rattle.duties.proofs.Settled.{not_unsound, right_readable}
use Rattle.duties.proofs.Firsts.{Joint, done_joint, view_of, own_class}

-- ---- the last of a list

last_in : (l : List Refusal) {n : ℕ} {P : Type 0} {r : ℕ} → NoneOf l → FirstIn (l ++ ((n when P) ∷ [])) r → (r ≡ 0 → ⊥) → P × (r ≡ n)
last_in [] none (inl p) z = p
last_in [] none (inr p) z = absurd (z p.1)
last_in (x ∷ l) none (inl p) z = absurd (none.0 p.0)
last_in (x ∷ l) none (inr p) z = last_in l none.1 p.1 z

module _ {w b : List ℕ} (j : Joint w b) {c : ℕ → ℕ} (sorted : Sorted (together w b) (all_rows w b) c) where
  own : (u : ℕ) → u < in_use w → c u ≡ u
  own = own_class j sorted

  stored : trees_below c (in_use w) ≡ in_use w
  stored = below_all c (in_use w) own

  -- row i of the sheet, with its tree, beside the store
  beside : (i : ℕ) → i < row_count_of b → SameTree (sheet_trees b) i (together w b) (in_use w + i)
  beside i h = sheet_tree j.readable j.leads j.straight w i h

  -- ---- from too many classes: for each number past the store's own, the first sheet row with it

  -- sheet row i is the first with its tree, and its number is the k-th past the store's own
  record Takes (k i : ℕ) : Type 0 where
    pub within : i < row_count_of b
    pub first : c (in_use w + i) ≡ in_use w + i
    pub number : trees_below c (in_use w + i) ≡ in_use w + k

  takes : (k : ℕ) → (f : FirstOf c (all_rows w b) (in_use w + k)) → Takes k (f.row - in_use w)
  takes k f = go (dec_lt f.row (in_use w))
    where
      go : Dec (f.row < in_use w) → Takes k (f.row - in_use w)
      go (yes q) = let l = below_most c f.row in absurd (omega (arith, f.number))
      go (no q) =
          let e : in_use w + (f.row - in_use w) ≡ f.row = omega arith in
          record { within = omega (arith, f.within); first = rw e f.first; number = rw e f.number }

  row_at : (k : ℕ) → Dec (in_use w + k < trees_below c (all_rows w b)) → ℕ
  row_at k (yes q) = (number_taken c (all_rows w b) (in_use w + k) q).row - in_use w
  row_at k (no q) = 0

  taken : (k : ℕ) → in_use w + k < trees_below c (all_rows w b) → (d : Dec (in_use w + k < trees_below c (all_rows w b))) → Takes k (row_at k d)
  unfolding row_at
  taken k h (yes q) = takes k (number_taken c (all_rows w b) (in_use w + k) q)
  taken k h (no q) = absurd (q h)

  row_of : ℕ → ℕ
  row_of k = row_at k (dec_lt (in_use w + k) (trees_below c (all_rows w b)))

  trees : ℕ
  trees = trees_below c (all_rows w b) - in_use w

  has : (k : ℕ) → k < trees → Takes k (row_of k)
  unfolding trees row_of
  has k h = taken k (omega arith) (dec_lt (in_use w + k) (trees_below c (all_rows w b)))

  some_new : NewTrees w b trees
  some_new =
      record {
        row = row_of;
        of_sheet = λ k h. (has k h).within;
        apart = λ k l h q t.
            let x = has k h in
            let y = has l q in
            let e = sorted.exact.class (in_use w + row_of k) (in_use w + row_of l) (omega (arith, x.within)) (omega (arith, y.within)) (same_trans (same_sym (beside (row_of k) x.within)) (same_trans t (beside (row_of l) y.within))) in
            let f : in_use w + row_of k ≡ in_use w + row_of l = sym x.first ∙ e ∙ y.first in
            let g = ap (trees_below c) f in
            omega (arith, x.number, y.number);
        new = λ k m h q t.
            let x = has k h in
            let l = sorted.lowest (in_use w + row_of k) m (omega (arith, x.within)) (omega arith) (same_trans (same_sym (beside (row_of k) x.within)) (same_trans t (same_sym (store_same (view_of j) m q)))) in
            omega (arith, x.first);
      }

  pub outnumbered : capacity_of room (length w) < trees_below c (all_rows w b) → Outnumber w b
  unfolding trees
  outnumbered h = record { trees = trees; rows = some_new; over = omega (arith, j.sound.shaped.fits) }

  -- ---- from new distinct trees: each has a number of its own past the store's

  numbered : (u v : ℕ) → u < all_rows w b → v < all_rows w b → row_number c u ≡ row_number c v → SameTree (together w b) u (together w b) v
  unfolding row_number
  numbered u v h q e = sorted.exact.tree u v h q (number_once c (c u) (c v) (class_own sorted u h) (class_own sorted v q) e)

  module _ {n : ℕ} (t : NewTrees w b n) where
    in_view : ℕ → ℕ
    in_view k = in_use w + t.row k

    inside : (k : ℕ) → k < n → in_view k < all_rows w b
    unfolding in_view
    inside k h = omega (arith, t.of_sheet k h)

    past : (k : ℕ) → k < n → in_use w ≤ row_number c (in_view k)
    unfolding row_number in_view
    past k h = go (dec_lt (c (in_view k)) (in_use w))
      where
        go : Dec (c (in_view k) < in_use w) → in_use w ≤ trees_below c (c (in_view k))
        go (yes q) =
            absurd
            (t.new k (c (in_view k)) h q
            (same_trans (beside (t.row k) (t.of_sheet k h)) (same_trans (same_sym (sorted.has (in_view k) (inside k h))) (store_same (view_of j) (c (in_view k)) q))))
        go (no q) = let m = below_mono c (in_use w) (c (in_view k)) (omega arith) in omega (arith, stored)

    injects : Injects (λ k. row_number c (in_view k) - in_use w) n (trees_below c (all_rows w b) - in_use w)
    unfolding in_view
    injects =
        record {
          below = λ k h. omega (arith, number_below sorted (in_view k) (inside k h), past k h);
          apart = λ k l h q e.
              let s = numbered (in_view k) (in_view l) (inside k h) (inside l q) (omega (arith, past k h, past l q)) in
              t.apart k l h q (same_trans (beside (t.row k) (t.of_sheet k h)) (same_trans s (same_sym (beside (t.row l) (t.of_sheet l q)))));
        }

    pub trees_fit : n ≤ trees_below c (all_rows w b) - in_use w
    trees_fit = pigeonhole (trees_below c (all_rows w b) - in_use w) n (λ k. row_number c (in_view k) - in_use w) injects

-- ---- 8 is given exactly then, with nothing listed before it wrong

module _ {w b answers : List ℕ} (none : NoneOf (listed_before w b answers)) where
  pub no_room : {r : Inserted} {w' answers' : List ℕ} → InsertSays w b answers r w' answers' → (r.number ≡ 8) ↔ Outnumber w b
  no_room (says_refused {r = r} f z o) =
      let p = last_in (listed_before w b answers) none f.first z in (
        (λ e.
            outnumbered
            (record {
              sound = not_unsound w none.1.0;
              readable = right_readable b none.1.1.0 none.1.1.1.0 none.1.1.1.1.0;
              leads = none.1.1.1.1.1.1.0;
              straight = none.1.1.1.1.1.1.1.0;
              unlooped = none.1.1.1.1.1.1.1.1.0;
            })
            p.0.sorted
            p.0.over),
        (λ o. p.1),
      )
  no_room (says_done d) = (
    (λ e. absurd (omega arith)),
    (λ o.
        let l = trees_fit (done_joint d) d.sorted o.rows in
        absurd (omega (arith, d.fits, o.over))),
  )
