-- The loop over the old rows: the first n of them have been put.
use Prim.Native.Nat.{ℕ, ◌+◌, ◌-◌, ◌/◌, ◌≤◌, ◌<◌}
use native.Mathlib.Omega.{arith}
use native.Mathlib.Numerals.{add-one}
use native.Mathlib.Nat.{min-le_left}
use native.Mathlib.Decide.{dec_lt}
use mathlib.Core.Path.{◌≡◌, refl, sym, ap, ◌∙◌}
use mathlib.Core.List.{List}
use lib.ListN.{length, set}
use lib.Seq.{sets, length-sets}
use Rattle.store.specs.Layout.{row_word, capacity_of}
use Rattle.store.specs.Rows.{RowThere, row_of, words_of_row}
use Rattle.store.specs.declared.row.Row.{Row}
use Rattle.store.proofs.Room.{row_there, word_later}
use Rattle.store.proofs.Shapes.{shaped_there}
use Rattle.widens.specs.Widened.{rows_widened, widened}
use Rattle.widens.proofs.Putting.{rows_length}
use Rattle.widening.specs.Steps.{BothThere, Fitting}

-- ---- one row

row_order : (most k n : ℕ) → k ≤ n → row_word most k ≤ row_word most n
row_order most k n h = go (dec_lt k n)
  where
    go : Dec (k < n) → row_word most k ≤ row_word most n
    go (yes l) = omega (arith, word_later most k n l)
    go (no l) = let e : k ≡ n = omega arith in rw e (omega arith)

-- a row before one that is there is there too
pub there_below : (most : ℕ) (w : List ℕ) (n k : ℕ) → RowThere most w n → k ≤ n → RowThere most w k
there_below most w n k t h =
    record { limit = t.limit; low = omega (arith, t.low); room = omega (arith, row_order most k n h, t.room) }

pub row_widened : (from to : ℕ) (old w v : List ℕ) (n : ℕ) (row : Row) → row ≡ row_of from old n → v ≡ sets w (row_word to n) (words_of_row to row) → v ≡ sets w (row_word to n) (words_of_row to (row_of from old n))
row_widened from to old w v n row e q = rw (sym e) q

-- ---- the loop

pub record PutSoFar (from to : ℕ) (old target : List ℕ) (rows : ℕ) (v : List ℕ) (n : ℕ) : Type 0 where
  pub some : n ≤ rows
  pub made : v ≡ rows_widened from to old target n
  pub long : length v ≡ length target

module _ (from to : ℕ) (old target : List ℕ) (rows : ℕ) where
  pub put_none : PutSoFar from to old target rows target 0
  unfolding rows_widened
  put_none = record { some = omega arith; made = refl; long = refl }

  module _ (v : List ℕ) (n : ℕ) (b : BothThere from to old target rows) (i : PutSoFar from to old target rows v n) where
    pub row_old : n < rows → RowThere from old n
    row_old h = b.here n h

    pub row_new : n < rows → RowThere to v n
    row_new h = let t = b.there n h in record { limit = t.limit; low = t.low; room = rw i.long t.room }

    pub put_more : (x : List ℕ) → n < rows → x ≡ sets v (row_word to n) (words_of_row to (row_of from old n)) → PutSoFar from to old target rows x (n + 1)
    unfolding rows_widened
    put_more x h e =
        record {
          some = omega arith;
          made = rw add-one (e ∙ ap (λ y. sets y (row_word to n) (words_of_row to (row_of from old n))) i.made);
          long = ap length e ∙ length-sets v (row_word to n) (words_of_row to (row_of from old n)) ∙ i.long;
        }

  pub put_through : (v : List ℕ) (n : ℕ) → PutSoFar from to old target rows v n → rows ≤ n → v ≡ rows_widened from to old target rows
  put_through v n i h = let e : n ≡ rows = omega (arith, i.some) in i.made ∙ ap (rows_widened from to old target) e

-- ---- and the count

module _ (from to : ℕ) (old target : List ℕ) (rows : ℕ) (f : Fitting from to old target rows) where
  pub fitting_there : BothThere from to old target rows
  fitting_there =
      record {
        here = λ n h. shaped_there from old n (omega (arith, f.grows, f.limit)) f.sound.sound.shaped (omega (arith, f.sound.counted));
        there = λ n h. row_there to target rows n f.limit h f.room;
      }

  pub count_words_lem : (v : List ℕ) → v ≡ rows_widened from to old target rows → 0 < length v
  count_words_lem v e = let h = f.words in omega (arith, ap length e, rows_length from to old target rows)

  pub count_few : rows < 65536
  unfolding capacity_of
  count_few = omega (arith, f.room, min-le_left 1024 ((length target - 1) / (to + 2)))

  pub all_put : (v x : List ℕ) → v ≡ rows_widened from to old target rows → x ≡ set v 0 rows → x ≡ widened from to old target
  unfolding widened
  all_put v x e q = rw (← f.sound.counted) (q ∙ ap (λ y. set y 0 rows) e)
