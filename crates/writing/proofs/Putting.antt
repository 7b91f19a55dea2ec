-- The loop that puts the new rows, and the count after it.
use Prim.Native.Nat.{ℕ, ◌+◌, ◌-◌, ◌/◌, ◌≤◌, ◌<◌}
use native.Mathlib.Omega.{arith}
use native.Mathlib.Nat.{min-le_left}
use mathlib.Core.Path.{◌≡◌, refl, sym, ◌∙◌}
use mathlib.Core.List.{List}
use lib.ListN.{length, get_or, set}
use lib.Seq.{sets}
use Rattle.trees.specs.Graph.{Graph}
use Rattle.store.specs.Layout.{row_word, capacity_of}
use Rattle.store.specs.Rows.{RowThere, words_of_row}
use Rattle.store.specs.declared.row.Row.{Row}
use Rattle.store.proofs.Room.{row_there}
use Rattle.rows.specs.Joined.{source, joined}
use Rattle.rows.specs.View.{Viewed}
use Rattle.rows.proofs.View.{viewed_stored}
use Rattle.rounds.specs.Classes.{class_of}
use Rattle.numbering.specs.Numbers.{trees_below}
use Rattle.numbering.proofs.Counting.{first_below}
use Rattle.writing.specs.After.{rows_put, store_written}
use Rattle.writing.specs.Asked.{Counted, Seen, OfSheet, Roomy}
use Rattle.writing.specs.Added.{NewRowOf, RowAdded}
use Rattle.writing.proofs.Clauses.{new_known, rows_put_hit, rows_put_miss, rows_put_stored}

-- ---- one row put

module _ (most stored : ℕ) (b table cls numbers v : List ℕ) (u x : ℕ) (o : OfSheet stored table u) (p : x ≡ class_of cls u) where
  pub added_known : (x ≡ u → ⊥) → RowAdded most stored b (class_of cls) v v u
  added_known f =
      record {
        added = λ w e. e ∙ sym (rows_put_miss most (joined (source most w stored b)) (class_of cls) stored w u (new_known stored (class_of cls) u (λ q. f (p ∙ q))));
      }

  module _ (s : Seen stored b table cls numbers) (q : x ≡ u) (n : ℕ) (i : n ≡ get_or numbers u 0) where
    number : n ≡ trees_below (class_of cls) u
    number = i ∙ s.counted.each u o.within

    pub added_there : Roomy most (stored + length table) (class_of cls) v → RowThere most v n
    added_there r =
        rw number (row_there most v (trees_below (class_of cls) (stored + length table)) (trees_below (class_of cls) u) r.limit (first_below (class_of cls) u (stored + length table) (sym p ∙ q) o.within) r.room)

    pub added_new : (row : Row) (v' : List ℕ) → NewRowOf stored b (class_of cls) u row → v' ≡ sets v (row_word most n) (words_of_row most row) → RowAdded most stored b (class_of cls) v v' u
    added_new row v' t e =
        record {
          added = λ w d.
              let hit = rows_put_hit most (joined (source most w stored b)) (class_of cls) stored w u o.past (sym p ∙ q) in
              rw (e, number, t.is most w, d) (sym hit);
        }

-- ---- the loop: the new ones of the first u rows are put, from the first row of the sheet on

pub record Putting (most stored : ℕ) (b table cls w : List ℕ) (n : ℕ) (v : List ℕ) (u : ℕ) : Type 0 where
  pub all : n ≡ stored + length table
  pub past : stored ≤ u
  pub some : u ≤ n
  pub same : length v ≡ length w
  pub put : v ≡ rows_put most (joined (source most w stored b)) (class_of cls) stored w u

module _ (most stored : ℕ) (b table cls w : List ℕ) (n : ℕ) where
  pub putting_none : n ≡ stored + length table → Putting most stored b table cls w n w stored
  putting_none e =
      record {
        all = e;
        past = omega arith;
        some = omega arith;
        same = refl;
        put = sym (rows_put_stored most (joined (source most w stored b)) (class_of cls) stored w stored (omega arith));
      }

  module _ (v : List ℕ) (u : ℕ) (s : Putting most stored b table cls w n v u) where
    pub putting_of : u < n → OfSheet stored table u
    putting_of h = record { past = s.past; within = omega (arith, s.all) }

    pub putting_roomy : Roomy most (stored + length table) (class_of cls) w → Roomy most (stored + length table) (class_of cls) v
    putting_roomy r = record { limit = r.limit; room = rw s.same r.room }

    pub putting_more : (v' : List ℕ) → u < n → length v' ≡ length v → RowAdded most stored b (class_of cls) v v' u → Putting most stored b table cls w n v' (u + 1)
    putting_more v' h l a =
        record {
          all = s.all;
          past = omega (arith, s.past);
          some = omega arith;
          same = l ∙ s.same;
          put = a.added w s.put;
        }

    pub putting_all : n ≤ u → v ≡ rows_put most (joined (source most w stored b)) (class_of cls) stored w (stored + length table)
    putting_all h = let e : u ≡ stored + length table = omega (arith, s.some, s.all) in rw e at s.put

pub putting_seen : (most stored : ℕ) (w b table cls numbers : List ℕ) → Viewed (source most w stored b) table → Counted (stored + length table) cls numbers → Seen stored b table cls numbers
putting_seen most stored w b table cls numbers v k = record { most = most; words = w; view = v; counted = k }

-- ---- and the count

-- there is room for a thousand rows at most, so a word holds the count
pub count_fits : (most n : ℕ) (c : ℕ → ℕ) (w : List ℕ) (count : ℕ) → Roomy most n c w → count ≡ trees_below c n → count < 65536
unfolding capacity_of
count_fits most n c w count r e = omega (arith, r.room, min-le_left 1024 ((length w - 1) / (most + 2)))

-- so does the count before
pub stored_fits : (most stored : ℕ) (w b table : List ℕ) → Viewed (source most w stored b) table → stored < 65536
stored_fits most stored w b table v = omega (arith, viewed_stored v)

pub count_after : (most : ℕ) (g : Graph) (c : ℕ → ℕ) (stored n : ℕ) (w v v' : List ℕ) (count : ℕ) → count ≡ trees_below c n → v ≡ rows_put most g c stored w n → v' ≡ set v 0 count → v' ≡ store_written most g c stored n w
unfolding store_written
count_after most g c stored n w v v' count e p q = rw (q, p, e)
