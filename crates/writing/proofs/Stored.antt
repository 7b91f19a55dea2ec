-- The store after has every row of the view at its tree's number, so it is sound, and its trees are the view's.
use Prim.Native.Nat.{ℕ, ◌+◌, ◌≤◌, ◌<◌}
use native.Mathlib.Omega.{arith}
use native.Mathlib.Decide.{dec_lt}
use mathlib.Core.Path.{◌≡◌, sym, ap, ◌∙◌}
use mathlib.Core.List.{List}
use lib.ListN.{length}
use Rattle.rules.specs.Lists.{widest}
use Rattle.trees.specs.Graph.{Graph, Closed}
use Rattle.trees.specs.Sorting.{Sorted}
use Rattle.store.specs.Layout.{capacity_of, store_graph}
use Rattle.store.specs.Sound.{RowShaped, Sound}
use Rattle.rows.specs.Joined.{source, joined}
use Rattle.rows.specs.View.{Viewed}
use Rattle.wires.specs.Wires.{is_wire}
use Rattle.rows.proofs.View.{viewed_label, viewed_count, viewed_input, viewed_plain, viewed_counts, viewed_closed, store_alone}
use Rattle.numbering.specs.Numbers.{trees_below, row_number, NumberedRows}
use Rattle.numbering.proofs.Counting.{FirstOf, number_taken, number_first, below_all}
use Rattle.numbering.proofs.Quotient.{numbered_minimal, number_below}
use Rattle.writing.specs.After.{store_written, HasRow}
use Rattle.writing.proofs.After.{Fitting, Written, after_written, after_count}

module _ {most stored : ℕ} {w b table : List ℕ} (v : Viewed (source most w stored b) table) (n : ℕ) (e : n ≡ stored + length table) (c : ℕ → ℕ) where
  -- a store's row has room for as many inputs as a sheet's row may have
  pub view_fitting : widest ≤ most → trees_below c n ≤ capacity_of most (length w) → ((u : ℕ) → u < stored → c u ≡ u) → Fitting most (joined (source most w stored b)) c stored n w
  view_fitting full room own =
      record {
        roomy = record { limit = v.laid.limit; room = room };
        own = own;
        within = omega arith;
        counts = λ u h. omega (arith, viewed_counts v u (omega arith));
      }

  module _ (f : Fitting most (joined (source most w stored b)) c stored n w) where
    abbrev g : Graph
    g = joined (source most w stored b)

    -- a row in use before has its own number
    own_number : (u : ℕ) → u < stored → row_number c u ≡ u
    own_number u h = number_first c u (f.own u h) ∙ below_all c u (λ k l. f.own k (omega arith))

    module _ (x : List ℕ) (t : Written most g c stored n w x) where
      pub written_rows : (u : ℕ) → u < n → c u ≡ u → HasRow most g c u x (trees_below c u)
      written_rows u h i = go (dec_lt u stored)
        where
          go : Dec (u < stored) → HasRow most g c u x (trees_below c u)
          go (no q) = t.new u (omega arith) h i
          go (yes q) =
              let o = t.old u q in
              let k = viewed_count v u q in
              let m = f.counts u h in
              rw (below_all c u (λ k l. f.own k (omega arith)))
              (record {
                label = o.label ∙ sym (viewed_label v u q);
                count = o.count ∙ sym k;
                used = λ j l. o.inputs j (omega arith) ∙ sym (viewed_input v u q j) ∙ sym (own_number (g.input u j) ((store_alone v).within u j q l));
                unused = λ j l r. o.inputs j r ∙ (v.laid.shaped u q).unused j (omega arith) r;
              })

      pub written_numbered : NumberedRows g n c (store_graph most x)
      unfolding store_graph
      written_numbered =
          record {
            alike = λ u h i. let r = written_rows u h i in rw (number_first c u i) (record { labels = sym r.label; counts = sym r.count });
            inputs = λ u h i j l. rw (number_first c u i) ((written_rows u h i).used j l);
          }

      pub written_shaped : Sorted g n c → (k : ℕ) → k < trees_below c n → RowShaped most x (trees_below c n) k
      written_shaped s k h = go (number_taken c n k h)
        where
          go : FirstOf c n k → RowShaped most x (trees_below c n) k
          go o =
              let r = rw o.number at (written_rows o.row o.within o.first) in
              let m = f.counts o.row o.within in
              let q = r.count in
              record {
                plain = ap is_wire r.label ∙ viewed_plain v o.row (rw e at o.within);
                few = omega arith;
                used = λ j l. rw (r.used j (omega arith)) (number_below s (g.input o.row j) (rw e ((viewed_closed v).within o.row j (rw e at o.within) (omega arith))));
                unused = λ j l p. r.unused j (omega arith) p;
              }

    pub after_numbered : NumberedRows g n c (store_graph most (store_written most g c stored n w))
    after_numbered = written_numbered (store_written most g c stored n w) (after_written f)

    pub after_sound : Sorted g n c → 0 < length w → Sound most (store_written most g c stored n w)
    after_sound s some =
        let x = store_written most g c stored n w in
        let count = after_count most g c stored n w some in
        let closed : Closed g n = rw e (viewed_closed v) in
        record {
          shaped = record {
            fits = rw (count, (after_written f).long) f.roomy.room;
            rows = rw count (written_shaped x (after_written f) s);
          };
          distinct = rw count (numbered_minimal s closed after_numbered);
        }
