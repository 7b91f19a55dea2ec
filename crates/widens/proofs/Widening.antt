-- The target then says of each row what the old store says: the trees, soundness and the keys are what they were.
use Prim.Native.Nat.{ℕ, ◌≤◌, ◌<◌}
use native.Mathlib.Omega.{arith}
use native.Mathlib.Decide.{dec_lt}
use mathlib.Core.Path.{◌≡◌, sym, ap, ◌∙◌}
use mathlib.Core.List.{List}
use lib.ListN.{length, get_or}
use Rattle.rules.specs.Lists.{widest}
use Rattle.trees.specs.Graph.{Graph, Closed}
use Rattle.trees.specs.Agreement.{SameTree}
use Rattle.trees.proofs.Matching.{SaysSame, views_same}
use Rattle.wires.specs.Wires.{is_wire}
use Rattle.store.specs.Layout.{in_use, count_of, input_of, store_graph}
use Rattle.store.specs.Sound.{RowShaped, Sound}
use Rattle.store.proofs.Graphs.{shaped_closed}
use Rattle.walks.specs.Key.{walk_all, keyed, key_graph, place_of}
use Rattle.walks.proofs.Reached.{all_rows_lem}
use Rattle.walks.proofs.Views.{same_walks, same_minimal}
use Rattle.keys.specs.Bytes.{sheet_bytes}
use Rattle.keys.proofs.SameBytes.{bytes_same}
use Rattle.widens.specs.Widened.{widened, WidenDone}
use Rattle.widens.proofs.Putting.{SameRow, widened_length, widened_count, widened_row}

-- ---- keys of graphs that say the same

module _ {g h : Graph} {n : ℕ} (c : Closed g n) (s : SaysSame g h n) (u : ℕ) (p : u < n) where
  below : (k : ℕ) → k < length (walk_all g n u) → get_or (walk_all g n u) k 0 < n
  below k l = (all_rows_lem c p).below.each k l

  keyed_says : SaysSame (keyed g (walk_all g n u)) (keyed h (walk_all g n u)) (length (walk_all g n u))
  unfolding keyed
  keyed_says =
      record {
        alike = λ k l. let a = s.alike (get_or (walk_all g n u) k 0) (below k l) in record { labels = a.labels; counts = a.counts };
        inputs = λ k l j i. ap (place_of (walk_all g n u)) (s.inputs (get_or (walk_all g n u) k 0) (below k l) j i);
      }

  pub same_keys : sheet_bytes (key_graph g n u) (length (walk_all g n u)) ≡ sheet_bytes (key_graph h n u) (length (walk_all h n u))
  same_keys = bytes_same keyed_says ∙ ap (λ l. sheet_bytes (keyed h l) (length l)) (same_walks c s u p)

-- ---- the old store and the target

module _ {from to : ℕ} {old target : List ℕ} (grows : from ≤ to) (limit : to ≤ widest) (d : WidenDone from to old target) where
  row : (m : ℕ) → m < in_use old → SameRow from to old (widened from to old target) m
  row = widened_row from to old target grows limit d.room

  closed : Closed (store_graph from old) (in_use old)
  closed = shaped_closed from old d.sound.shaped

  -- the target says of each row what the old store says
  pub widened_says : SaysSame (store_graph from old) (store_graph to (widened from to old target)) (in_use old)
  unfolding store_graph
  widened_says =
      record {
        alike = λ u h. record { labels = sym (row u h).label; counts = sym (row u h).count };
        inputs = λ u h j l. sym ((row u h).inputs j (omega (arith, (d.sound.shaped.rows u h).few)));
      }

  -- each number has the tree that it had
  pub widened_tree : (u : ℕ) → u < in_use old → SameTree (store_graph from old) u (store_graph to (widened from to old target)) u
  widened_tree = views_same closed widened_says

  shaped_row : (m : ℕ) → m < in_use old → RowShaped to (widened from to old target) (in_use old) m
  shaped_row m h =
      let o = d.sound.shaped.rows m h in
      let r = row m h in
      let q = r.count in
      record {
        plain = ap is_wire r.label ∙ o.plain;
        few = omega (arith, o.few);
        used = λ j l. let e = r.inputs j (omega (arith, o.few)) in omega (arith, o.used j (omega arith));
        unused = λ j l k. go j (omega arith) k (dec_lt j from);
      }
    where
      go : (j : ℕ) → count_of from old m ≤ j → j < to → Dec (j < from) → input_of to (widened from to old target) m j ≡ 0
      go j l k (yes i) = (row m h).inputs j i ∙ (d.sound.shaped.rows m h).unused j l i
      go j l k (no i) = (row m h).further j (omega arith) k

  -- the target is sound
  pub widened_sound : Sound to (widened from to old target)
  widened_sound =
      let count = widened_count from to old target d.target_words in
      record {
        shaped = record {
          fits = rw (count, widened_length from to old target) d.room;
          rows = rw count shaped_row;
        };
        distinct = rw count ((same_minimal closed widened_says).0 d.sound.distinct);
      }

  -- each row's key is what it was
  pub widened_key : (u : ℕ) → u < in_use old → sheet_bytes (key_graph (store_graph from old) (in_use old) u) (length (walk_all (store_graph from old) (in_use old) u)) ≡ sheet_bytes (key_graph (store_graph to (widened from to old target)) (in_use (widened from to old target)) u) (length (walk_all (store_graph to (widened from to old target)) (in_use (widened from to old target)) u))
  widened_key u h = rw (widened_count from to old target d.target_words) (same_keys closed widened_says u h)
