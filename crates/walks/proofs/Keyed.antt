-- The key of a row as rows of its own: each has the tree of the row that it stands for, they are closed, minimal where the rows
-- are, and the walk over them from row 0 meets them in their order.
use Prim.Native.Nat.{ℕ, ◌<◌}
use native.Mathlib.Omega.{arith}
use mathlib.Core.Path.{◌≡◌, refl, sym, ap, ◌∙◌}
use mathlib.Core.List.{List, [], ◌∷◌}
use lib.ListN.{length, get_or}
use lib.Seq.{ext_get_or}
use Rattle.rules.specs.Lists.{firsts}
use Rattle.rules.proofs.Lists.{firsts_length, firsts_at}
use Rattle.trees.specs.Graph.{Graph, Closed}
use Rattle.trees.specs.Agreement.{SameTree, Minimal}
use Rattle.trees.proofs.Agreement.{same_sym, same_trans}
use Rattle.trees.proofs.Matching.{Matching, matching_same}
use Rattle.walks.specs.Walk.{walk}
use Rattle.walks.specs.Key.{place_of, walk_all, keyed, key_graph}
use Rattle.walks.proofs.Members.{member_at}
use Rattle.walks.proofs.Places.{place_within, place_here}
use Rattle.walks.proofs.Few.{Rows}
use Rattle.walks.proofs.Reached.{Finished, walk_first, all_rows_lem, all_few, all_finished, walk_enough}
use Rattle.walks.proofs.Pairing.{OneToOne, paired_single, paired_walk}

-- ---- what a key says of its rows

module _ (g : Graph) (l : List ℕ) (k : ℕ) where
  pub keyed_label : (keyed g l).label k ≡ g.label (get_or l k 0)
  unfolding keyed
  keyed_label = refl

  pub keyed_count : (keyed g l).count k ≡ g.count (get_or l k 0)
  unfolding keyed
  keyed_count = refl

  pub keyed_input : (j : ℕ) → (keyed g l).input k j ≡ place_of l (g.input (get_or l k 0) j)
  unfolding keyed
  keyed_input j = refl

-- ---- rows of a list that holds all their inputs

-- row k of the key stands for row x
pub record StandsFor (l : List ℕ) (k x : ℕ) : Type 0 where
  pub within : k < length l
  pub here : get_or l k 0 ≡ x

module _ {g : Graph} {l : List ℕ} (f : Finished g l) where
  pub keyed_matching : Matching (keyed g l) g (StandsFor l)
  unfolding keyed
  keyed_matching =
      record {
        alike = λ k x s. record { labels = ap g.label s.here; counts = ap g.count s.here };
        inputs = λ k x s j h.
            let m = f.inputs (get_or l k 0) j (member_at l k s.within) h in
            record { within = place_within m; here = place_here m ∙ ap (λ w. g.input w j) s.here };
      }

  pub keyed_closed : Closed (keyed g l) (length l)
  keyed_closed = record { within = λ k j h q. (keyed_matching.inputs k (get_or l k 0) (record { within = h; here = refl }) j q).within }

  pub keyed_tree : (k : ℕ) → k < length l → SameTree g (get_or l k 0) (keyed g l) k
  keyed_tree k h = same_sym (matching_same keyed_matching (record { within = h; here = refl }))

  pub keyed_minimal : {n : ℕ} → Rows n l → Minimal g n → Minimal (keyed g l) (length l)
  keyed_minimal r m =
      record {
        apart = λ a b p q s.
            r.once.one a b p q
            (m.apart (get_or l a 0) (get_or l b 0) (r.below.each a p) (r.below.each b q) (same_trans (keyed_tree a p) (same_trans s (same_sym (keyed_tree b q)))));
      }

-- ---- the key of a row

abbrev pub same : ℕ → ℕ
same k = k

module _ {g : Graph} {n u : ℕ} (c : Closed g n) (h : u < n) where
  pub key_tree : (k : ℕ) → k < length (walk_all g n u) → SameTree g (get_or (walk_all g n u) k 0) (key_graph g n u) k
  key_tree = keyed_tree (all_finished c h)

  pub key_first : SameTree g u (key_graph g n u) 0
  key_first = let f = walk_first g u n in rw f.1 at (key_tree 0 f.0)

  pub key_closed : Closed (key_graph g n u) (length (walk_all g n u))
  key_closed = keyed_closed (all_finished c h)

  pub key_minimal : Minimal g n → Minimal (key_graph g n u) (length (walk_all g n u))
  key_minimal = keyed_minimal (all_finished c h) (all_rows_lem c h)

  one_row_lem : OneToOne (StandsFor (walk_all g n u))
  one_row_lem =
      record {
        left = λ a b x s t. (all_rows_lem c h).once.one a b s.within t.within (s.here ∙ sym t.here);
        right = λ a x y s t. sym s.here ∙ t.here;
      }

  -- the walk over the key meets row k at place k
  pub key_walk : walk_all (key_graph g n u) (length (walk_all g n u)) 0 ≡ firsts same (length (walk_all g n u))
  key_walk =
      let l = walk_all g n u in
      let f = walk_first g u n in
      let p = paired_walk (keyed_matching (all_finished c h)) one_row_lem (paired_single (record { within = f.0; here = f.1 })) n in
      let w = walk (key_graph g n u) (0 ∷ []) n in
      sym (walk_enough key_closed f.0 n (omega (arith, p.long, all_few c h)))
      ∙ ext_get_or 0 w (firsts same (length l)) (p.long ∙ sym (firsts_length same (length l)))
      (λ i q.
      let s = p.each i q in
      let k : i < length l = omega (arith, p.long) in
      (all_rows_lem c h).once.one (get_or w i 0) i s.within k s.here ∙ sym (firsts_at same (length l) i k))
