-- Rows of two minimal graphs have the same tree exactly when their keys are the same: walks from them meet rows of the same
-- trees in the same order, and a key tells its tree.
use Prim.Native.Nat.{ℕ, ◌+◌, ◌<◌}
use native.Mathlib.Omega.{arith}
use mathlib.Core.Path.{◌≡◌, ap, ◌∙◌}
use mathlib.Core.List.{List, [], ◌∷◌}
use lib.ListN.{length, get_or}
use Rattle.rules.specs.Lists.{firsts}
use Rattle.rules.proofs.Lists.{firsts_length, firsts_at}
use Rattle.trees.specs.Graph.{Graph, Closed}
use Rattle.trees.specs.Agreement.{SameTree, Minimal}
use Rattle.trees.proofs.Agreement.{same_sym, same_trans, same_alike, same_input}
use Rattle.trees.proofs.Matching.{Matching, SaysSame, views_same}
use Rattle.walks.specs.Key.{place_of, walk_all, keyed, key_graph}
use Rattle.walks.proofs.Members.{member_at}
use Rattle.walks.proofs.Places.{place_at}
use Rattle.walks.proofs.Steps.{walk_still}
use Rattle.walks.proofs.Reached.{Finished, walk_first, all_rows_lem, all_few, all_finished}
use Rattle.walks.proofs.Pairing.{OneToOne, Paired, paired_single, paired_walk, paired_place}
use Rattle.walks.proofs.Keyed.{same, key_first, key_closed}

-- the first n rows of g and the first m rows of h are the same rows, word for word
pub record SameKey (g h : Graph) (n m : ℕ) : Type 0 where
  pub rows : n ≡ m
  pub labels : (i : ℕ) → i < n → g.label i ≡ h.label i
  pub counts : (i : ℕ) → i < n → g.count i ≡ h.count i
  pub inputs : (i j : ℕ) → i < n → j < g.count i → g.input i j ≡ h.input i j

-- ---- paired lists give one key

pub paired_key : {g h : Graph} {R : ℕ → ℕ → Type 0} {l r : List ℕ} → Matching g h R → OneToOne R → Paired R l r → Finished g l
    → SameKey (keyed g l) (keyed h r) (length l) (length r)
unfolding keyed
paired_key {l = l} {r = r} m o p f =
    record {
      rows = p.long;
      labels = λ i q. (m.alike (get_or l i 0) (get_or r i 0) (p.each i q)).labels;
      counts = λ i q. (m.alike (get_or l i 0) (get_or r i 0) (p.each i q)).counts;
      inputs = λ i j q k.
          paired_place o p (m.inputs (get_or l i 0) (get_or r i 0) (p.each i q) j k) (f.inputs (get_or l i 0) j (member_at l i q) k);
    }

-- ---- the pairing of minimal rows: by the same tree

pub record Twins (g : Graph) (n : ℕ) (h : Graph) (m : ℕ) (a b : ℕ) : Type 0 where
  pub left : a < n
  pub right : b < m
  pub tree : SameTree g a h b

pub twins_one : {g h : Graph} {n m : ℕ} → Minimal g n → Minimal h m → OneToOne (Twins g n h m)
twins_one a b =
    record {
      left = λ x y z s t. a.apart x y s.left t.left (same_trans s.tree (same_sym t.tree));
      right = λ x y z s t. b.apart y z s.right t.right (same_trans (same_sym s.tree) t.tree);
    }

module _ {g h : Graph} {n m : ℕ} (c : Closed g n) (d : Closed h m) where
  pub twins_matching : Matching g h (Twins g n h m)
  twins_matching =
      record {
        alike = λ x y s. same_alike s.tree;
        inputs = λ x y s j k.
            let a = same_alike s.tree in
            record {
              left = c.within x j s.left k;
              right = d.within y j s.right (omega arith);
              tree = same_input s.tree j k;
            };
      }

  module _ {u v : ℕ} (p : u < n) (q : v < m) where
    pub same_walk : Minimal g n → Minimal h m → SameTree g u h v → Paired (Twins g n h m) (walk_all g n u) (walk_all h m v)
    same_walk a b s =
        let w = paired_walk twins_matching (twins_one a b) (paired_single (record { left = p; right = q; tree = s })) (n + m) in
        rw (walk_still g (u ∷ []) n (n + m) (all_few c p) (omega arith), walk_still h (v ∷ []) m (n + m) (all_few d q) (omega arith)) at w

    -- same tree, same key
    pub same_key : Minimal g n → Minimal h m → SameTree g u h v → SameKey (key_graph g n u) (key_graph h m v) (length (walk_all g n u)) (length (walk_all h m v))
    same_key a b s = paired_key twins_matching (twins_one a b) (same_walk a b s) (all_finished c p)

    -- same key, same tree
    pub key_same : SameKey (key_graph g n u) (key_graph h m v) (length (walk_all g n u)) (length (walk_all h m v)) → SameTree g u h v
    key_same s =
        let says : SaysSame (key_graph g n u) (key_graph h m v) (length (walk_all g n u)) =
        record {
          alike = λ i l. record { labels = s.labels i l; counts = s.counts i l };
          inputs = λ i l j. s.inputs i j l;
        } in
        same_trans (key_first c p) (same_trans (views_same (key_closed c p) says 0 (walk_first g u n).0) (same_sym (key_first d q)))

-- ---- rows in the order of their walk are their own key

pub own_key : {g : Graph} {n : ℕ} → Closed g n → 0 < n → walk_all g n 0 ≡ firsts same n → SameKey (key_graph g n 0) g (length (walk_all g n 0)) n
unfolding keyed
own_key {g} {n} c h e =
    record {
      rows = rows;
      labels = λ i q. ap g.label (at i (omega (arith, rows)));
      counts = λ i q. ap g.count (at i (omega (arith, rows)));
      inputs = λ i j q k. input i j (omega (arith, rows)) k;
    }
  where
    rows : length (walk_all g n 0) ≡ n
    rows = ap length e ∙ firsts_length same n

    at : (i : ℕ) → i < n → get_or (walk_all g n 0) i 0 ≡ i
    at i q = ap (λ l. get_or l i 0) e ∙ firsts_at same n i q

    input : (i j : ℕ) → i < n → j < g.count (get_or (walk_all g n 0) i 0) → place_of (walk_all g n 0) (g.input (get_or (walk_all g n 0) i 0) j) ≡ g.input i j
    input i j q =
        rw (at i q)
        (λ k.
        let l = c.within i j q k in
        rw (at (g.input i j) l) at (place_at (all_rows_lem c h).once (g.input i j) (omega (arith, rows))))
