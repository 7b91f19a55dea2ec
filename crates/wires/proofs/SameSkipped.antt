-- Rows of one tree as drawn have one tree with wires skipped.
use Prim.Native.Nat.{ℕ, zero, suc, ◌<◌}
use native.Mathlib.Omega.{arith}
use mathlib.Core.Path.{sym, ap, ◌∙◌}
use mathlib.Core.Bool.{Bool}
use Rattle.trees.specs.Graph.{Graph, Closed}
use Rattle.trees.specs.Agreement.{Alike, SameTree}
use Rattle.trees.proofs.Agreement.{same_alike, same_input}
use Rattle.trees.proofs.Matching.{Matching, matching_same}
use Rattle.wires.specs.Wires.{is_wire, Wire, follow, most_wires, through, skipping, WiresFit}
use Rattle.wires.proofs.Following.{Told, told_wire, told_plain, told, follow_none, follow_wire, follow_plain, follow_low}

-- rows that are alike are wires both, or neither
pub alike_wire : {g h : Graph} {u v : ℕ} → Alike g u h v → Wire g u → Wire h v
alike_wire a w = record { is = ap is_wire (sym a.labels) ∙ w.is }

pub wire_alike : {g h : Graph} {u v : ℕ} → Alike g u h v → Wire h v → Wire g u
wire_alike a w = record { is = ap is_wire a.labels ∙ w.is }

module _ {g h : Graph} {n : ℕ} (c : Closed g n) (f : WiresFit g n) where
  -- so many wires lead from them to rows of one tree
  pub follow_same : (k u v : ℕ) → u < n → SameTree g u h v → SameTree g (follow g k u) h (follow h k v)
  follow_same zero u v l s = rw (follow_none g u, follow_none h v) s
  follow_same (suc k) u v l s = go (told g u) (follow_same k (g.input u 0) (h.input v 0))
    where
      go : {t : Bool} → Told g u t
          → (g.input u 0 < n → SameTree g (g.input u 0) h (h.input v 0) → SameTree g (follow g k (g.input u 0)) h (follow h k (h.input v 0)))
          → SameTree g (follow g (suc k) u) h (follow h (suc k) v)
      go (told_wire w) ih =
          let one = f.one u l w in
          rw (follow_wire g k u w, follow_wire h k v (alike_wire (same_alike s) w)) (ih (c.within u 0 l (omega arith)) (same_input s 0 (omega arith)))
      go (told_plain p) ih = rw (follow_plain g (suc k) u p, follow_plain h (suc k) v (λ w. p (wire_alike (same_alike s) w))) s

  pub through_same_tree : (u v : ℕ) → u < n → SameTree g u h v → SameTree g (through g u) h (through h v)
  through_same_tree = follow_same most_wires

  pub same_skipped : (u v : ℕ) → u < n → SameTree g u h v → SameTree (skipping g) u (skipping h) v
  unfolding skipping
  same_skipped u v l s = matching_same m (l, s)
    where
      m : Matching (skipping g) (skipping h) (λ u v. (u < n) × SameTree g u h v)
      m = record {
        alike = λ u v q.
            let t = same_alike (through_same_tree u v q.0 q.1) in record { labels = t.labels; counts = t.counts };
        inputs = λ u v q j k.
            (c.within (through g u) j (follow_low g c f most_wires u q.0) k, same_input (through_same_tree u v q.0 q.1) j k);
      }
