-- A sorting is exact just when it is stable and coarse (003, 1.21 and 1.24), and rows are minimal just when one row a class is exact.
use Prim.Native.Nat.{ℕ, ◌<◌}
use native.Mathlib.Omega.{arith}
use mathlib.Core.Path.{◌≡◌}
use Rattle.trees.specs.Graph.{Graph, Closed}
use Rattle.trees.specs.Agreement.{SameTree, Minimal}
use Rattle.trees.specs.Sorting.{Stable, Coarse, Exact}
use Rattle.trees.proofs.Agreement.{same_refl, same_alike, same_input}
use Rattle.trees.proofs.Matching.{Matching, matching_same}

module _ {g : Graph} {n : ℕ} {c : ℕ → ℕ} where
  -- ---- stable and coarse give exact

  pub stable_finer : Closed g n → Stable g n c → (u v : ℕ) → u < n → v < n → c u ≡ c v → SameTree g u g v
  stable_finer closed s u v lu lv e = matching_same m (lu, lv, e)
    where
      m : Matching g g (λ u v. (u < n) × (v < n) × (c u ≡ c v))
      m = record {
        alike = λ u v r. s.alike u v r.0 r.1 r.2;
        inputs = λ u v r j l. let a = s.alike u v r.0 r.1 r.2 in
            (closed.within u j r.0 l, closed.within v j r.1 (omega arith), s.inputs u v r.0 r.1 r.2 j l);
      }

  pub exact_of : Closed g n → Stable g n c → Coarse g n c → Exact g n c
  exact_of closed s d = record { tree = stable_finer closed s; class = d.together }

  -- ---- and exact gives both

  pub exact_stable : Closed g n → Exact g n c → Stable g n c
  exact_stable closed x = record {
    alike = λ u v lu lv e. same_alike (x.tree u v lu lv e);
    inputs = λ u v lu lv e j l.
        let s = x.tree u v lu lv e in
        let a = same_alike s in
        x.class (g.input u j) (g.input v j) (closed.within u j lu l) (closed.within v j lv (omega arith)) (same_input s j l);
  }

  pub exact_coarse : Exact g n c → Coarse g n c
  exact_coarse x = record { together = x.class }

  -- ---- rows each in a class of its own

  pub exact_minimal : Exact g n c → ((u v : ℕ) → u < n → v < n → c u ≡ c v → u ≡ v) → Minimal g n
  exact_minimal x own = record { apart = λ u v lu lv s. own u v lu lv (x.class u v lu lv s) }

pub minimal_exact : {g : Graph} {n : ℕ} → Minimal g n → Exact g n (λ u. u)
minimal_exact {g} m = record { tree = λ u v lu lv e. rw e (same_refl g v); class = m.apart }
