-- How two rows are shown to have the same tree: by a relation that holds of rows alike and goes on to their inputs,
-- by a renumbering of rows, and by two graphs that say the same of their first rows.
use Prim.Native.Nat.{ℕ, zero, suc, ◌<◌}
use mathlib.Core.Path.{◌≡◌, refl, sym}
use Rattle.trees.specs.Graph.{Graph, Closed}
use Rattle.trees.specs.Agreement.{Alike, Agree, SameTree}
use Rattle.trees.proofs.Agreement.{agree_zero, agree_build, same_alike, same_input}

-- related rows are alike, and their corresponding inputs are related
pub record Matching (g h : Graph) (R : ℕ → ℕ → Type 0) : Type 0 where
  pub alike : (u v : ℕ) → R u v → Alike g u h v
  pub inputs : (u v : ℕ) → R u v → (j : ℕ) → j < g.count u → R (g.input u j) (h.input v j)

pub matching_same : {g h : Graph} {R : ℕ → ℕ → Type 0} → Matching g h R → {u v : ℕ} → R u v → SameTree g u h v
matching_same {g} {h} {R} m {u} {v} r = record { agree = λ k. go k u v r }
  where
    go : (k u v : ℕ) → R u v → Agree k g u h v
    go zero u v r = agree_zero g h u v (m.alike u v r)
    go (suc k) u v r = agree_build g h k u v (m.alike u v r) (λ j l. go k (g.input u j) (h.input v j) (m.inputs u v r j l))

-- the same tree is itself such a relation, so it is the coarsest (003, 1.21)
pub same_matching : (g h : Graph) → Matching g h (λ u v. SameTree g u h v)
same_matching g h = record { alike = λ u v s. same_alike s; inputs = λ u v s. same_input s }

-- row u of g, where P u holds, stands in h as row f u
pub record Renumbered (g : Graph) (P : ℕ → Type 0) (h : Graph) (f : ℕ → ℕ) : Type 0 where
  pub alike : (u : ℕ) → P u → Alike g u h (f u)
  pub inputs : (u : ℕ) → P u → (j : ℕ) → j < g.count u → h.input (f u) j ≡ f (g.input u j)
  pub stays : (u : ℕ) → P u → (j : ℕ) → j < g.count u → P (g.input u j)

-- rows that stand elsewhere under a renumbering keep their trees
pub renumbered_same : {g h : Graph} {P : ℕ → Type 0} {f : ℕ → ℕ} → Renumbered g P h f → (u : ℕ) → P u → SameTree g u h (f u)
renumbered_same {g} {h} {P} {f} r u p = matching_same m (p, refl)
  where
    m : Matching g h (λ u v. P u × (v ≡ f u))
    m = record {
      alike = λ u v q. rw q.1 (r.alike u q.0);
      inputs = λ u v q j l. (r.stays u q.0 j l, rw q.1 (r.inputs u q.0 j l));
    }

-- two graphs say the same of each of the first n rows
pub record SaysSame (g h : Graph) (n : ℕ) : Type 0 where
  pub alike : (u : ℕ) → u < n → Alike g u h u
  pub inputs : (u : ℕ) → u < n → (j : ℕ) → j < g.count u → g.input u j ≡ h.input u j

pub views_same : {g h : Graph} {n : ℕ} → Closed g n → SaysSame g h n → (u : ℕ) → u < n → SameTree g u h u
views_same {g} {h} {n} c s = renumbered_same r
  where
    r : Renumbered g (λ u. u < n) h (λ u. u)
    r = record { alike = s.alike; inputs = λ u l j k. sym (s.inputs u l j k); stays = λ u l j. c.within u j l }
