-- Laws of paths: the same tree exactly when every path sees the same, and what leads from row to row.
use Prim.Native.Nat.{ℕ, ◌≤◌, ◌<◌}
use native.Mathlib.Omega.{arith}
use native.Mathlib.Decide.{dec_lt}
use mathlib.Core.Path.{◌≡◌, refl, sym, ap, ◌∙◌}
use mathlib.Core.List.{List, [], ◌∷◌, ◌++◌}
use borrow.Author.Tests.{lt-ltb, le-ltb}
use Rattle.trees.specs.Graph.{Graph, Closed}
use Rattle.trees.specs.Agreement.{Alike, SameTree}
use Rattle.trees.specs.Paths.{Reached, row, nowhere, reach, seen, look, tree, Leads}
use Rattle.trees.proofs.Agreement.{same_alike, same_input}
use Rattle.trees.proofs.Matching.{Matching, matching_same}

-- ---- a path's first step: no other law unfolds reach

module _ (g : Graph) (u : ℕ) where
  pub reach_here : reach g u [] ≡ row u
  unfolding reach
  reach_here = refl

  pub reach_hit : (m : ℕ) (p : List ℕ) → m < g.count u → reach g u (m ∷ p) ≡ reach g (g.input u m) p
  unfolding reach
  reach_hit m p l = simp (lt-ltb m (g.count u) l)

  pub reach_miss : (m : ℕ) (p : List ℕ) → g.count u ≤ m → reach g u (m ∷ p) ≡ nowhere
  unfolding reach
  reach_miss m p l = simp (le-ltb m (g.count u) l)

  pub tree_here : tree g u [] ≡ seen (g.label u) (g.count u)
  unfolding tree look
  tree_here = rw reach_here

  pub tree_hit : (m : ℕ) (p : List ℕ) → m < g.count u → tree g u (m ∷ p) ≡ tree g (g.input u m) p
  unfolding tree
  tree_hit m p l = rw (reach_hit m p l)

-- a path that leads to a row takes its first step to an input
pub reach_first : (g : Graph) (u m : ℕ) (p : List ℕ) {v : ℕ} → reach g u (m ∷ p) ≡ row v → (m < g.count u) × (reach g (g.input u m) p ≡ row v)
reach_first g u m p {v} e = go (dec_lt m (g.count u))
  where
    go : Dec (m < g.count u) → (m < g.count u) × (reach g (g.input u m) p ≡ row v)
    go (yes l) = (l, sym (reach_hit g u m p l) ∙ e)
    go (no l) = let z : ◌≡◌ {A = ℕ} 0 1 = cc (reach_miss g u m p (omega arith)) in absurd (omega arith)

pub reach_append : (g : Graph) (u : ℕ) (p q : List ℕ) {v : ℕ} → reach g u p ≡ row v → reach g u (p ++ q) ≡ reach g v q
reach_append g u [] q e = ap (λ w. reach g w q) (cc (reach_here g u))
reach_append g u (m ∷ p) q e =
    let s = reach_first g u m p e in
    reach_hit g u m (p ++ q) s.0 ∙ reach_append g (g.input u m) p q s.1

-- ---- the same tree by paths

-- from row v of h path p leads to a row with the tree of row a of g
pub record Followed (g : Graph) (a : ℕ) (h : Graph) (v : ℕ) (p : List ℕ) : Type 0 where
  pub end : ℕ
  pub there : reach h v p ≡ row end
  pub same : SameTree g a h end

-- two rows of the same tree, or nothing twice
data Meet (g h : Graph) : Reached → Reached → Type 0 where
  rows : {a b : ℕ} → SameTree g a h b → Meet g h (row a) (row b)
  none : Meet g h nowhere nowhere

module _ {g h : Graph} where
  meet : {u v : ℕ} → SameTree g u h v → (p : List ℕ) → Meet g h (reach g u p) (reach h v p)
  meet {u} {v} s [] = rw (reach_here g u, reach_here h v) (rows s)
  meet {u} {v} s (m ∷ p) = go (same_alike s) (dec_lt m (g.count u)) (λ l. meet {u = g.input u m} {v = h.input v m} (same_input s m l) p)
    where
      go : Alike g u h v → Dec (m < g.count u) → (m < g.count u → Meet g h (reach g (g.input u m) p) (reach h (h.input v m) p))
          → Meet g h (reach g u (m ∷ p)) (reach h v (m ∷ p))
      go a (yes l) rest = rw (reach_hit g u m p l, reach_hit h v m p (omega arith)) (rest l)
      go a (no l) rest = rw (reach_miss g u m p (omega arith), reach_miss h v m p (omega arith)) none

  meet_look : {x y : Reached} → Meet g h x y → look g x ≡ look h y
  unfolding look
  meet_look (rows s) = let a = same_alike s in cc
  meet_look none = refl

  pub same_path : {u v : ℕ} → SameTree g u h v → (p : List ℕ) → tree g u p ≡ tree h v p
  unfolding tree
  same_path s p = meet_look (meet s p)

  -- a path from one of two rows of the same tree leads from the other too, to rows of the same tree
  pub same_reach : {u v : ℕ} → SameTree g u h v → (p : List ℕ) {a : ℕ} → reach g u p ≡ row a → Followed g a h v p
  same_reach {u} {v} s p {a} e = go (rw e at (meet s p)) refl
    where
      go : {y : Reached} → Meet g h (row a) y → reach h v p ≡ y → Followed g a h v p
      go (rows {b = b} t) f = record { end = b; there = f; same = t }

  paths_alike : (u v : ℕ) → ((p : List ℕ) → tree g u p ≡ tree h v p) → Alike g u h v
  paths_alike u v e =
      let s : seen (g.label u) (g.count u) ≡ seen (h.label v) (h.count v) = cc (tree_here g u, tree_here h v, e []) in
      record { labels = cc; counts = cc }

  pub path_same : {u v : ℕ} → ((p : List ℕ) → tree g u p ≡ tree h v p) → SameTree g u h v
  path_same = matching_same m
    where
      m : Matching g h (λ u v. (p : List ℕ) → tree g u p ≡ tree h v p)
      m = record {
        alike = paths_alike;
        inputs = λ u v e j l p. let a = paths_alike u v e in sym (tree_hit g u j p l) ∙ e (j ∷ p) ∙ tree_hit h v j p (omega arith);
      }

-- ---- what leads from row to row

pub leads_self : (g : Graph) (u : ℕ) → Leads g u u
leads_self g u = record { path = []; there = reach_here g u }

pub leads_input : (g : Graph) (u j : ℕ) → j < g.count u → Leads g u (g.input u j)
leads_input g u j l = record { path = j ∷ []; there = reach_hit g u j [] l ∙ reach_here g (g.input u j) }

module _ {g : Graph} {u v : ℕ} where
  pub leads_trans : {w : ℕ} → Leads g u v → Leads g v w → Leads g u w
  leads_trans a b = record { path = a.path ++ b.path; there = reach_append g u a.path b.path a.there ∙ b.there }

  pub leads_last : Leads g u v → (j : ℕ) → j < g.count v → Leads g u (g.input v j)
  leads_last a j l = leads_trans a (leads_input g v j l)

reach_within : {g : Graph} {n : ℕ} → Closed g n → (p : List ℕ) (u : ℕ) {v : ℕ} → u < n → reach g u p ≡ row v → v < n
reach_within {g} c [] u {v} l e = let d : u ≡ v = cc (reach_here g u) in omega arith
reach_within {g} c (m ∷ p) u l e =
    let s = reach_first g u m p e in
    reach_within c p (g.input u m) (c.within u m l s.0) s.1

pub leads_within : {g : Graph} {n u v : ℕ} → Closed g n → u < n → Leads g u v → v < n
leads_within {u = u} c l a = reach_within c a.path u l a.there
