-- The walk from row u over closed rows meets exactly the rows to which some path leads from u, and it has met them all as soon
-- as every place has been visited.
use Prim.Native.Nat.{ℕ, ◌≤◌, ◌<◌}
use native.Mathlib.Omega.{arith}
use mathlib.Core.Path.{◌≡◌}
use mathlib.Core.List.{List, [], ◌∷◌}
use mathlib.Core.Logic.{◌↔◌}
use lib.ListN.{length, get_or}
use Rattle.trees.specs.Graph.{Graph, Closed}
use Rattle.trees.specs.Paths.{row, reach, Leads}
use Rattle.trees.proofs.Paths.{reach_here, reach_first, leads_self, leads_last}
use Rattle.walks.specs.Walk.{walk}
use Rattle.walks.specs.Key.{walk_all}
use Rattle.walks.specs.Member.{Member}
use Rattle.walks.proofs.Members.{Each, each_member, single_each}
use Rattle.walks.proofs.Steps.{walk_none, walk_grown, walk_one, walk_visited, walk_each}
use Rattle.walks.proofs.Few.{Rows, rows_single, rows_walk, rows_few}

-- each input of each member is a member
pub record Finished (g : Graph) (l : List ℕ) : Type 0 where
  pub inputs : (x j : ℕ) → Member l x → j < g.count x → Member l (g.input x j)

-- when every place has been visited
pub walk_finished : (g : Graph) (from : List ℕ) (k : ℕ) → length (walk g from k) ≤ k → Finished g (walk g from k)
walk_finished g from k h =
    record { inputs = λ x j m. rw m.here at (walk_visited g from k m.at j (omega (arith, m.within)) m.within) }

pub finished_leads : {g : Graph} {l : List ℕ} {u x : ℕ} → Finished g l → Member l u → Leads g u x → Member l x
finished_leads {g} {l} {u} {x} f m a = go u a.path m a.there
  where
    go : (u : ℕ) (p : List ℕ) → Member l u → reach g u p ≡ row x → Member l x
    go u [] m e = let q : u ≡ x = cc (reach_here g u) in rw q at m
    go u (j ∷ p) m e = let s = reach_first g u j p e in go (g.input u j) p (f.inputs u j m s.0) s.1

-- ---- the walk from one row

module _ (g : Graph) (u : ℕ) where
  -- every row met is led to
  pub walk_leads : (k : ℕ) → Each (λ x. Leads g u x) (walk g (u ∷ []) k)
  walk_leads = walk_each g (λ x j a h. leads_last a j h) (single_each (leads_self g u))

  pub walk_first : (k : ℕ) → (0 < length (walk g (u ∷ []) k)) × (get_or (walk g (u ∷ []) k) 0 0 ≡ u)
  walk_first k =
      let s = rw walk_none at (walk_grown g (u ∷ []) 0 k (omega arith)) in
      (omega (arith, s.longer), s.kept 0 (omega arith))

  pub walk_start : (k : ℕ) → Member (walk g (u ∷ []) k) u
  walk_start k = let f = walk_first k in record { at = 0; within = f.0; here = f.1 }

-- ---- over closed rows

module _ {g : Graph} {n u : ℕ} (c : Closed g n) (h : u < n) where
  pub all_rows_lem : Rows n (walk_all g n u)
  all_rows_lem = rows_walk (rows_single n u h) c n

  pub all_few : length (walk_all g n u) ≤ n
  all_few = rows_few all_rows_lem

  pub all_finished : Finished g (walk_all g n u)
  all_finished = walk_finished g (u ∷ []) n all_few

  pub all_leads : {x : ℕ} → Member (walk_all g n u) x ↔ Leads g u x
  all_leads = (each_member (walk_leads g u n), finished_leads all_finished (walk_start g u n))

  -- the walk may stop when every place has been visited
  pub walk_enough : (k : ℕ) → length (walk g (u ∷ []) k) ≤ k → walk g (u ∷ []) k ≡ walk_all g n u
  walk_enough k q = walk_one g (u ∷ []) k n q all_few
