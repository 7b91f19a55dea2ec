-- The walk meets rows in the order of their least paths (003, 1.31 and 1.35): the path by which a row was met is the least that
-- leads to it, and these paths rise from place to place.
use Prim.Native.Nat.{ℕ, ◌≤◌, ◌<◌}
use native.Mathlib.Omega.{arith}
use mathlib.Core.Path.{◌≡◌}
use mathlib.Core.List.{List, [], ◌∷◌, ◌++◌, append_assoc, append-nil}
use lib.ListN.{length, get_or}
use Rattle.trees.specs.Graph.{Graph, Closed}
use Rattle.trees.specs.Paths.{row, reach}
use Rattle.trees.specs.PathOrder.{◌≤path◌}
use Rattle.trees.proofs.Paths.{reach_here, reach_first}
use Rattle.trees.proofs.PathOrder.{path_refl, path_antisym, path_trans, path_extend}
use Rattle.walks.specs.Key.{walk_all}
use Rattle.walks.proofs.Members.{Once}
use Rattle.walks.proofs.Reached.{all_rows_lem, all_few}
use Rattle.walks.proofs.LastStep.{Before}
use Rattle.walks.proofs.Trails.{MetBy, place, SoFar, walk_trail}

-- p leads from u to x, and no path that does comes before it
pub record LeastPath (g : Graph) (u x : ℕ) (p : List ℕ) : Type 0 where
  pub there : reach g u p ≡ row x
  pub least : (q : List ℕ) → reach g u q ≡ row x → p ≤path q

pub least_one : {g : Graph} {u x : ℕ} {p q : List ℕ} → LeastPath g u x p → LeastPath g u x q → p ≡ q
least_one {p = p} {q = q} a b = path_antisym p q (a.least q b.there) (b.least p a.there)

-- ---- when every place has been visited, these paths are the least

module _ {g : Graph} {u k : ℕ} {l : List ℕ} (s : SoFar g u k 0 l) (all : length l ≤ k) where
  -- a path followed from a row met
  follow : (q p : List ℕ) {x y : ℕ} → MetBy l s.paths x p → reach g x q ≡ row y → MetBy l s.paths y (p ++ q)
  follow [] p {x} {y} b e =
      let i : x ≡ y = cc (reach_here g x) in
      rw (append-nil, ← i) b
  follow (m ∷ q) p {x} {y} b e =
      let f = reach_first g x m q e in
      let t = s.tried b.at m (place (omega (arith, b.within))) b.within (rw b.here f.0) in
      let c : MetBy l s.paths (g.input x m) (p ++ (m ∷ [])) =
      record {
        at = t.at;
        within = t.within;
        here = rw b.here at t.here;
        early = path_trans (s.paths t.at) (s.paths b.at ++ (m ∷ [])) (p ++ (m ∷ [])) t.early (path_extend (s.paths b.at) p (m ∷ []) b.early);
      } in
      rw append_assoc at (follow q (p ++ (m ∷ [])) c f.1)

  least_paths : Once l → (i : ℕ) → i < length l → LeastPath g u (get_or l i 0) (s.paths i)
  least_paths o i h = record { there = s.trail.there i h; least = least }
    where
      -- place 0 is the row itself
      root : get_or l 0 0 ≡ u
      root = let e = s.trail.there 0 (omega arith) in let f = rw s.start at e in cc (reach_here g u)

      first : MetBy l s.paths u []
      first = record { at = 0; within = omega arith; here = root; early = rw s.start (path_refl []) }

      least : (q : List ℕ) → reach g u q ≡ row (get_or l i 0) → s.paths i ≤path q
      least q e =
          let b = follow q [] first e in
          rw (o.one b.at i b.within h b.here) at b.early

-- ---- the walk over closed rows

module _ {g : Graph} {n u : ℕ} (c : Closed g n) (h : u < n) where
  -- the path of each place is the least
  pub walk_least : (i : ℕ) → i < length (walk_all g n u) → LeastPath g u (get_or (walk_all g n u) i 0) ((walk_trail g u n).paths i)
  walk_least = least_paths (walk_trail g u n) (all_few c h) (all_rows_lem c h).once

  -- least paths rise from place to place
  pub walk_order : (i k : ℕ) → i < k → k < length (walk_all g n u) → {p q : List ℕ} → LeastPath g u (get_or (walk_all g n u) i 0) p → LeastPath g u (get_or (walk_all g n u) k 0) q → Before p q
  walk_order i k l m a b =
      rw (least_one a (walk_least i (omega arith)), least_one b (walk_least k m)) ((walk_trail g u n).trail.rising i k l m)
