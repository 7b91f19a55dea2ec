-- An input's position in a key is that of its least path (003, 1.35): back paths written as positions.
use Prim.Native.Nat.{ℕ, ◌<◌}
use native.Mathlib.Omega.{arith}
use native.Mathlib.Decide.{dec_lt}
use mathlib.Core.Path.{◌≡◌}
use mathlib.Core.List.{List}
use mathlib.Core.Logic.{◌↔◌}
use lib.ListN.{length, get_or}
use Rattle.trees.specs.Graph.{Graph, Closed}
use Rattle.walks.specs.Key.{place_of, walk_all, key_graph}
use Rattle.walks.specs.Member.{Member}
use Rattle.walks.proofs.Members.{member_at}
use Rattle.walks.proofs.Places.{place_within, place_here}
use Rattle.walks.proofs.Reached.{all_finished}
use Rattle.walks.proofs.Keyed.{keyed_input}
use Rattle.walks.proofs.LastStep.{Before, never_after}
use Rattle.walks.proofs.Trails.{walk_trail}
use Rattle.walks.proofs.Order.{LeastPath, least_one, walk_least, walk_order}

module _ {g : Graph} {n u : ℕ} (c : Closed g n) (h : u < n) (k j : ℕ) (q : k < length (walk_all g n u)) (l : j < g.count (get_or (walk_all g n u) k 0)) where
  abbrev x : ℕ
  x = g.input (get_or (walk_all g n u) k 0) j

  stands : Member (walk_all g n u) x
  stands = (all_finished c h).inputs (get_or (walk_all g n u) k 0) j (member_at (walk_all g n u) k q) l

  -- the path by which the walk met the row at that position is the least that leads to the input
  pub key_least : LeastPath g u (g.input (get_or (walk_all g n u) k 0) j) ((walk_trail g u n).paths ((key_graph g n u).input k j))
  key_least =
      let p = walk_least c h (place_of (walk_all g n u) x) (place_within stands) in
      rw (keyed_input g (walk_all g n u) k j) (rw (place_here stands) at p)

  -- the rows before that position are those whose least paths come before the input's
  module _ {p r : List ℕ} (a : LeastPath g u (g.input (get_or (walk_all g n u) k 0) j) p) (i : ℕ) (m : i < length (walk_all g n u)) (b : LeastPath g u (get_or (walk_all g n u) i 0) r) where
    here : LeastPath g u (get_or (walk_all g n u) (place_of (walk_all g n u) x) 0) p
    here = rw (place_here stands) a

    earlier : Before r p → i < place_of (walk_all g n u) x
    earlier f = go (dec_lt i (place_of (walk_all g n u) x)) (dec_lt (place_of (walk_all g n u) x) i)
      where
        go : Dec (i < place_of (walk_all g n u) x) → Dec (place_of (walk_all g n u) x < i) → i < place_of (walk_all g n u) x
        go (yes s) d = s
        go (no s) (yes t) = absurd (never_after (walk_order c h (place_of (walk_all g n u) x) i t m here b) f.first)
        go (no s) (no t) =
            let e : i ≡ place_of (walk_all g n u) x = omega arith in
            absurd (f.other (least_one (rw e at b) here))

    pub key_position : (i < (key_graph g n u).input k j) ↔ Before r p
    key_position =
        let e = keyed_input g (walk_all g n u) k j in
        ((λ s. walk_order c h i (place_of (walk_all g n u) x) (rw e at s) (place_within stands) b here), (λ f. rw e (earlier f)))
