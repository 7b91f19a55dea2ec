-- Wires among rows that a predicate picks out and wires keep: they end, or they lead to a loop of wires.
use Prim.Native.Nat.{ℕ, zero, suc, ◌≤◌, ◌<◌}
use mathlib.Core.Path.{◌≡◌}
use mathlib.Core.Bool.{Bool}
use mathlib.Core.List.{List, [], ◌∷◌}
use Rattle.trees.specs.Graph.{Graph}
use Rattle.trees.specs.Paths.{reach, row, Leads}
use Rattle.trees.proofs.Paths.{reach_here, reach_first, leads_self, leads_input, leads_trans}
use Rattle.wires.specs.Wires.{Wire, follow, most_wires, through}
use Rattle.wires.specs.Jumps.{Jump}
use Rattle.wires.proofs.Following.{Told, told_wire, told_plain, told, follow_none, follow_wire, follow_plain}
use Rattle.wires.proofs.WireLoops.{Astray, Kept, wires_loop}
use Rattle.wires.proofs.Doubling.{jump_through}

-- rows below n, each with its inputs among them, and each wire with an input
pub record Among (g : Graph) (n : ℕ) (P : ℕ → Type 0) : Type 0 where
  pub low : (u : ℕ) → P u → u < n
  pub inputs : (u j : ℕ) → P u → j < g.count u → P (g.input u j)
  pub wires : (u : ℕ) → P u → Wire g u → 0 < g.count u

module _ {g : Graph} {n : ℕ} {P : ℕ → Type 0} (a : Among g n P) where
  pub among_follow : (k u : ℕ) → P u → P (follow g k u)
  among_follow zero u p = rw (follow_none g u) p
  among_follow (suc k) u p = go (told g u) (among_follow k (g.input u 0))
    where
      go : {t : Bool} → Told g u t → (P (g.input u 0) → P (follow g k (g.input u 0))) → P (follow g (suc k) u)
      go (told_wire w) ih = rw (follow_wire g k u w) (ih (a.inputs u 0 p (a.wires u p w)))
      go (told_plain q) ih = rw (follow_plain g (suc k) u q) p

  -- wires are a path
  pub among_leads : (k u : ℕ) → P u → Leads g u (follow g k u)
  among_leads zero u p = rw (follow_none g u) (leads_self g u)
  among_leads (suc k) u p = go (told g u) (among_leads k (g.input u 0))
    where
      go : {t : Bool} → Told g u t → (P (g.input u 0) → Leads g (g.input u 0) (follow g k (g.input u 0))) → Leads g u (follow g (suc k) u)
      go (told_wire w) ih =
          rw (follow_wire g k u w) (leads_trans (leads_input g u 0 (a.wires u p w)) (ih (a.inputs u 0 p (a.wires u p w))))
      go (told_plain q) ih = rw (follow_plain g (suc k) u q) (leads_self g u)

  among_kept : (u : ℕ) → P u → Kept g n u
  among_kept u h = record { low = λ k w. a.low (follow g k u) (among_follow k u h) }

  pub among_loop : n ≤ most_wires → (u : ℕ) → P u → Wire g (through g u) → Astray g u
  among_loop few u h w = wires_loop g (among_kept u h) few w

  -- no path leads out of them, so none leads to a row that is none of them
  pub among_stays : (p : List ℕ) (u v : ℕ) → P u → reach g u p ≡ row v → P v
  among_stays [] u v h e = let d : u ≡ v = cc (reach_here g u) in rw d at h
  among_stays (m ∷ p) u v h e = let s = reach_first g u m p e in among_stays p (g.input u m) v (a.inputs u m h s.0) s.1

  -- a row that is no wire, where at least 2,048 wires lead, is where the wires lead
  pub among_through : n ≤ most_wires → {u v : ℕ} → P u → Jump g most_wires u v → (Wire g v → ⊥) → v ≡ through g u
  among_through few {u} h j p = jump_through g (among_kept u h) few j p
