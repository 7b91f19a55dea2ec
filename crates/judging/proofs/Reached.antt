-- Rows met: exactly those to which a start leads.
use Prim.Native.Nat.{ℕ, ◌≤◌, ◌<◌}
use native.Mathlib.Omega.{arith}
use native.Mathlib.Decide.{ℕ_discrete}
use mathlib.Core.Path.{◌≡◌, sym, ◌∙◌}
use mathlib.Core.List.{List, [], ◌∷◌}
use lib.ListN.{set}
use lib.Seq.{get_or-set_same, get_or-set_other}
use Rattle.trees.specs.Graph.{Graph, Closed}
use Rattle.trees.specs.Paths.{row, reach, Leads}
use Rattle.trees.proofs.Paths.{reach_here, reach_first, leads_self, leads_last}
use Rattle.judging.specs.Verdicts.{state_of, Led, Begun}
use Rattle.judging.specs.Moves.{Moved, moved_none, moved_more}
use Rattle.judging.specs.Rules.{meeting, Met}

module _ (g : Graph) (n : ℕ) where
  -- ---- a row met is led to

  pub met_led : {old new : List ℕ} → Moved (meeting g n) old new → (x : ℕ) → x < n → state_of new x ≡ 1 → Led g n old x
  unfolding meeting
  met_led moved_none x h m = record { start = x; within = h; marked = m; leads = leads_self g x }
  met_led {old} (moved_more {mid = mid} {u = u} t l e p) x h m =
      go (ℕ_discrete x u) (met_led t p.row p.within p.met) (λ i. met_led t x h i)
    where
      from : Led g n old p.row → Led g n old (g.input p.row p.input)
      from a = record { start = a.start; within = a.within; marked = a.marked; leads = leads_last a.leads p.input p.of_row }

      go : Dec (x ≡ u) → Led g n old p.row → (state_of mid x ≡ 1 → Led g n old x) → Led g n old x
      go (yes q) a before = rw (q, sym p.is) (from a)
      go (no q) a before = before (sym (get_or-set_other mid u x 1 0 q) ∙ m)

  -- ---- a start stays met, and no state goes past met

  pub moved_met : {old new : List ℕ} → Moved (meeting g n) old new → (x : ℕ) → state_of old x ≡ 1 → state_of new x ≡ 1
  unfolding meeting
  moved_met moved_none x m = m
  moved_met (moved_more {mid = mid} {u = u} t l e p) x m = go (moved_met t x m) (ℕ_discrete x u)
    where
      go : state_of mid x ≡ 1 → Dec (x ≡ u) → state_of (set mid u 1) x ≡ 1
      go k (yes q) = rw q (get_or-set_same mid u 1 0 l)
      go k (no q) = get_or-set_other mid u x 1 0 q ∙ k

  pub moved_low : {old new : List ℕ} → Moved (meeting g n) old new → (x : ℕ) → state_of old x ≤ 1 → state_of new x ≤ 1
  unfolding meeting
  moved_low moved_none x m = m
  moved_low (moved_more {mid = mid} {u = u} t l e p) x m = go (moved_low t x m) (ℕ_discrete x u)
    where
      go : state_of mid x ≤ 1 → Dec (x ≡ u) → state_of (set mid u 1) x ≤ 1
      go k (yes q) = let z : state_of (set mid u 1) x ≡ 1 = rw q (get_or-set_same mid u 1 0 l) in omega arith
      go k (no q) = let z = get_or-set_other mid u x 1 0 q in omega arith

  -- a row that has been met is met still
  pub moved_kept : {old new : List ℕ} → Moved (meeting g n) old new → (x : ℕ) → (state_of old x ≡ 0 → ⊥) → state_of new x ≡ 0 → ⊥
  unfolding meeting
  moved_kept moved_none x f z = f z
  moved_kept (moved_more {mid = mid} {u = u} t h e p) x f z = go (λ k. moved_kept t x f k) (ℕ_discrete x u)
    where
      go : (state_of mid x ≡ 0 → ⊥) → Dec (x ≡ u) → ⊥
      go k (yes q) = let o : state_of (set mid u 1) x ≡ 1 = rw q (get_or-set_same mid u 1 0 h) in omega arith
      go k (no q) = k (sym (get_or-set_other mid u x 1 0 q) ∙ z)

  -- ---- all rows met

  module _ {old new : List ℕ} (c : Closed g n) (b : Begun n old) (s : Met g n old new) where
    pub met_leads : (x : ℕ) → x < n → state_of new x ≡ 1 → Led g n old x
    met_leads = met_led s.moved

    pub met_low : (x : ℕ) → x < n → state_of new x ≤ 1
    met_low x h = moved_low s.moved x (b.each x h)

    -- an input of a met row is met
    pub met_inputs : (u j : ℕ) → u < n → state_of new u ≡ 1 → j < g.count u → state_of new (g.input u j) ≡ 1
    unfolding meeting
    met_inputs u j h m l =
        let f = (s.quiet u h).each m j l in
        let k = met_low (g.input u j) (c.within u j h l) in
        one f k
      where
        one : {x : ℕ} → (x ≡ 0 → ⊥) → x ≤ 1 → x ≡ 1
        one f k = omega arith

    -- a row that a start leads to is met
    pub led_met : {u x : ℕ} → u < n → state_of old u ≡ 1 → Leads g u x → state_of new x ≡ 1
    led_met {u} {x} h m a = go u a.path h (moved_met s.moved u m) a.there
      where
        go : (u : ℕ) (p : List ℕ) → u < n → state_of new u ≡ 1 → reach g u p ≡ row x → state_of new x ≡ 1
        go u [] h m e = let q : u ≡ x = cc (reach_here g u) in rw q at m
        go u (j ∷ p) h m e =
            let f = reach_first g u j p e in
            go (g.input u j) p (c.within u j h f.0) (met_inputs u j h m f.0) f.1
