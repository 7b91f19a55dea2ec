-- Where each wire has one input and no wires are a loop, the verdict on a row is the same before and after skipping: rows that are no wires stay, a wire is listed and no hold.
use Prim.Native.Nat.{ℕ, zero, suc, ◌+◌, ◌<◌}
use native.Mathlib.Omega.{arith}
use mathlib.Core.Path.{◌≡◌, refl, sym, ap, ◌∙◌}
use mathlib.Core.Bool.{Bool}
use mathlib.Core.List.{List, [], ◌∷◌}
use mathlib.Core.Logic.{◌↔◌}
use borrow.Author.Tests.{eqb-true}
use Rattle.trees.specs.Graph.{Graph, Closed}
use Rattle.trees.specs.Agreement.{SameTree}
use Rattle.trees.specs.Paths.{row, reach, Leads}
use Rattle.trees.proofs.Paths.{reach_here, reach_first, leads_self, leads_input, leads_trans, leads_within}
use Rattle.loops.specs.Operations.{operation_of}
use Rattle.loops.specs.Catalogue.{inputs_of, Listed, Unlisted}
use Rattle.loops.specs.Loops.{Hold, Unheld}
use Rattle.loops.proofs.Running.{Runs, runs_none, runs_on, runs_first, runs_less, runs_fewer, loop_runs, runs_loop}
use Rattle.loops.proofs.SameVerdict.{runs_same}
use Rattle.wires.specs.Wires.{Wire, follow, most_wires, through, skipping, WiresFit}
use Rattle.wires.proofs.Following.{Told, told_wire, told_plain, told, follow_none, follow_wire, follow_plain, follow_low, through_wire, through_plain}
use Rattle.wires.proofs.Skipping.{skipping_label, skipping_count, skipping_input, skipping_closed, through_same}

-- a wire with its one input is listed, and no hold
wire_operation : (g : Graph) (u : ℕ) → Wire g u → operation_of (g.label u) ≡ 7
wire_operation g u w = eqb-true (operation_of (g.label u)) 7 w.is

wire_listed : (g : Graph) (u : ℕ) → Wire g u → g.count u ≡ 1 → Listed g u
wire_listed g u w e =
    let i : inputs_of (operation_of (g.label u)) ≡ 1 = ap inputs_of (wire_operation g u w) in
    record { known = λ q. omega arith; counts = e ∙ sym i }

wire_no_hold : (g : Graph) (u : ℕ) → Wire g u → Hold g u → ⊥
wire_no_hold g u w h = omega (arith, wire_operation g u w, h.is)

module _ (g : Graph) {n : ℕ} (c : Closed g n) (f : WiresFit g n) (ended : (u : ℕ) → u < n → Wire g (through g u) → ⊥) where
  abbrev skipped : Graph
  skipped = skipping g

  low : (u : ℕ) → u < n → through g u < n
  low u h = follow_low g c f most_wires u h

  -- ---- rows reached

  follow_leads : (k u : ℕ) → u < n → Leads g u (follow g k u)
  follow_leads zero u h = rw (follow_none g u) (leads_self g u)
  follow_leads (suc k) u h = go (told g u) (follow_leads k (g.input u 0))
    where
      go : {t : Bool} → Told g u t → (g.input u 0 < n → Leads g (g.input u 0) (follow g k (g.input u 0))) → Leads g u (follow g (suc k) u)
      go (told_wire w) ih =
          let e = f.one u h w in
          rw (follow_wire g k u w) (leads_trans (leads_input g u 0 (omega arith)) (ih (c.within u 0 h (omega arith))))
      go (told_plain p) ih = rw (follow_plain g (suc k) u p) (leads_self g u)

  -- what is led to after skipping is led to before
  leads_drawn : (p : List ℕ) (u : ℕ) {v : ℕ} → u < n → reach (skipping g) u p ≡ row v → Leads g u v
  leads_drawn [] u {v} h e = let q : u ≡ v = cc (reach_here (skipping g) u) in rw q (leads_self g v)
  leads_drawn (m ∷ p) u {v} h e =
      let s = reach_first (skipping g) u m p e in
      let l : m < g.count (through g u) = rw (skipping_count g u) at s.0 in
      let i = skipping_input g u m in
      leads_trans (follow_leads most_wires u h)
      (leads_trans (leads_input g (through g u) m l) (leads_drawn p (g.input (through g u) m) (c.within (through g u) m (low u h) l) (rw i at s.1)))

  -- from row u, after skipping, a row is led to that is read as row v is
  record Meets (u v : ℕ) : Type 0 where
    pub there : ℕ
    pub leads : Leads (skipping g) u there
    pub one : through g there ≡ through g v

  leads_skipped : (p : List ℕ) (u x : ℕ) {v : ℕ} → u < n → through g x ≡ through g u → reach g u p ≡ row v → Meets x v
  leads_skipped [] u x {v} h t e =
      let q : u ≡ v = cc (reach_here g u) in
      record { there = x; leads = leads_self (skipping g) x; one = t ∙ ap (through g) q }
  leads_skipped (m ∷ p) u x {v} h t e = go (told g u) (reach_first g u m p e) (λ y. leads_skipped p (g.input u m) y)
    where
      go : {t : Bool} → Told g u t → (m < g.count u) × (reach g (g.input u m) p ≡ row v)
          → ((y : ℕ) → g.input u m < n → through g y ≡ through g (g.input u m) → reach g (g.input u m) p ≡ row v → Meets y v) → Meets x v
      go (told_wire w) s ih =
          let o = f.one u h w in
          let z : m ≡ 0 = omega (arith, s.0) in
          ih x (c.within u m h s.0) (t ∙ sym (rw z (through_wire g u (ended u h) w))) s.1
      go (told_plain q) s ih =
          let a : through g x ≡ u = t ∙ through_plain g u q in
          let l : m < (skipping g).count x = rw (skipping_count g x, a) s.0 in
          let i : (skipping g).input x m ≡ g.input u m = skipping_input g x m ∙ ap (λ y. g.input y m) a in
          let r = ih (g.input u m) (c.within u m h s.0) refl s.1 in
          record { there = r.there; leads = leads_trans (rw i at (leads_input (skipping g) x m l)) r.leads; one = r.one }

  meets : {u v : ℕ} → u < n → Leads g u v → Meets u v
  meets {u} h a = leads_skipped a.path u u h refl a.there

  -- ---- 12

  read_listed : (u v : ℕ) → through g u ≡ v → Listed (skipping g) u → Listed g v
  read_listed u v e l =
      let q : (skipping g).label u ≡ g.label v = skipping_label g u ∙ ap g.label e in
      record {
        known = λ z. l.known (ap (λ y. inputs_of (operation_of y)) q ∙ z);
        counts = sym (skipping_count g u ∙ ap g.count e) ∙ l.counts ∙ ap (λ y. inputs_of (operation_of y)) q;
      }

  listed_read : (u v : ℕ) → through g u ≡ v → Listed g v → Listed (skipping g) u
  listed_read u v e l =
      let q : (skipping g).label u ≡ g.label v = skipping_label g u ∙ ap g.label e in
      record {
        known = λ z. l.known (sym (ap (λ y. inputs_of (operation_of y)) q) ∙ z);
        counts = skipping_count g u ∙ ap g.count e ∙ l.counts ∙ sym (ap (λ y. inputs_of (operation_of y)) q);
      }

  pub unlisted_alike : {u : ℕ} → u < n → Unlisted g u ↔ Unlisted (skipping g) u
  unlisted_alike {u} h = (there, back)
    where
      there : Unlisted g u → Unlisted (skipping g) u
      there x = go (told g x.row)
        where
          go : {t : Bool} → Told g x.row t → Unlisted (skipping g) u
          go (told_wire w) = absurd (x.wrong (wire_listed g x.row w (f.one x.row (leads_within c h x.leads) w)))
          go (told_plain p) =
              let m = meets h x.leads in
              record { row = m.there; leads = m.leads; wrong = λ l. x.wrong (read_listed m.there x.row (m.one ∙ through_plain g x.row p) l) }

      back : Unlisted (skipping g) u → Unlisted g u
      back x =
          let a = leads_drawn x.leads.path u h x.leads.there in
          record {
            row = through g x.row;
            leads = leads_trans a (follow_leads most_wires x.row (leads_within c h a));
            wrong = λ l. x.wrong (listed_read x.row (through g x.row) refl l);
          }

  -- ---- 13

  -- steps enough before skipping for k after it
  need : ℕ → ℕ
  need zero = 0
  need (suc k) = most_wires + suc (need k)

  follow_runs : (k m u : ℕ) → u < n → Runs g (k + m) u → Runs g m (follow g k u)
  follow_runs zero m u h r = let z : 0 + m ≡ m = omega arith in rw (follow_none g u) (rw z at r)
  follow_runs (suc k) m u h r = go (told g u) (follow_runs k m (g.input u 0))
    where
      z : suc k + m ≡ suc (k + m)
      z = omega arith

      go : {t : Bool} → Told g u t → (g.input u 0 < n → Runs g (k + m) (g.input u 0) → Runs g m (follow g k (g.input u 0))) → Runs g m (follow g (suc k) u)
      go (told_wire w) ih =
          let o = runs_first g (k + m) u (rw z at r) in
          let e = f.one u h w in
          let i : o.input ≡ 0 = omega (arith, o.of_row) in
          rw (follow_wire g k u w) (ih (c.within u 0 h (omega arith)) (rw i at o.goes))
      go (told_plain p) ih = rw (follow_plain g (suc k) u p) (runs_fewer g (suc k) m u r)

  runs_skipped : (k u : ℕ) → u < n → Runs g (need k) u → Runs (skipping g) k u
  unfolding need
  runs_skipped zero u h r = runs_none (skipping g) u
  runs_skipped (suc k) u h r =
      let o = runs_first g (need k) (through g u) (follow_runs most_wires (suc (need k)) u h r) in
      let i = skipping_input g u o.input in
      runs_on (skipping g) k u
      (record {
        plain = λ x. o.plain (record { is = ap operation_of (sym (skipping_label g u)) ∙ x.is });
        input = o.input;
        of_row = rw (skipping_count g u) o.of_row;
        goes = rw i (runs_skipped k (g.input (through g u) o.input) (c.within (through g u) o.input (low u h) o.of_row) o.goes);
      })

  runs_back : (k m u : ℕ) → u < n → Runs g m (follow g k u) → Runs g m u
  runs_back zero m u h r = rw (follow_none g u) at r
  runs_back (suc k) m u h r = go (told g u) (runs_back k m (g.input u 0))
    where
      go : {t : Bool} → Told g u t → (g.input u 0 < n → Runs g m (follow g k (g.input u 0)) → Runs g m (g.input u 0)) → Runs g m u
      go (told_wire w) ih =
          let e = f.one u h w in
          let x = ih (c.within u 0 h (omega arith)) (rw (follow_wire g k u w) at r) in
          runs_less g m u (runs_on g m u (record { plain = wire_no_hold g u w; input = 0; of_row = omega arith; goes = x }))
      go (told_plain p) ih = rw (follow_plain g (suc k) u p) at r

  runs_drawn : (k u : ℕ) → u < n → Runs (skipping g) k u → Runs g k u
  runs_drawn zero u h r = runs_none g u
  runs_drawn (suc k) u h r =
      let o = runs_first (skipping g) k u r in
      let l : o.input < g.count (through g u) = rw (skipping_count g u) at o.of_row in
      let i = skipping_input g u o.input in
      runs_back most_wires (suc k) u h
      (runs_on g k (through g u)
      (record {
        plain = λ x. o.plain (record { is = ap operation_of (skipping_label g u) ∙ x.is });
        input = o.input;
        of_row = l;
        goes = runs_drawn k (g.input (through g u) o.input) (c.within (through g u) o.input (low u h) l) (rw i at o.goes);
      }))

  pub unheld_alike : {u : ℕ} → u < n → Unheld g u ↔ Unheld (skipping g) u
  unheld_alike {u} h = (there, back)
    where
      there : Unheld g u → Unheld (skipping g) u
      there x =
          let d = skipping_closed g c f in
          let m = meets h x.leads in
          let r = runs_skipped n x.row (leads_within c h x.leads) (loop_runs g x.loop (need n)) in
          let s : SameTree (skipping g) x.row (skipping g) m.there = through_same g x.row m.there (sym m.one) in
          let y = runs_loop (skipping g) d (leads_within d h m.leads) (runs_same n s r) in
          record { row = y.row; leads = leads_trans m.leads y.leads; loop = y.loop }

      back : Unheld (skipping g) u → Unheld g u
      back x =
          let a = leads_drawn x.leads.path u h x.leads.there in
          let b = leads_within c h a in
          let y = runs_loop g c b (runs_drawn n x.row b (loop_runs (skipping g) x.loop n)) in
          record { row = y.row; leads = leads_trans a y.leads; loop = y.loop }
