-- A loop of wires only: rows that wires lead to for ever are wires, and among n rows such wires lead to a loop.
use Prim.Native.Nat.{ℕ, zero, suc, ◌+◌, ◌-◌, ◌≤◌, ◌<◌}
use native.Mathlib.Omega.{arith}
use mathlib.Core.Path.{◌≡◌, sym, ap, ◌∙◌}
use Rattle.trees.specs.Graph.{Graph, Closed}
use Rattle.loops.proofs.Repeated.{Repeats, repeated}
use Rattle.wires.specs.Wires.{Wire, follow, most_wires, through, WireLoop, WiresFit}
use Rattle.wires.proofs.Following.{follow_none, follow_add, follow_earlier, follow_low}

module _ (g : Graph) where
  -- wires lead back to row u after at least k of them
  record Turns (u k : ℕ) : Type 0 where
    pub steps : ℕ
    pub enough : k ≤ steps
    pub back : follow g steps u ≡ u

  -- round and round
  turns : {u : ℕ} → WireLoop g u → (k : ℕ) → Turns u k
  turns {u} l zero = record { steps = 0; enough = omega arith; back = follow_none g u }
  turns {u} l (suc k) =
      let t = turns l k in
      record {
        steps = suc l.more + t.steps;
        enough = omega (arith, t.enough);
        back = follow_add g t.steps (suc l.more) u ∙ ap (follow g t.steps) l.back ∙ t.back;
      }

  -- from a loop of wires every row that is followed to is a wire
  pub loop_wires : {u : ℕ} → WireLoop g u → (k : ℕ) → Wire g (follow g k u)
  loop_wires {u} l k =
      let t = turns l k in
      let e : k + (t.steps - k) ≡ t.steps = omega (arith, t.enough) in
      follow_earlier g k (t.steps - k) u (rw (e, t.back) l.wire)

  -- a row that wires lead to, where a loop of wires is
  pub record Astray (u : ℕ) : Type 0 where
    pub steps : ℕ
    pub loop : WireLoop g (follow g steps u)

  -- the wires that wires lead to from row u are among the first n rows
  pub record Kept (n u : ℕ) : Type 0 where
    pub low : (k : ℕ) → Wire g (follow g k u) → follow g k u < n

  pub kept_closed : {n : ℕ} → Closed g n → WiresFit g n → (u : ℕ) → u < n → Kept n u
  kept_closed c f u h = record { low = λ k w. follow_low g c f k u h }

  -- wires that lead to a wire, after as many as there are rows, lead to a loop of wires
  pub wires_loop : {n u : ℕ} → Kept n u → n ≤ most_wires → Wire g (through g u) → Astray u
  wires_loop {n} {u} a few w = go (repeated (λ i. follow g i u) n (λ i l. a.low i (early i (omega arith))))
    where
      early : (k : ℕ) → k ≤ most_wires → Wire g (follow g k u)
      early k h = let e : k + (most_wires - k) ≡ most_wires = omega arith in follow_earlier g k (most_wires - k) u (rw e w)

      go : Repeats (λ i. follow g i u) (suc n) → Astray u
      go p =
          let d = p.high - p.low - 1 in
          let e : p.low + suc d ≡ p.high = omega (arith, p.apart) in
          record {
            steps = p.low;
            loop = record {
              wire = early p.low (omega (arith, p.apart, p.within));
              more = d;
              back = sym (follow_add g (suc d) p.low u) ∙ ap (λ k. follow g k u) e ∙ sym p.same;
            };
          }
