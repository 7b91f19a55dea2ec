-- A row from which steps go on for ever, none from a hold, leads to a loop without a hold; and from a row of such a loop they do.
use Prim.Native.Nat.{ℕ, zero, suc, ◌+◌, ◌-◌, ◌≤◌, ◌<◌}
use native.Mathlib.Omega.{arith}
use mathlib.Core.Path.{◌≡◌, refl, sym}
use Rattle.trees.specs.Graph.{Graph, Closed}
use Rattle.trees.specs.Paths.{Leads}
use Rattle.trees.proofs.Paths.{leads_self, leads_input, leads_trans}
use Rattle.loops.specs.Loops.{Onward, Steps, Loop, Unheld}
use Rattle.loops.proofs.Repeated.{repeated}

-- k steps can be taken from row u, none of them from a hold
unfoldable pub Runs : Graph → ℕ → ℕ → Type 0
Runs g zero u = Unit
Runs g (suc k) u = Onward g u (λ x. Runs g k x)

-- ---- the clauses: no other law unfolds them

module _ (g : Graph) where
  pub steps_none : (u : ℕ) → Steps g 0 u u
  unfolding Steps
  steps_none u = refl

  pub steps_end : (u v : ℕ) → Steps g 0 u v → u ≡ v
  unfolding Steps
  steps_end u v s = s

  pub steps_on : (k u v : ℕ) → Onward g u (λ x. Steps g k x v) → Steps g (suc k) u v
  unfolding Steps
  steps_on k u v o = o

  pub steps_first : (k u v : ℕ) → Steps g (suc k) u v → Onward g u (λ x. Steps g k x v)
  unfolding Steps
  steps_first k u v s = s

  pub runs_none : (u : ℕ) → Runs g 0 u
  unfolding Runs
  runs_none u = tt

  pub runs_on : (k u : ℕ) → Onward g u (λ x. Runs g k x) → Runs g (suc k) u
  unfolding Runs
  runs_on k u o = o

  pub runs_first : (k u : ℕ) → Runs g (suc k) u → Onward g u (λ x. Runs g k x)
  unfolding Runs
  runs_first k u r = r

  pub onward_map : {u : ℕ} {P Q : ℕ → Type 0} → ((x : ℕ) → P x → Q x) → Onward g u P → Onward g u Q
  onward_map {u} f o = record { plain = o.plain; input = o.input; of_row = o.of_row; goes = f (g.input u o.input) o.goes }

  -- ---- fewer steps

  pub runs_less : (k u : ℕ) → Runs g (suc k) u → Runs g k u
  runs_less zero u r = runs_none u
  runs_less (suc k) u r = runs_on k u (onward_map (λ x. runs_less k x) (runs_first (suc k) u r))

  -- ---- steps lead on

  pub steps_leads : (k u v : ℕ) → Steps g k u v → Leads g u v
  steps_leads zero u v s = let e = steps_end u v s in rw (← e) (leads_self g u)
  steps_leads (suc k) u v s =
      let o = steps_first k u v s in
      leads_trans (leads_input g u o.input o.of_row) (steps_leads k (g.input u o.input) v o.goes)

  -- ---- a loop goes on for ever

  steps_runs : (k m u v : ℕ) → Steps g k u v → Runs g m v → Runs g (k + m) u
  steps_runs zero m u v s r = let e = steps_end u v s in let z : 0 + m ≡ m = omega arith in rw (e, z) r
  steps_runs (suc k) m u v s r =
      let z : suc k + m ≡ suc (k + m) = omega arith in
      rw z (runs_on (k + m) u (onward_map (λ x t. steps_runs k m x v t r) (steps_first k u v s)))

  pub runs_fewer : (d k u : ℕ) → Runs g (d + k) u → Runs g k u
  runs_fewer zero k u r = let z : 0 + k ≡ k = omega arith in rw z at r
  runs_fewer (suc d) k u r = let z : suc d + k ≡ suc (d + k) = omega arith in runs_fewer d k u (runs_less (d + k) u (rw z at r))

  pub loop_runs : {u : ℕ} → Loop g u → (k : ℕ) → Runs g k u
  loop_runs {u} l zero = runs_none u
  loop_runs {u} l (suc k) =
      let r = steps_runs (suc l.more) k u u l.back (loop_runs l k) in
      let z : suc l.more + k ≡ l.more + suc k = omega arith in
      runs_fewer l.more (suc k) u (rw z at r)

  -- ---- n steps among n rows come back to a row

  -- the row after i of the steps
  after : (k u : ℕ) → Runs g k u → ℕ → ℕ
  after zero u r i = u
  after (suc k) u r zero = u
  after (suc k) u r (suc i) = let o = runs_first k u r in after k (g.input u o.input) o.goes i

  after_here : (k u : ℕ) (r : Runs g k u) → after k u r 0 ≡ u
  unfolding after
  after_here zero u r = refl
  after_here (suc k) u r = refl

  after_low : {n : ℕ} → Closed g n → (k u : ℕ) (r : Runs g k u) (i : ℕ) → u < n → after k u r i < n
  unfolding after
  after_low c zero u r i h = h
  after_low c (suc k) u r zero h = h
  after_low c (suc k) u r (suc i) h =
      let o = runs_first k u r in
      after_low c k (g.input u o.input) o.goes i (c.within u o.input h o.of_row)

  -- the steps from the row after i of them to the row after m, d later
  after_steps : (k u : ℕ) (r : Runs g k u) (i d m : ℕ) → m ≡ i + d → m ≤ k → Steps g d (after k u r i) (after k u r m)
  unfolding after
  after_steps zero u r i d m e h = let z : d ≡ 0 = omega arith in rw z (steps_none u)
  after_steps (suc k) u r zero zero m e h = let z : m ≡ 0 = omega arith in rw z (steps_none u)
  after_steps (suc k) u r zero (suc d) zero e h = absurd (omega arith)
  after_steps (suc k) u r zero (suc d) (suc m) e h =
      let o = runs_first k u r in
      let x = g.input u o.input in
      let t = after_steps k x o.goes 0 d m (omega arith) (omega arith) in
      steps_on d u (after k x o.goes m)
      (record { plain = o.plain; input = o.input; of_row = o.of_row; goes = rw (after_here k x o.goes) at t })
  after_steps (suc k) u r (suc i) d zero e h = absurd (omega arith)
  after_steps (suc k) u r (suc i) d (suc m) e h =
      let o = runs_first k u r in
      after_steps k (g.input u o.input) o.goes i d m (omega arith) (omega arith)

  after_leads : (k u : ℕ) (r : Runs g k u) (i : ℕ) → i ≤ k → Leads g u (after k u r i)
  after_leads k u r i h = rw (after_here k u r) at (steps_leads i (after k u r 0) (after k u r i) (after_steps k u r 0 i i (omega arith) h))

  pub runs_loop : {n u : ℕ} → Closed g n → u < n → Runs g n u → Unheld g u
  runs_loop {n} {u} c h r =
      let p = repeated (after n u r) n (λ i l. after_low c n u r i h) in
      let d = p.high - p.low - 1 in
      let s = after_steps n u r p.low (suc d) p.high (omega (arith, p.apart)) (omega (arith, p.within)) in
      record {
        row = after n u r p.low;
        leads = after_leads n u r p.low (omega (arith, p.apart, p.within));
        loop = record { more = d; back = rw (sym p.same) at s };
      }
