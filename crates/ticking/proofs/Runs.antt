-- Tick after tick, with two arrays that take turns.
use Prim.Native.Nat.{ℕ, suc, ◌+◌, ◌-◌, ◌*◌, ◌/◌, ◌%◌, ◌≤◌, ◌<◌}
use native.Mathlib.Omega.{arith}
use native.Mathlib.Numerals.{add-one}
use native.Mathlib.Nat.{suc-mul, le-div_iff_mul-le}
use native.Mathlib.Decide.{ℕ_discrete}
use mathlib.Core.Path.{◌≡◌, refl, sym, subst, ◌∙◌}
use mathlib.Core.List.{List}
use lib.ListN.{length, get_or, take, drop, set, length-set}
use lib.Seq.{get_or-set_same, get_or-set_other}
use lib.IntN.{ℤ, pos}
use mir.Syntax.{w32}
use mir.Val.{to_z, of_z}
use mir.ValLaws.{to_z-of_z}
use borrow.Author.Tests.{eq-eqb, ne_eqb}
use Rattle.trees.specs.Graph.{Graph}
use Rattle.loops.specs.Orders.{StandsIn}
use Rattle.store.specs.Layout.{store_graph, room}
use Rattle.running.specs.Values.{value}
use Rattle.running.specs.Run.{trace, ticks, RunDone}
use Rattle.ticking.specs.Memory.{Lined, value_in, Number, Ticked, Blank, latest, Turned}
use Rattle.ticking.specs.Outcomes.{Outputs}
use Rattle.ticking.proofs.Reading.{back}
use Rattle.ticking.proofs.Ticks.{last_value, Latest, latest_next}

-- ---- the arrays take turns

latest_even : (t : ℕ) (first second : List ℤ) → t % 2 ≡ 0 → latest t first second ≡ second
unfolding latest
latest_even t first second e = simp (eq-eqb (t % 2) 0 e)

latest_odd : (t : ℕ) (first second : List ℤ) → (t % 2 ≡ 0 → ⊥) → latest t first second ≡ first
unfolding latest
latest_odd t first second e = simp (ne_eqb (t % 2) 0 e)

module _ (g : Graph) (n : ℕ) (queue : List ℕ) (filled : ℕ) (channels : List ℤ) (t row : ℕ) (first second : List ℤ) (r : ℤ) where
  pub turn_even : (first' : List ℤ) → t % 2 ≡ 0 → n ≤ length second → Ticked g n queue filled channels second first' 0 → Number (value_in first' row) r
      → Turned g n queue filled channels t row first second first' second (to_z w32 (of_z w32 r))
  turn_even first' e m k q =
      let a = latest_even t first second e in
      let b = latest_odd (t + 1) first' second (λ z. omega arith) in
      record { ticked = rw (a, b) k; first_long = k.long; second_long = m; number = rw b (back q) }

  pub turn_odd : (second' : List ℤ) → (t % 2 ≡ 0 → ⊥) → n ≤ length first → Ticked g n queue filled channels first second' 0 → Number (value_in second' row) r
      → Turned g n queue filled channels t row first second first second' (to_z w32 (of_z w32 r))
  turn_odd second' e m k q =
      let a = latest_odd t first second e in
      let b = latest_even (t + 1) first second' (omega arith) in
      record { ticked = rw (a, b) k; first_long = m; second_long = k.long; number = rw b (back q) }

-- ---- ticks among the values

-- the values of a tick are all there
pub tick_there : (n channels t : ℕ) → 0 < channels → t < n / channels → t * channels + channels ≤ n
tick_there n channels t c h =
    let all : suc t * channels ≤ n = (le-div_iff_mul-le {k = channels} {x = suc t} {y = n} c).0 h in
    omega (arith, suc-mul t channels)

pub tick_in : (values : List ℤ) (channels t : ℕ) → 0 < channels → t < ticks values channels → t * channels + channels ≤ length values
unfolding ticks
tick_in values channels t c h = tick_there (length values) channels t c h

-- and lent, they are the trace's channels
pub turned_trace : (g : Graph) (n : ℕ) (queue : List ℕ) (filled : ℕ) (values : List ℤ) (channels t row : ℕ) (first second first' second' : List ℤ) (r : ℤ)
    → Turned g n queue filled (take (t * channels + channels - t * channels) (drop (t * channels) values)) t row first second first' second' r
    → Turned g n queue filled (trace values channels t) t row first second first' second' (to_z w32 (of_z w32 r))
unfolding trace
turned_trace g n queue filled values channels t row first second first' second' r k =
    let e : t * channels + channels - t * channels ≡ channels = omega arith in
    let m = rw e at k in
    record { ticked = m.ticked; first_long = m.first_long; second_long = m.second_long; number = back m.number }

-- ---- the loop

-- the first t outputs are there, and the values of the tick before
pub record Going (g : Graph) (n row : ℕ) (queue : List ℕ) (filled channels : ℕ) (values old first second output : List ℤ) (t : ℕ) : Type 0 where
  pub some : t ≤ ticks values channels
  pub same : length output ≡ length old
  pub first_long : n ≤ length first
  pub second_long : n ≤ length second
  pub each : (i : ℕ) → i < t → get_or output i (pos 0) ≡ value g (trace values channels) i row
  pub past : (i : ℕ) → t ≤ i → get_or output i (pos 0) ≡ get_or old i (pos 0)
  pub last : Latest g (trace values channels) queue filled t (latest t first second)

module _ (most : ℕ) (w : List ℕ) (n row : ℕ) (queue : List ℕ) (filled channels : ℕ) (values : List ℤ) (s : Lined most w n queue filled) where
  pub go_begin : (first second output : List ℤ) → n ≤ length first → n ≤ length second → Blank n second
      → Going (store_graph most w) n row queue filled channels values output first second output 0
  unfolding last_value
  go_begin first second output a b z =
      record {
        some = omega arith;
        same = refl;
        first_long = a;
        second_long = b;
        each = λ i h. absurd (omega arith);
        past = λ i h. refl;
        last = rw (latest_even 0 first second (omega arith)) (record { each = λ k h. z.blank (get_or queue k 0) (s.within k h) });
      }

  pub row_in_use : StandsIn queue 0 filled row → row < n
  row_in_use p = let e = p.is in rw (← e) (s.within p.place p.high)

  module _ (old first second output : List ℤ) (t : ℕ) (k : Going (store_graph most w) n row queue filled channels values old first second output t) (h : t < length values / channels) where
    pub go_more : (first' second' output' : List ℤ) (r : ℤ) → StandsIn queue 0 filled row → ticks values channels ≤ length old
        → Turned (store_graph most w) n queue filled (trace values channels t) t row first second first' second' r → output' ≡ set output t (to_z w32 (of_z w32 r))
        → Going (store_graph most w) n row queue filled channels values old first' second' output' (t + 1)
    unfolding last_value ticks
    go_more first' second' output' r there enough turned o =
        rw (o, to_z-of_z w32 r turned.number.fits)
        (record {
          some = omega arith;
          same = length-set output t r ∙ k.same;
          first_long = turned.first_long;
          second_long = turned.second_long;
          each = λ i l. go i l (ℕ_discrete i t);
          past = λ i l. get_or-set_other output t i r (pos 0) (λ z. omega arith) ∙ k.past i (omega arith);
          last = subst (λ i. Latest (store_graph most w) (trace values channels) queue filled i (latest (t + 1) first' second')) (sym (add-one t)) next;
        })
      where
        next : Latest (store_graph most w) (trace values channels) queue filled (suc t) (latest (t + 1) first' second')
        next = latest_next s.ordered (trace values channels) t (latest t first second) (latest (t + 1) first' second') k.last turned.ticked

        value_row : r ≡ value (store_graph most w) (trace values channels) t row
        value_row = let e = there.is in turned.number.is ∙ rw e at (next.each there.place there.high)

        go : (i : ℕ) → i < t + 1 → Dec (i ≡ t) → get_or (set output t r) i (pos 0) ≡ value (store_graph most w) (trace values channels) i row
        go i l (yes z) = rw z (get_or-set_same output t r (pos 0) (omega (arith, k.same)) ∙ value_row)
        go i l (no z) = get_or-set_other output t i r (pos 0) z ∙ k.each i (omega arith)

  pub go_done : (old first second output : List ℤ) (t : ℕ) → Going (store_graph most w) n row queue filled channels values old first second output t → length values / channels ≤ t
      → Outputs (store_graph most w) row channels values old output
  unfolding ticks
  go_done old first second output t k h =
      record { long = k.same; each = λ i l. k.each i (omega arith); past = λ i l. k.past i (omega (arith, k.some)) }

-- ---- what it says of a run

pub outputs_done : {w : List ℕ} {row channels : ℕ} {values output output' : List ℤ} → Outputs (store_graph room w) row channels values output output' → RunDone w row channels values output output'
outputs_done o = record { long = o.long; each = o.each; past = o.past }
