-- A tick, from the back of the order: the rows behind have their values, so each row's result is its value at the tick.
use Prim.Native.Nat.{ℕ, zero, suc, ◌-◌, ◌/◌, ◌%◌, ◌≤◌, ◌<◌}
use native.Mathlib.Omega.{arith}
use native.Mathlib.Decide.{dec_lt, ℕ_discrete}
use mathlib.Core.Path.{◌≡◌, refl, sym, ap, ◌∙◌}
use mathlib.Core.List.{List}
use lib.ListN.{length, get_or, set, length-set}
use lib.Seq.{get_or-set_same, get_or-set_other}
use lib.IntN.{ℤ, pos}
use mir.Syntax.{w32}
use mir.Val.{SFits, to_z, of_z}
use mir.ValLaws.{to_z-of_z}
use borrow.Author.Tests.{ne_eqb}
use Rattle.trees.specs.Graph.{Graph}
use Rattle.loops.specs.Orders.{StandsIn, Ordered}
use Rattle.loops.specs.Operations.{operation_of, setting_of}
use Rattle.store.specs.Layout.{label_of, store_graph}
use Rattle.running.specs.Results.{result_of}
use Rattle.running.specs.Values.{of_inputs, tick_value, value, most_deep}
use Rattle.results.specs.Parts.{input_at}
use Rattle.running.proofs.Held.{held_at, value_tick}
use Rattle.running.proofs.Steps.{inputs_hit, inputs_miss, inputs_alike, result_alike, ordered_settles, tick_step}
use Rattle.ticking.specs.Memory.{Lined, value_in, Number, held_in, Gathered, row_now, Ticked}
use Rattle.ticking.proofs.Reading.{back}

-- ---- one row

-- only a hold looks at what is held
plain_result : (o s : ℕ) (channels : List ℤ) (a b : ℤ) (x : ℕ → ℤ) → (o ≡ 6 → ⊥) → result_of o s channels a x ≡ result_of o s channels b x
unfolding result_of
plain_result o s channels a b x f = simp (ne_eqb o 6 f)

held_result : (o s : ℕ) (channels : List ℤ) (a : ℤ) (x : ℕ → ℤ) → o ≡ 6 → result_of o s channels a x ≡ a
unfolding result_of
held_result o s channels a x e = rw e

-- a hold's result, told from its input before
pub row_held : (most : ℕ) (w : List ℕ) (u : ℕ) (channels before values : List ℤ) (label : ℕ) (r : ℤ) → label ≡ label_of most w u → label / 65536 ≡ 6
    → Number (of_inputs (store_graph most w) (value_in before) u 0) r → Number (row_now (store_graph most w) channels before values u) (to_z w32 (of_z w32 r))
unfolding row_now store_graph
row_held most w u channels before values label r l o h =
    back
    (record {
      is = h.is ∙ sym (held_result (operation_of (label_of most w u)) (setting_of (label_of most w u)) channels (held_in (store_graph most w) before u) (of_inputs (store_graph most w) (value_in values) u) (sym (ap operation_of l) ∙ o));
      fits = h.fits;
    })

-- the result of any other row, told from what was read
pub row_told : (most : ℕ) (w : List ℕ) (u : ℕ) (channels before values : List ℤ) (label : ℕ) (r : ℤ) (x : List ℤ) → label ≡ label_of most w u → (label / 65536 ≡ 6 → ⊥)
    → Gathered (store_graph most w) values u x
    → (r ≡ result_of (label / 65536) (label % 65536) channels (to_z w32 (of_z w32 (pos 0))) (input_at x)) × SFits w32 r
    → Number (row_now (store_graph most w) channels before values u) (to_z w32 (of_z w32 r))
unfolding row_now store_graph
row_told most w u channels before values label r x l o a e =
    let y : input_at x ≡ of_inputs (store_graph most w) (value_in values) u = λ i j. a.each j i in
    back
    (record {
      is = e.0
          ∙ plain_result (label / 65536) (label % 65536) channels (to_z w32 (of_z w32 (pos 0))) (held_in (store_graph most w) before u) (input_at x) o
          ∙ (λ i. result_of (operation_of (l i)) (setting_of (l i)) channels (held_in (store_graph most w) before u) (y i));
      fits = e.1;
    })

module _ {g : Graph} {n : ℕ} {queue : List ℕ} {filled : ℕ} (o : Ordered g queue filled) (few : filled ≤ most_deep) (channels before : List ℤ) where
  -- where the rows behind place k have their values, the row there is computed from them
  pub row_value : (values : List ℤ) (k : ℕ) → k < filled → Ticked g n queue filled channels before values (suc k)
      → row_now g channels before values (get_or queue k 0) ≡ tick_value g channels (held_in g before) most_deep (get_or queue k 0)
  unfolding row_now
  row_value values k l t =
      result_alike g channels (held_in g before) (value_in values) (tick_value g channels (held_in g before) most_deep) (get_or queue k 0)
      (λ plain j h. behind j (o.behind k j l plain h))
      ∙ sym (tick_step (ordered_settles o few k l) channels (held_in g before))
    where
      behind : (j : ℕ) → StandsIn queue (suc k) filled (g.input (get_or queue k 0) j)
          → value_in values (g.input (get_or queue k 0) j) ≡ tick_value g channels (held_in g before) most_deep (g.input (get_or queue k 0) j)
      behind j s = let e = s.is in rw (← e) (t.each s.place s.low s.high)

-- ---- the loop

-- the rows from place k on have their values
pub record Ticking (g : Graph) (n : ℕ) (queue : List ℕ) (filled : ℕ) (channels before old values : List ℤ) (k : ℕ) : Type 0 where
  pub some : k ≤ filled
  pub same : length values ≡ length old
  pub valued : Ticked g n queue filled channels before values k

module _ (g : Graph) (n : ℕ) (queue : List ℕ) (filled : ℕ) (channels before : List ℤ) where
  pub tick_begin : (values : List ℤ) → n ≤ length values → Ticking g n queue filled channels before values values filled
  tick_begin values m = record { some = omega arith; same = refl; valued = record { long = m; each = λ k a b. absurd (omega arith) } }

  pub tick_all : (old values : List ℤ) (k : ℕ) → Ticking g n queue filled channels before old values k → k ≤ 0 → Ticked g n queue filled channels before values 0
  tick_all old values k s h = record { long = s.valued.long; each = λ i a b. s.valued.each i (omega arith) b }

module _ (most : ℕ) (w : List ℕ) (n : ℕ) (queue : List ℕ) (filled : ℕ) (channels before old values : List ℤ) (k low u : ℕ) (s : Lined most w n queue filled)
    (t : Ticking (store_graph most w) n queue filled channels before old values k) (h : low < k) (e : u ≡ get_or queue (k - 1) 0) where
  place : k - 1 < filled
  place = omega (arith, t.some)

  row_has : u < length values
  row_has = let a = s.within (k - 1) place in omega (arith, t.valued.long)

  module _ (r : ℤ) (q : Number (row_now (store_graph most w) channels before values u) r) where
    here : r ≡ tick_value (store_graph most w) channels (held_in (store_graph most w) before) most_deep u
    here =
        let x =
        row_value s.ordered s.few channels before values (k - 1) place
        (record { long = t.valued.long; each = λ i a b. t.valued.each i (omega arith) b }) in
        q.is ∙ rw (← e) at x

    pub tick_more : (values' : List ℤ) → values' ≡ set values u (to_z w32 (of_z w32 r)) → Ticking (store_graph most w) n queue filled channels before old values' (k - 1)
    tick_more values' v =
        rw (v, to_z-of_z w32 r q.fits)
        (record {
          some = omega (arith, t.some);
          same = length-set values u r ∙ t.same;
          valued = record { long = simp length-set t.valued.long; each = λ i a b. go i a b (ℕ_discrete (get_or queue i 0) u) };
        })
      where
        go : (i : ℕ) → k - 1 ≤ i → i < filled → Dec (get_or queue i 0 ≡ u)
            → value_in (set values u r) (get_or queue i 0) ≡ tick_value (store_graph most w) channels (held_in (store_graph most w) before) most_deep (get_or queue i 0)
        go i a b (yes z) = rw z (get_or-set_same values u r (pos 0) row_has ∙ here)
        go i a b (no z) = get_or-set_other values u (get_or queue i 0) r (pos 0) z ∙ t.valued.each i (later (dec_lt i k)) b
          where
            later : Dec (i < k) → k ≤ i
            later (yes l) = let p : i ≡ k - 1 = omega arith in absurd (z (rw p (sym e)))
            later (no l) = omega arith

-- ---- from tick to tick

-- the values one tick before: none yet at tick 0
unfoldable pub last_value : Graph → (tr : ℕ → List ℤ) → (t u : ℕ) → ℤ
last_value g tr zero u = pos 0
last_value g tr (suc t) u = value g tr t u

pub record Latest (g : Graph) (tr : ℕ → List ℤ) (queue : List ℕ) (filled t : ℕ) (values : List ℤ) : Type 0 where
  pub each : (k : ℕ) → k < filled → value_in values (get_or queue k 0) ≡ last_value g tr t (get_or queue k 0)

held_last : (g : Graph) (tr : ℕ → List ℤ) (t u : ℕ) → of_inputs g (last_value g tr t) u 0 ≡ held_at g tr t u
unfolding last_value held_at
held_last g tr zero u = go (dec_lt 0 (g.count u))
  where
    go : Dec (0 < g.count u) → of_inputs g (λ v. pos 0) u 0 ≡ pos 0
    go (yes l) = inputs_hit g (λ v. pos 0) u 0 l
    go (no l) = inputs_miss g (λ v. pos 0) u 0 (omega arith)
held_last g tr (suc t) u = refl

module _ {g : Graph} {queue : List ℕ} {filled : ℕ} (o : Ordered g queue filled) where
  -- what two functions say of every input of a row of the order
  input_stands : (f k : ℕ → ℤ) → ((i : ℕ) → i < filled → f (get_or queue i 0) ≡ k (get_or queue i 0)) → (i : ℕ) → i < filled → (j : ℕ) → j < g.count (get_or queue i 0)
      → f (g.input (get_or queue i 0) j) ≡ k (g.input (get_or queue i 0) j)
  input_stands f k r i l j h = go (o.all i j l h)
    where
      go : StandsIn queue 0 filled (g.input (get_or queue i 0) j) → f (g.input (get_or queue i 0) j) ≡ k (g.input (get_or queue i 0) j)
      go s = let e = s.is in rw (← e) (r s.place s.high)

  -- at a tick only what the order's holds give matters
  tick_held : (channels : List ℤ) (f k : ℕ → ℤ) → ((i : ℕ) → i < filled → f (get_or queue i 0) ≡ k (get_or queue i 0)) → (d i : ℕ) → i < filled
      → tick_value g channels f d (get_or queue i 0) ≡ tick_value g channels k d (get_or queue i 0)
  unfolding tick_value
  tick_held channels f k r zero i l = refl
  tick_held channels f k r (suc d) i l =
      let u = get_or queue i 0 in
      let x : of_inputs g (tick_value g channels f d) u ≡ of_inputs g (tick_value g channels k d) u =
      λ p j. inputs_alike g (tick_value g channels f d) (tick_value g channels k d) u
      (input_stands (tick_value g channels f d) (tick_value g channels k d) (tick_held channels f k r d) i l) j p in
      (λ p. result_of (operation_of (g.label u)) (setting_of (g.label u)) channels (r i l p) (x p))

  -- a tick over the values of the tick before leaves the values of the tick
  pub latest_next : {n : ℕ} (tr : ℕ → List ℤ) (t : ℕ) (before values : List ℤ) → Latest g tr queue filled t before → Ticked g n queue filled (tr t) before values 0
      → Latest g tr queue filled (suc t) values
  unfolding last_value
  latest_next tr t before values b v =
      record {
        each = λ i l.
            v.each i (omega arith) l
            ∙ tick_held (tr t) (held_in g before) (held_at g tr t)
            (λ k h. inputs_alike g (value_in before) (last_value g tr t) (get_or queue k 0) (input_stands (value_in before) (last_value g tr t) b.each k h) 0 ∙ held_last g tr t (get_or queue k 0))
            most_deep i l
            ∙ sym (value_tick g tr t (get_or queue i 0));
      }
