-- Equal trees give equal values on every trace.
use Prim.Native.Nat.{ℕ, zero, suc, ◌<◌}
use native.Mathlib.Omega.{arith}
use native.Mathlib.Decide.{dec_lt}
use mathlib.Core.Path.{◌≡◌, refl, sym, ◌∙◌}
use mathlib.Core.List.{List}
use lib.Dec.{ltb}
use lib.IntN.{ℤ, pos}
use borrow.Author.Tests.{lt-ltb, le-ltb}
use Rattle.rules.specs.Pick.{pick}
use Rattle.trees.specs.Graph.{Graph}
use Rattle.trees.specs.Agreement.{SameTree}
use Rattle.trees.proofs.Agreement.{same_alike, same_input}
use Rattle.loops.specs.Operations.{operation_of, setting_of}
use Rattle.running.specs.Results.{result_of}
use Rattle.running.specs.Values.{of_inputs, tick_value, value, most_deep}
use Rattle.running.proofs.Held.{held_at, value_tick}

module _ (g h : Graph) where
  -- two functions that give rows of one tree one value
  abbrev Respects : (ℕ → ℤ) → (ℕ → ℤ) → Type 0
  Respects f k = (u v : ℕ) → SameTree g u h v → f u ≡ k v

  inputs_same : (f k : ℕ → ℤ) → Respects f k → (u v : ℕ) → SameTree g u h v → (j : ℕ) → of_inputs g f u j ≡ of_inputs h k v j
  unfolding of_inputs
  inputs_same f k r u v s j = go (dec_lt j (g.count u))
    where
      go : Dec (j < g.count u) → pick (ltb j (g.count u)) (f (g.input u j)) (pos 0) ≡ pick (ltb j (h.count v)) (k (h.input v j)) (pos 0)
      go (yes l) =
          let c = (same_alike s).counts in
          let m : j < h.count v = omega arith in
          simp (lt-ltb j (g.count u) l, lt-ltb j (h.count v) m, r (g.input u j) (h.input v j) (same_input s j l))
      go (no l) =
          let c = (same_alike s).counts in
          simp (le-ltb j (g.count u) (omega arith), le-ltb j (h.count v) (omega arith))

  -- at one tick, where what the holds give depends only on the trees
  tick_same : (channels : List ℤ) (f k : ℕ → ℤ) → Respects f k → (d : ℕ) → Respects (tick_value g channels f d) (tick_value h channels k d)
  unfolding tick_value
  tick_same channels f k r zero u v s = refl
  tick_same channels f k r (suc d) u v s =
      let l = (same_alike s).labels in
      let x : of_inputs g (tick_value g channels f d) u ≡ of_inputs h (tick_value h channels k d) v =
      λ i j. inputs_same (tick_value g channels f d) (tick_value h channels k d) (tick_same channels f k r d) u v s j i in
      (λ i. result_of (operation_of (l i)) (setting_of (l i)) channels (r u v s i) (x i))

  values_same : (tr : ℕ → List ℤ) (t : ℕ) → Respects (held_at g tr t) (held_at h tr t) → Respects (value g tr t) (value h tr t)
  values_same tr t r u v s = value_tick g tr t u ∙ tick_same (tr t) (held_at g tr t) (held_at h tr t) r most_deep u v s ∙ sym (value_tick h tr t v)

  held_same : (tr : ℕ → List ℤ) (t : ℕ) → Respects (held_at g tr t) (held_at h tr t)
  unfolding held_at
  held_same tr zero u v s = refl
  held_same tr (suc t) u v s = inputs_same (value g tr t) (value h tr t) (values_same tr t (held_same tr t)) u v s 0

-- the value of a row at a tick depends only on its tree
pub value_same : {g h : Graph} (tr : ℕ → List ℤ) (t u v : ℕ) → SameTree g u h v → value g tr t u ≡ value h tr t v
value_same {g} {h} tr t u v s = values_same g h tr t (held_same g h tr t) u v s
