-- The values of a row's inputs, read from the store's words.
use Prim.Native.Nat.{ℕ, ◌+◌, ◌≤◌, ◌<◌}
use native.Mathlib.Omega.{arith}
use native.Mathlib.Decide.{dec_lt, ℕ_discrete}
use mathlib.Core.Path.{◌≡◌, sym, ap, subst, ◌∙◌}
use mathlib.Core.List.{List}
use lib.ListN.{length, get_or, set, replicate, length-set, length-replicate, get_or-replicate, get_or-eq_default}
use lib.Seq.{get_or-set_same, get_or-set_other}
use lib.IntN.{ℤ, pos}
use mir.Syntax.{w32}
use mir.Val.{SFits, to_z, of_z}
use mir.ValLaws.{to_z-of_z}
use Rattle.rules.specs.Lists.{widest}
use Rattle.trees.specs.Graph.{Graph}
use Rattle.loops.specs.Orders.{Ordered}
use Rattle.store.specs.Layout.{in_use, count_of, input_of, store_graph}
use Rattle.store.specs.Sound.{RowShaped}
use Rattle.walker.specs.Queue.{Marked, Walkable}
use Rattle.running.specs.Values.{of_inputs}
use Rattle.running.proofs.Steps.{inputs_hit, inputs_miss}
use Rattle.ticking.specs.Memory.{Lined, value_in, Number, Gathered, Blank}

-- the queue's rows are rows in use
pub row_low : (most : ℕ) (w : List ℕ) (n : ℕ) (queue : List ℕ) (filled k x : ℕ) → Lined most w n queue filled → k < filled → x ≡ get_or queue k 0 → x < n
row_low most w n queue filled k x s h e = rw e (s.within k h)

-- rows met by a walk and put in an order
pub lined : (most : ℕ) (w : List ℕ) (n : ℕ) (queue marks : List ℕ) (filled : ℕ) → Walkable most w n → Marked n queue marks filled → Ordered (store_graph most w) queue filled → Lined most w n queue filled
lined most w n queue marks filled s m o =
    record { shaped = s; long = omega (arith, m.few, m.queue_long); few = omega (arith, m.few, m.low); within = m.within; ordered = o }

-- new memory is zeros
pub blank_new : (n room : ℕ) → Blank n (replicate room (pos 0))
blank_new n room = record { blank = λ u l. go u (dec_lt u room) }
  where
    go : (u : ℕ) → Dec (u < room) → get_or (replicate room (pos 0)) u (pos 0) ≡ pos 0
    go u (yes h) = get_or-replicate room u (pos 0) (pos 0) h
    go u (no h) = get_or-eq_default (replicate room (pos 0)) (pos 0) (omega (arith, length-replicate {A = ℤ} room (pos 0)))

-- read back from its bits
pub back : {x r : ℤ} → Number x r → Number x (to_z w32 (of_z w32 r))
back {x} {r} e = let b = to_z-of_z w32 r e.fits in record { is = b ∙ e.is; fits = subst (SFits w32) (sym b) e.fits }

pub zero_number : {x : ℤ} → x ≡ pos 0 → Number x (pos 0)
zero_number e = record { is = sym e; fits = record { sfits = omega arith } }

module _ (most : ℕ) (w : List ℕ) (n u : ℕ) (s : Walkable most w n) (l : u < n) where
  few : count_of most w u ≤ most
  few = (s.shaped.rows u (omega (arith, s.counted))).few

  -- every input word is a row in use
  word_low : (j x : ℕ) → j < most → x ≡ input_of most w u j → x < n
  word_low j x h e = go (s.shaped.rows u (omega (arith, s.counted))) (dec_lt j (count_of most w u))
    where
      go : RowShaped most w (in_use w) u → Dec (j < count_of most w u) → x < n
      go row (yes k) = omega (arith, row.used j k, s.counted)
      go row (no k) = omega (arith, row.unused j (omega arith) h)

  module _ (values : List ℤ) where
    pub word_there : (j x : ℕ) → j < most → x ≡ input_of most w u j → n ≤ length values → x < length values
    word_there j x h e m = let a = word_low j x h e in omega arith

    input_miss : (j : ℕ) → count_of most w u ≤ j → Number (of_inputs (store_graph most w) (value_in values) u j) (pos 0)
    unfolding store_graph
    input_miss j h = zero_number (inputs_miss (store_graph most w) (value_in values) u j h)

    pub input_past : (j : ℕ) → most ≤ j → Number (of_inputs (store_graph most w) (value_in values) u j) (pos 0)
    input_past j h = input_miss j (omega (arith, few))

    module _ (j count : ℕ) (c : count ≡ count_of most w u) where
      pub input_none : count ≤ j → Number (of_inputs (store_graph most w) (value_in values) u j) (pos 0)
      input_none h = input_miss j (omega arith)

      pub input_there : (x : ℕ) (r : ℤ) → j < count → x ≡ input_of most w u j → Number (value_in values x) r
          → Number (of_inputs (store_graph most w) (value_in values) u j) (to_z w32 (of_z w32 r))
      unfolding store_graph
      input_there x r h e q =
          back
          (record {
            is = q.is ∙ ap (value_in values) e ∙ sym (inputs_hit (store_graph most w) (value_in values) u j (omega arith));
            fits = q.fits;
          })

-- ---- all of them

-- the first j values are there
pub record Gathering (g : Graph) (values : List ℤ) (u : ℕ) (found : List ℤ) (j : ℕ) : Type 0 where
  pub some : j ≤ widest
  pub long : length found ≡ widest
  pub each : (i : ℕ) → i < j → get_or found i (pos 0) ≡ of_inputs g (value_in values) u i

module _ (g : Graph) (values : List ℤ) (u : ℕ) where
  pub gather_none : Gathering g values u (replicate widest (pos 0)) 0
  gather_none = record { some = omega arith; long = length-replicate widest (pos 0); each = λ i h. absurd (omega arith) }

  pub gather_more : (found : List ℤ) (j : ℕ) (r : ℤ) → Gathering g values u found j → j < widest → Number (of_inputs g (value_in values) u j) r
      → Gathering g values u (set found j (to_z w32 (of_z w32 r))) (j + 1)
  gather_more found j r s h q =
      rw (to_z-of_z w32 r q.fits)
      (record { some = omega arith; long = length-set found j r ∙ s.long; each = λ i k. go i k (ℕ_discrete i j) })
    where
      go : (i : ℕ) → i < j + 1 → Dec (i ≡ j) → get_or (set found j r) i (pos 0) ≡ of_inputs g (value_in values) u i
      go i k (yes e) = rw e (get_or-set_same found j r (pos 0) (omega (arith, s.long)) ∙ q.is)
      go i k (no e) = get_or-set_other found j i r (pos 0) e ∙ s.each i (omega arith)

pub gather_all : (most : ℕ) (w : List ℕ) (n u : ℕ) (values found : List ℤ) (j : ℕ) → Walkable most w n → u < n → Gathering (store_graph most w) values u found j → widest ≤ j
    → Gathered (store_graph most w) values u found
unfolding store_graph
gather_all most w n u values found j s l f h = record { each = λ i. go i (dec_lt i j) }
  where
    go : (i : ℕ) → Dec (i < j) → get_or found i (pos 0) ≡ of_inputs (store_graph most w) (value_in values) u i
    go i (yes k) = f.each i k
    go i (no k) =
        get_or-eq_default found (pos 0) (omega (arith, f.long))
        ∙ sym (inputs_miss (store_graph most w) (value_in values) u i (omega (arith, s.limit, few most w n u s l)))
