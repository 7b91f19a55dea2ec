-- Visiting the rows of the queue one after another.
use Prim.Native.Nat.{ℕ, ◌+◌, ◌-◌, ◌≤◌, ◌<◌}
use native.Mathlib.Omega.{arith}
use native.Mathlib.Decide.{dec_lt}
use mathlib.Core.Path.{◌≡◌, sym, ◌∙◌}
use mathlib.Core.List.{List, [], ◌∷◌}
use lib.ListN.{length, get_or, take, set, length-set}
use lib.Seq.{get_or-take, length-take-le, get_or-set_same, take-suc-set}
use Rattle.store.specs.Layout.{count_of, input_of, store_graph}
use Rattle.store.specs.Rows.{RowThere}
use Rattle.store.proofs.Shapes.{shaped_there}
use Rattle.store.proofs.Graphs.{shaped_closed}
use Rattle.walks.specs.Walk.{meet, meet_inputs, visit, walk}
use Rattle.walks.specs.Key.{walk_all}
use Rattle.walks.proofs.Steps.{visit_hit, walk_step, inputs_step, inputs_none, walk_none}
use Rattle.walks.proofs.Reached.{walk_enough}
use Rattle.walker.specs.Queue.{Marked, Queued, Walkable}

-- ---- a row of the store

module _ (most : ℕ) (w : List ℕ) (n row : ℕ) (s : Walkable most w n) (h : row < n) where
  pub row_there : RowThere most w row
  row_there = shaped_there most w row s.limit s.shaped (omega (arith, s.counted))

  pub row_room : (j : ℕ) → j < count_of most w row → j < most
  row_room j l = omega (arith, (s.shaped.rows row (omega (arith, s.counted))).few)

  pub row_input : (j x : ℕ) → j < count_of most w row → x ≡ input_of most w row j → x < n
  row_input j x l q = omega (arith, (s.shaped.rows row (omega (arith, s.counted))).used j l, s.counted)

-- ---- its inputs met

module _ (most : ℕ) (w : List ℕ) (n row : ℕ) (queue₀ : List ℕ) (filled₀ : ℕ) where
  pub visit_begin : (marks : List ℕ) → Marked n queue₀ marks filled₀ → Queued n queue₀ marks filled₀ (meet_inputs (store_graph most w) row (take filled₀ queue₀) 0)
  visit_begin marks m = record { marks_stand = m; rows = sym (inputs_none (store_graph most w) row (take filled₀ queue₀)) }

  pub visit_more : (j x : ℕ) (queue marks queue' marks' : List ℕ) (filled filled' : ℕ) → Queued n queue marks filled (meet_inputs (store_graph most w) row (take filled₀ queue₀) j) → x ≡ input_of most w row j → Queued n queue' marks' filled' (meet (take filled queue) x) → Queued n queue' marks' filled' (meet_inputs (store_graph most w) row (take filled₀ queue₀) (j + 1))
  unfolding store_graph
  visit_more j x queue marks queue' marks' filled filled' q e r =
      record {
        marks_stand = r.marks_stand;
        rows = r.rows ∙ rw (q.rows, e) (sym (inputs_step (store_graph most w) row (take filled₀ queue₀) j));
      }

  pub inputs_done : (count j : ℕ) (queue marks : List ℕ) (filled : ℕ) → Queued n queue marks filled (meet_inputs (store_graph most w) row (take filled₀ queue₀) j)
      → j ≤ count → count ≤ j → count ≡ count_of most w row
      → Queued n queue marks filled (meet_inputs (store_graph most w) row (take filled₀ queue₀) (count_of most w row))
  inputs_done count j queue marks filled q l h e = let i : j ≡ count_of most w row = omega arith in rw i at q

  pub visit_done : (k : ℕ) (marks₀ queue marks : List ℕ) (filled : ℕ) → Marked n queue₀ marks₀ filled₀ → k < filled₀ → row ≡ get_or queue₀ k 0 → Queued n queue marks filled (meet_inputs (store_graph most w) row (take filled₀ queue₀) (count_of most w row)) → Queued n queue marks filled (visit (store_graph most w) k (take filled₀ queue₀))
  unfolding store_graph
  visit_done k marks₀ queue marks filled m h r q =
      let l : filled₀ ≤ length queue₀ = omega (arith, m.few, m.queue_long) in
      let p : get_or (take filled₀ queue₀) k 0 ≡ row = get_or-take filled₀ queue₀ k 0 h ∙ sym r in
      let i : k < length (take filled₀ queue₀) = omega (arith, length-take-le filled₀ queue₀ l) in
      record {
        marks_stand = q.marks_stand;
        rows = q.rows ∙ sym (visit_hit (store_graph most w) k (take filled₀ queue₀) i ∙ rw p);
      }

-- ---- the walk

module _ (most : ℕ) (w : List ℕ) (n row : ℕ) where
  pub walk_begin : (queue marks : List ℕ) → row < n → n ≤ length queue → n ≤ length marks → n ≤ 1024 → Queued n (set queue 0 row) (set marks row 0) 1 (walk (store_graph most w) (row ∷ []) 0)
  walk_begin queue marks h a b c =
      let some : 0 < length queue = omega arith in
      let head : get_or (set queue 0 row) 0 0 ≡ row = get_or-set_same queue 0 row 0 some in
      record {
        marks_stand =
            record {
              queue_long = simp length-set a;
              marks_long = simp length-set b;
              few = omega arith;
              low = c;
              marked = λ i k. let e : i ≡ 0 = omega arith in rw (e, head) (get_or-set_same marks row 0 0 (omega arith));
              within = λ i k. let e : i ≡ 0 = omega arith in rw (e, head) h;
            };
        rows = take-suc-set queue 0 row some ∙ sym (walk_none (store_graph most w) (row ∷ []));
      }

  module _ (k : ℕ) (queue marks : List ℕ) (filled : ℕ) (q : Queued n queue marks filled (walk (store_graph most w) (row ∷ []) k)) where
    pub walk_more : (queue' marks' : List ℕ) (filled' : ℕ) → Queued n queue' marks' filled' (visit (store_graph most w) k (take filled queue)) → Queued n queue' marks' filled' (walk (store_graph most w) (row ∷ []) (k + 1))
    walk_more queue' marks' filled' r =
        record {
          marks_stand = r.marks_stand;
          rows = r.rows ∙ rw q.rows (sym (walk_step (store_graph most w) (row ∷ []) k));
        }

    pub walk_done : Walkable most w n → row < n → filled ≤ k → Queued n queue marks filled (walk_all (store_graph most w) n row)
    walk_done s h l =
        let long : filled ≤ length queue = omega (arith, q.marks_stand.few, q.marks_stand.queue_long) in
        let m : length (walk (store_graph most w) (row ∷ []) k) ≤ k = rw (← q.rows) (omega (arith, length-take-le filled queue long)) in
        record {
          marks_stand = q.marks_stand;
          rows = q.rows ∙ walk_enough (rw s.counted (shaped_closed most w s.shaped)) h k m;
        }

pub walkable_few : (most : ℕ) (w : List ℕ) (n : ℕ) → Walkable most w n → n ≤ 1024
walkable_few most w n s = go (dec_lt 0 n)
  where
    go : Dec (0 < n) → n ≤ 1024
    go (yes h) = let t = row_there most w n (n - 1) s (omega arith) in omega (arith, t.low)
    go (no h) = omega arith
