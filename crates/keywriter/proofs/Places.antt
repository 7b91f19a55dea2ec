-- The rows of a key read through the queue.
use Prim.Native.Nat.{ℕ, ◌≤◌, ◌<◌}
use native.Mathlib.Omega.{arith}
use mathlib.Core.Path.{◌≡◌, refl, sym, ap, ap₂, ◌∙◌}
use mathlib.Core.List.{List}
use lib.ListN.{length, get_or, take}
use lib.Seq.{get_or-take, length-take-le}
use Rattle.rules.specs.Lists.{widest}
use Rattle.store.specs.Layout.{label_of, count_of, input_of, store_graph}
use Rattle.store.proofs.Graphs.{shaped_closed}
use Rattle.walks.specs.Key.{place_of, walk_all, keyed, key_graph}
use Rattle.walks.specs.Member.{Member}
use Rattle.walks.proofs.Members.{member_at}
use Rattle.walks.proofs.Places.{place_within, place_here}
use Rattle.walks.proofs.Reached.{Finished, all_finished}
use Rattle.walker.specs.Queue.{Marked, Queued, Walkable}
use Rattle.keys.specs.Bytes.{sheet_bytes}
use Rattle.keywriter.specs.Asked.{Held, held_key}

-- ---- a queued row and its mark

module _ (n : ℕ) (queue marks : List ℕ) (filled : ℕ) (m : Marked n queue marks filled) where
  queue_length : length (take filled queue) ≡ filled
  queue_length = length-take-le filled queue (omega (arith, m.few, m.queue_long))

  module _ (x : ℕ) (r : Member (take filled queue) x) where
    place_low : place_of (take filled queue) x < filled
    place_low = omega (arith, place_within r, queue_length)

    place_row_lem : get_or queue (place_of (take filled queue) x) 0 ≡ x
    place_row_lem = sym (get_or-take filled queue (place_of (take filled queue) x) 0 place_low) ∙ place_here r

    -- a queued row is below n, so that it has a mark
    pub mark_there : x < length marks
    mark_there =
        let h = rw place_row_lem at (m.within (place_of (take filled queue) x) place_low) in
        omega (arith, m.marks_long)

    pub mark_place : (at : ℕ) → at ≡ get_or marks x 0 → at ≡ place_of (take filled queue) x
    mark_place at e = e ∙ rw place_row_lem at (m.marked (place_of (take filled queue) x) place_low)

    pub mark_low : (at : ℕ) → at ≡ get_or marks x 0 → at < filled
    mark_low at e = rw (mark_place at e) place_low

-- ---- the walk's queue when it is finished

pub held_of : (most : ℕ) (w : List ℕ) (n u : ℕ) (queue marks : List ℕ) (filled : ℕ) → Walkable most w n → u < n → Queued n queue marks filled (walk_all (store_graph most w) n u) → Held most w n queue marks filled
unfolding store_graph
held_of most w n u queue marks filled s h q =
    let all : Finished (store_graph most w) (take filled queue) = rw q.rows (all_finished (rw s.counted (shaped_closed most w s.shaped)) h) in
    record {
      walkable = s;
      marks_stand = q.marks_stand;
      inputs = λ i j l. all.inputs (get_or queue i 0) j (rw (get_or-take filled queue i 0 l) at (member_at (take filled queue) i (omega (arith, queue_length n queue marks filled q.marks_stand))));
    }

-- what is written of it is the key of the row from which the walk began
pub held_sheet : (most : ℕ) (w : List ℕ) (n u : ℕ) (queue marks : List ℕ) (filled : ℕ) → Queued n queue marks filled (walk_all (store_graph most w) n u) → sheet_bytes (held_key most w queue filled) filled ≡ sheet_bytes (key_graph (store_graph most w) n u) (length (walk_all (store_graph most w) n u))
held_sheet most w n u queue marks filled q =
    ap₂ (λ l k. sheet_bytes (keyed (store_graph most w) l) k) q.rows (sym (queue_length n queue marks filled q.marks_stand) ∙ ap length q.rows)

-- ---- row k of the key

module _ (most : ℕ) (w queue : List ℕ) (filled k row : ℕ) (h : k < filled) (e : row ≡ get_or queue k 0) where
  here : get_or (take filled queue) k 0 ≡ row
  here = get_or-take filled queue k 0 h ∙ sym e

  pub label_read : (x : ℕ) → x ≡ label_of most w row → x ≡ (held_key most w queue filled).label k
  unfolding keyed store_graph
  label_read x q = rw here q

  pub count_read : (x : ℕ) → x ≡ count_of most w row → x ≡ (held_key most w queue filled).count k
  unfolding keyed store_graph
  count_read x q = rw here q

  pub input_used : (j : ℕ) → j < (held_key most w queue filled).count k → j < count_of most w row
  unfolding keyed store_graph
  input_used j l = rw here at l

  pub input_read : (j x at : ℕ) → x ≡ input_of most w row j → at ≡ place_of (take filled queue) x → at ≡ (held_key most w queue filled).input k j
  unfolding keyed store_graph
  input_read j x at q p = rw (here, ← q) p

  module _ (n : ℕ) (marks : List ℕ) (s : Held most w n queue marks filled) where
    pub count_few : (x : ℕ) → row < n → x ≡ count_of most w row → x ≤ widest
    count_few x l q =
        omega (arith, s.walkable.limit, (s.walkable.shaped.rows row (omega (arith, s.walkable.counted))).few)

    pub input_held : (j x : ℕ) → j < (held_key most w queue filled).count k → x ≡ input_of most w row j → Member (take filled queue) x
    input_held j x l q = rw (q, e) (s.inputs k j h (rw e at (input_used j l)))

    pub input_room : (j : ℕ) → row < n → j < (held_key most w queue filled).count k → j < most
    input_room j l u =
        let c = input_used j u in
        omega (arith, (s.walkable.shaped.rows row (omega (arith, s.walkable.counted))).few)

-- a row of a key has no more inputs than any row has
pub held_few : (most : ℕ) (w : List ℕ) (n : ℕ) (queue marks : List ℕ) (filled : ℕ) → Held most w n queue marks filled → (k : ℕ) → k < filled → (held_key most w queue filled).count k ≤ widest
held_few most w n queue marks filled s k h =
    let row = get_or queue k 0 in
    rw (← (count_read most w queue filled k row h refl (count_of most w row) refl))
    (count_few most w queue filled k row h refl n marks s (count_of most w row) (s.marks_stand.within k h) refl)
