-- Rows of two walks that are the same at every place have the same tree, and the other way round.
use Prim.Native.Nat.{ℕ, ◌≤◌, ◌<◌}
use native.Mathlib.Omega.{arith}
use mathlib.Core.Path.{◌≡◌, sym, ap, ◌∙◌}
use mathlib.Core.Bool.{Bool, false}
use mathlib.Core.List.{List, [], ◌∷◌}
use mathlib.Core.Logic.{inl, inr}
use lib.ListN.{length, get_or}
use lib.Seq.{get_or-take, length-take-le}
use Rattle.std.specs.Prelude.{Result, Err}
use Rattle.rules.specs.Refusals.{First, ◌when◌}
use Rattle.rules.specs.Answers.{Says, says_no}
use Rattle.rules.proofs.Refusals.{first_here, first_later, first_none, first_front, done_none}
use Rattle.rules.proofs.Answers.{says_same}
use Rattle.trees.specs.Graph.{Closed}
use Rattle.trees.specs.Agreement.{SameTree, Minimal}
use Rattle.store.specs.Layout.{in_use, label_of, count_of, input_of, store_graph, room}
use Rattle.store.specs.Sound.{Sound}
use Rattle.store.proofs.Graphs.{shaped_closed}
use Rattle.store.proofs.Shapes.{shaped_there}
use Rattle.walks.specs.Key.{place_of, walk_all, key_graph}
use Rattle.walks.specs.Member.{Member}
use Rattle.walks.proofs.Places.{place_here, place_within}
use Rattle.walks.proofs.Reached.{all_finished}
use Rattle.walks.proofs.Keyed.{keyed_label, keyed_count, keyed_input}
use Rattle.walks.proofs.Lockstep.{SameKey, same_key, key_same}
use Rattle.walker.specs.Queue.{Marked, Queued}
use Rattle.checking.specs.Checked.{SoundStore, CheckedSays, checked_refused}
use Rattle.checking.specs.Answers.{AnswerSays, answers_refused, answers_done, Out}
use Rattle.comparing.specs.Refused.{compare_refusals}
use Rattle.checking.specs.declared.look.Answer.{Answer}
use Rattle.store.specs.Sound.{flaw_number}
use Rattle.store.specs.declared.shape.Flaw.{Flaw}
use Rattle.checking.proofs.Done.{store_known, in_first, in_second, answer_done}
use Rattle.comparing.specs.Rows.{RowsMarked, SameRows}

-- ---- one store walked

-- a sound store walked from row u
pub record Walked (w : List ℕ) (n u : ℕ) (queue marks : List ℕ) (filled : ℕ) : Type 0 where
  pub store : SoundStore w n
  pub start : u < n
  pub queued : Queued n queue marks filled (walk_all (store_graph room w) n u)

module _ {w : List ℕ} {n u : ℕ} {queue marks : List ℕ} {filled : ℕ} (k : Walked w n u queue marks filled) where
  walked_closed : Closed (store_graph room w) n
  walked_closed = rw k.store.counted (shaped_closed room w k.store.sound.shaped)

  walked_minimal : Minimal (store_graph room w) n
  walked_minimal = rw k.store.counted k.store.sound.distinct

  m : Marked n queue marks filled
  m = k.queued.marks_stand

  in_queue : filled ≤ length queue
  in_queue = omega (arith, m.few, m.queue_long)

  walked_length : length (walk_all (store_graph room w) n u) ≡ filled
  walked_length = rw (← k.queued.rows) (length-take-le filled queue in_queue)

  walked_at : (i : ℕ) → i < filled → get_or (walk_all (store_graph room w) n u) i 0 ≡ get_or queue i 0
  walked_at i h = rw (← k.queued.rows) (get_or-take filled queue i 0 h)

  -- a row's mark is its place in the walk
  walked_place : {x : ℕ} → Member (walk_all (store_graph room w) n u) x → place_of (walk_all (store_graph room w) n u) x ≡ get_or marks x 0
  walked_place {x} r =
      let p = place_within r in
      let h : place_of (walk_all (store_graph room w) n u) x < filled = omega (arith, walked_length) in
      let q : get_or queue (place_of (walk_all (store_graph room w) n u) x) 0 ≡ x = sym (walked_at (place_of (walk_all (store_graph room w) n u) x) h) ∙ place_here r in
      sym (rw q at (m.marked (place_of (walk_all (store_graph room w) n u) x) h))

  walked_input : (i j : ℕ) → i < filled → j < count_of room w (get_or queue i 0) → Member (walk_all (store_graph room w) n u) (input_of room w (get_or queue i 0) j)
  unfolding store_graph
  walked_input i j h l =
      (all_finished walked_closed k.start).inputs (get_or queue i 0) j
      (record { at = i; within = omega (arith, walked_length); here = walked_at i h })
      l

  -- a row of the key, by the row at its place in the queue
  key_label_lem : (i : ℕ) → i < filled → (key_graph (store_graph room w) n u).label i ≡ label_of room w (get_or queue i 0)
  unfolding store_graph
  key_label_lem i h =
      keyed_label (store_graph room w) (walk_all (store_graph room w) n u) i ∙ ap (label_of room w) (walked_at i h)

  key_count_lem : (i : ℕ) → i < filled → (key_graph (store_graph room w) n u).count i ≡ count_of room w (get_or queue i 0)
  unfolding store_graph
  key_count_lem i h =
      keyed_count (store_graph room w) (walk_all (store_graph room w) n u) i ∙ ap (count_of room w) (walked_at i h)

  key_input_lem : (i j : ℕ) → i < filled → j < count_of room w (get_or queue i 0) → (key_graph (store_graph room w) n u).input i j ≡ get_or marks (input_of room w (get_or queue i 0) j) 0
  unfolding store_graph
  key_input_lem i j h q =
      keyed_input (store_graph room w) (walk_all (store_graph room w) n u) i j
      ∙ ap (λ x. place_of (walk_all (store_graph room w) n u) (input_of room w x j)) (walked_at i h)
      ∙ walked_place (walked_input i j h q)

  pub walked_rows : RowsMarked w marks queue filled
  walked_rows =
      record {
        long = in_queue;
        each = λ i h.
            let x = m.within i h in
            let s = k.store.sound.shaped in
            let f = s.rows (get_or queue i 0) (omega (arith, k.store.counted)) in
            record {
              there = shaped_there room w (get_or queue i 0) (omega arith) s (omega (arith, k.store.counted));
              few = f.few;
              inputs = λ j l. omega (arith, f.used j l, k.store.counted, m.marks_long);
            };
      }

-- ---- two stores walked

module _ {w v : List ℕ} {n m a b : ℕ} {queue marks line others : List ℕ} {filled met : ℕ} (k : Walked w n a queue marks filled) (l : Walked v m b line others met) where
  -- lengths that differ are keys that differ
  pub lengths_part : (filled ≡ met → ⊥) → Says (SameTree (store_graph room w) a (store_graph room v) b) false
  lengths_part f =
      says_no
      (λ t.
      let s = same_key (walked_closed k) (walked_closed l) k.start l.start (walked_minimal k) (walked_minimal l) t in
      f (sym (walked_length k) ∙ s.rows ∙ walked_length l))

  module _ (e : filled ≡ met) where
    left : (i : ℕ) → i < length (walk_all (store_graph room w) n a) → i < filled
    left i h = omega (arith, walked_length k)

    rows_key : SameRows w marks queue v others line filled → SameKey (key_graph (store_graph room w) n a) (key_graph (store_graph room v) m b) (length (walk_all (store_graph room w) n a)) (length (walk_all (store_graph room v) m b))
    rows_key s =
        record {
          rows = walked_length k ∙ e ∙ sym (walked_length l);
          labels = λ i h.
              let x = left i h in
              key_label_lem k i x ∙ (s.each i x).labels ∙ sym (key_label_lem l i (omega arith));
          counts = λ i h.
              let x = left i h in
              key_count_lem k i x ∙ (s.each i x).counts ∙ sym (key_count_lem l i (omega arith));
          inputs = λ i j h q.
              let x = left i h in
              let c : j < count_of room w (get_or queue i 0) = rw (key_count_lem k i x) at q in
              key_input_lem k i j x c ∙ (s.each i x).places.each j c ∙ sym (key_input_lem l i j (omega arith) (omega (arith, (s.each i x).counts)));
        }

    key_rows : SameKey (key_graph (store_graph room w) n a) (key_graph (store_graph room v) m b) (length (walk_all (store_graph room w) n a)) (length (walk_all (store_graph room v) m b)) → SameRows w marks queue v others line filled
    key_rows s =
        record {
          each = λ i x.
              let h : i < length (walk_all (store_graph room w) n a) = omega (arith, walked_length k) in
              let y : i < met = omega arith in
              let c : count_of room w (get_or queue i 0) ≡ count_of room v (get_or line i 0) = sym (key_count_lem k i x) ∙ s.counts i h ∙ key_count_lem l i y in
              record {
                labels = sym (key_label_lem k i x) ∙ s.labels i h ∙ key_label_lem l i y;
                counts = c;
                places = record { each = λ j q. sym (key_input_lem k i j x q) ∙ s.inputs i j h (rw (key_count_lem k i x) q) ∙ key_input_lem l i j y (omega arith) };
              };
        }

    pub rows_decide : (t : Bool) → Says (SameRows w marks queue v others line filled) t → Says (SameTree (store_graph room w) a (store_graph room v) b) t
    rows_decide t =
        says_same (
          (λ s. key_same (walked_closed k) (walked_closed l) k.start l.start (rows_key s)),
          (λ x. key_rows (same_key (walked_closed k) (walked_closed l) k.start l.start (walked_minimal k) (walked_minimal l) x)),
        )

-- ---- the walks as they were made

module _ (w : List ℕ) (n u : ℕ) (queue marks : List ℕ) (filled : ℕ) (s : SoundStore w n) (h : u < n) (q : Queued n queue marks filled (walk_all (store_graph room w) n u)) where
  pub sound_rows : RowsMarked w marks queue filled
  sound_rows = walked_rows (record { store = s; start = h; queued = q })

  -- by the length of the other walk
  pub sound_rows_too : (k : ℕ) → k ≡ filled → RowsMarked w marks queue k
  sound_rows_too k e = rw e sound_rows

  module _ (v : List ℕ) (m b : ℕ) (line others : List ℕ) (met : ℕ) (t : SoundStore v m) (i : b < m) (l : Queued m line others met (walk_all (store_graph room v) m b)) where
    pub sound_part : (filled ≡ met → ⊥) → Says (SameTree (store_graph room w) u (store_graph room v) b) false
    sound_part = lengths_part (record { store = s; start = h; queued = q }) (record { store = t; start = i; queued = l })

    pub sound_decide : filled ≡ met → (a : Bool) → Says (SameRows w marks queue v others line filled) a → Says (SameTree (store_graph room w) u (store_graph room v) b) a
    sound_decide = rows_decide (record { store = s; start = h; queued = q }) (record { store = t; start = i; queued = l })

-- ---- the answer

module _ (w v : List ℕ) (n m row other : ℕ) (s : SoundStore w n) (t : SoundStore v m) where
  past : {r : ℕ} → First ((9 when Out w row v other) ∷ []) r → First (compare_refusals w row v other) r
  past f =
      let h = s.words in
      let k = t.words in
      first_later (λ z. omega arith)
      (first_later (λ x. x s.sound) (first_later (λ z. omega arith) (first_later (λ x. x t.sound) f)))

  pub row_out : n ≤ row → AnswerSays (compare_refusals w row v other) (SameTree (store_graph room w) row (store_graph room v) other) (record { number = 9; yes = false })
  row_out h = answers_refused (past (first_here (inl (omega (arith, s.counted))))) (λ z. omega arith)

  pub other_out : m ≤ other → AnswerSays (compare_refusals w row v other) (SameTree (store_graph room w) row (store_graph room v) other) (record { number = 9; yes = false })
  other_out h = answers_refused (past (first_here (inr (omega (arith, t.counted))))) (λ z. omega arith)

  pub compared : (a : Bool) → row < n → other < m → Says (SameTree (store_graph room w) row (store_graph room v) other) a → AnswerSays (compare_refusals w row v other) (SameTree (store_graph room w) row (store_graph room v) other) (record { number = 0; yes = a })
  compared a h k q = answers_done (past (first_later out first_none)) q
    where
      out : Out w row v other → ⊥
      out (inl x) = omega (arith, s.counted)
      out (inr x) = omega (arith, t.counted)

module _ (w v : List ℕ) (row other number : ℕ) (a : Result ℕ Flaw) (flaw : Flaw) (e : a ≡ Err flaw) (q : number ≡ flaw_number flaw) where
  pub first_refused : CheckedSays w a → AnswerSays (compare_refusals w row v other) (SameTree (store_graph room w) row (store_graph room v) other) (record { number = number; yes = false })
  first_refused c = rw q (go (rw e at c))
    where
      go : CheckedSays w (Err flaw) → AnswerSays (compare_refusals w row v other) (SameTree (store_graph room w) row (store_graph room v) other) (record { number = flaw_number flaw; yes = false })
      go (checked_refused f z) = answers_refused (first_front ((1 when (length v ≡ 0)) ∷ (2 when (Sound room v → ⊥)) ∷ (9 when Out w row v other) ∷ []) f z) z

  pub second_refused : (n : ℕ) → SoundStore w n → CheckedSays v a → AnswerSays (compare_refusals w row v other) (SameTree (store_graph room w) row (store_graph room v) other) (record { number = number; yes = false })
  second_refused n s c = rw q (go (rw e at c))
    where
      go : CheckedSays v (Err flaw) → AnswerSays (compare_refusals w row v other) (SameTree (store_graph room w) row (store_graph room v) other) (record { number = flaw_number flaw; yes = false })
      go (checked_refused f z) =
          let h = s.words in
          answers_refused (first_later (λ q. omega arith) (first_later (λ x. x s.sound) (first_front ((9 when Out w row v other) ∷ []) f z))) z

-- ---- a done answer: both stores have words and are sound, and both rows are in use

pub record CompareDone (w : List ℕ) (row : ℕ) (v : List ℕ) (other : ℕ) : Type 0 where
  pub first : SoundStore w (in_use w)
  pub second : SoundStore v (in_use v)
  pub row_used : row < in_use w
  pub other_used : other < in_use v

pub compare_sound : {w v : List ℕ} {row other : ℕ} {P : Type 0} {a : Answer} → AnswerSays (compare_refusals w row v other) P a → a.number ≡ 0 → CompareDone w row v other
compare_sound {w} {v} {row} {other} s e =
    let n = done_none {l = compare_refusals w row v other} ((λ z. omega arith), ((λ z. omega arith), ((λ z. omega arith), ((λ z. omega arith), ((λ z. omega arith), tt))))) (answer_done s e) in
    record {
      first = store_known w n.0 n.1.0;
      second = store_known v n.1.1.0 n.1.1.1.0;
      row_used = in_first w row v other n.1.1.1.1.0;
      other_used = in_second w row v other n.1.1.1.1.0;
    }
