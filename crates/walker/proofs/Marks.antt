-- A queue and its marks: what a mark tells, and how a row is met.
use Prim.Native.Nat.{ℕ, ◌+◌, ◌≤◌, ◌<◌}
use native.Mathlib.Omega.{arith}
use native.Mathlib.Numerals.{add-one}
use native.Mathlib.Decide.{dec_lt, ℕ_discrete}
use mathlib.Core.Path.{◌≡◌, sym, ap, ◌∙◌}
use mathlib.Core.List.{List}
use mathlib.Core.Bool.{Bool, true, false}
use lib.ListN.{length, get_or, take, set, length-set}
use lib.Seq.{get_or-take, length-take-le, get_or-set_same, get_or-set_other, take-suc-set}
use lib.Dec.{ltb, eqb}
use borrow.Author.Tests.{eq-eqb, ne_eqb, le-ltb}
use Rattle.walks.specs.Walk.{has, meet}
use Rattle.walks.specs.Member.{Member}
use Rattle.walks.proofs.Members.{Once, Each, has_yes, has_no, no_has, meet_in, meet_new}
use Rattle.walks.proofs.Few.{rows_room}
use Rattle.walker.specs.Queue.{Marked, Queued}

module _ {n : ℕ} {queue marks : List ℕ} {filled : ℕ} (m : Marked n queue marks filled) where
  met_length : length (take filled queue) ≡ filled
  met_length = length-take-le filled queue (omega (arith, m.few, m.queue_long))

  -- a row in the queue has its place for its mark
  member_mark : {x : ℕ} → Member (take filled queue) x → (get_or marks x 0 < filled) × (get_or queue (get_or marks x 0) 0 ≡ x)
  member_mark {x} r =
      let h : r.at < filled = omega (arith, r.within, met_length) in
      let q : get_or queue r.at 0 ≡ x = sym (get_or-take filled queue r.at 0 h) ∙ r.here in
      let e : get_or marks x 0 ≡ r.at = rw q at (m.marked r.at h) in
      (rw e h, rw e q)

  mark_member : {x : ℕ} → get_or marks x 0 < filled → get_or queue (get_or marks x 0) 0 ≡ x → Member (take filled queue) x
  mark_member {x} h q =
      record { at = get_or marks x 0; within = omega (arith, met_length); here = get_or-take filled queue (get_or marks x 0) 0 h ∙ q }

  pub mark_past : (x at : ℕ) → at ≡ get_or marks x 0 → filled ≤ at → ltb at filled ≡ has (take filled queue) x
  mark_past x at e h = le-ltb at filled h ∙ sym (has_no (λ r. let k = member_mark r in omega (arith, k.0)))

  pub mark_here : (x at y : ℕ) → at ≡ get_or marks x 0 → at < filled → y ≡ get_or queue at 0 → eqb y x ≡ has (take filled queue) x
  mark_here x at y e h q = go (ℕ_discrete y x)
    where
      there : get_or queue (get_or marks x 0) 0 ≡ y
      there = sym (q ∙ ap (λ i. get_or queue i 0) e)

      go : Dec (y ≡ x) → eqb y x ≡ has (take filled queue) x
      go (yes p) = eq-eqb y x p ∙ sym (has_yes (mark_member (rw e at h) (there ∙ p)))
      go (no p) = ne_eqb y x p ∙ sym (has_no (λ r. p (sym there ∙ (member_mark r).1)))

  pub queue_row : (k x : ℕ) → k < filled → x ≡ get_or queue k 0 → x < n
  queue_row k x h e = rw e (m.within k h)

  -- ---- the rows in the queue

  queue_once : Once (take filled queue)
  queue_once =
      record {
        one = λ i k h l e.
            let a : i < filled = omega (arith, met_length) in
            let b : k < filled = omega (arith, met_length) in
            let q : get_or queue i 0 ≡ get_or queue k 0 = sym (get_or-take filled queue i 0 a) ∙ e ∙ get_or-take filled queue k 0 b in
            sym (m.marked i a) ∙ ap (λ x. get_or marks x 0) q ∙ m.marked k b;
      }

  queue_each : Each (λ x. x < n) (take filled queue)
  queue_each =
      record {
        each = λ i h.
            let a : i < filled = omega (arith, met_length) in
            rw (get_or-take filled queue i 0 a) (m.within i a);
      }

  module _ (x : ℕ) (h : x < n) (t : Bool) (e : t ≡ has (take filled queue) x) where
    pub meet_known : t ≡ true → Queued n queue marks filled (meet (take filled queue) x)
    meet_known q = record { marks_stand = m; rows = sym (meet_in (take filled queue) x (sym e ∙ q)) }

    module _ (q : t ≡ false) where
      -- there is room for a row that has not been met
      pub meet_room : filled < n
      meet_room =
          let l = rows_room (record { once = queue_once; below = queue_each }) x h (sym e ∙ q) in
          omega (arith, met_length)

      pub meet_space : filled < length queue
      meet_space = let r = meet_room in omega (arith, m.queue_long)

      pub meet_fresh : Queued n (set queue filled x) (set marks x filled) (filled + 1) (meet (take filled queue) x)
      meet_fresh =
          let r = meet_room in
          record {
            marks_stand =
                record {
                  queue_long = simp length-set m.queue_long;
                  marks_long = simp length-set m.marks_long;
                  few = omega arith;
                  low = m.low;
                  marked = λ i k. marked i k (dec_lt i filled);
                  within = λ i k. within i k (dec_lt i filled);
                };
            rows = rw add-one (take-suc-set queue filled x long) ∙ sym (meet_new (take filled queue) x (sym e ∙ q));
          }
        where
          long : filled < length queue
          long = let r = meet_room in omega (arith, m.queue_long)

          kept : (i : ℕ) → i < filled → get_or (set queue filled x) i 0 ≡ get_or queue i 0
          kept i k = get_or-set_other queue filled i x 0 (λ p. omega arith)

          last : get_or (set queue filled x) filled 0 ≡ x
          last = get_or-set_same queue filled x 0 long

          marked : (i : ℕ) → i < filled + 1 → Dec (i < filled) → get_or (set marks x filled) (get_or (set queue filled x) i 0) 0 ≡ i
          marked i k (yes l) =
              rw (kept i l)
              (get_or-set_other marks x (get_or queue i 0) filled 0
              (λ p. no_has (take filled queue) x (sym e ∙ q) (record { at = i; within = omega (arith, met_length); here = get_or-take filled queue i 0 l ∙ p }))
              ∙ m.marked i l)
          marked i k (no l) =
              let p : i ≡ filled = omega arith in
              rw (p, last) (get_or-set_same marks x filled 0 (omega (arith, m.marks_long)))

          within : (i : ℕ) → i < filled + 1 → Dec (i < filled) → get_or (set queue filled x) i 0 < n
          within i k (yes l) = rw (kept i l) (m.within i l)
          within i k (no l) = let p : i ≡ filled = omega arith in rw (p, last) h
