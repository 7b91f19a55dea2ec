-- The inputs of a row by value met one after another, and so the inputs of a row of a view.
use Prim.Native.Nat.{ℕ, zero, suc, ◌+◌, ◌-◌, ◌≤◌, ◌<◌}
use native.Mathlib.Omega.{arith}
use native.Mathlib.Numerals.{add-one}
use native.Mathlib.Decide.{dec_lt}
use mathlib.Core.Path.{◌≡◌, refl, sym, ◌∙◌}
use mathlib.Core.List.{List}
use lib.ListN.{length, get_or, take}
use lib.Seq.{get_or-take, length-take-le}
use borrow.Author.Tests.{lt-ltb, le-ltb}
use Rattle.rules.specs.Lists.{widest}
use Rattle.trees.specs.Graph.{Graph}
use Rattle.store.specs.declared.row.Row.{Row}
use Rattle.rows.specs.Joined.{source, drawn, row_in}
use Rattle.rows.specs.View.{Drawn}
use Rattle.rows.proofs.Rows.{in_count, in_input}
use Rattle.rows.proofs.View.{laid_counts}
use Rattle.walks.specs.Member.{Member}
use Rattle.walks.specs.Walk.{meet}
use Rattle.walks.proofs.Members.{Each, Grown, each_member, grown_refl, grown_trans, grown_member, met, met_grown, met_member, met_each}
use Rattle.walker.specs.Queue.{Marked, Queued}
use Rattle.reaching.specs.Meeting.{meet_stored, meet_these, row_at, Since, since_stood, since_met, Visited}

-- ---- a row met, if it is one of the store

module _ (stored : ℕ) (l : List ℕ) (x : ℕ) where
  stored_hit : x < stored → meet_stored stored l x ≡ meet l x
  unfolding meet_stored
  stored_hit h = simp (lt-ltb x stored h)

  stored_miss : stored ≤ x → meet_stored stored l x ≡ l
  unfolding meet_stored
  stored_miss h = simp (le-ltb x stored h)

  stored_grown : Grown l (meet_stored stored l x)
  stored_grown = go (dec_lt x stored)
    where
      go : Dec (x < stored) → Grown l (meet_stored stored l x)
      go (yes h) = rw (stored_hit h) (met_grown (met l x))
      go (no h) = rw (stored_miss (omega arith)) (grown_refl l)

  stored_member : x < stored → Member (meet_stored stored l x) x
  stored_member h = rw (stored_hit h) (met_member (met l x))

  stored_each : {Q : ℕ → Type 0} → Each Q l → Q x → Each Q (meet_stored stored l x)
  stored_each {Q} e q = go (dec_lt x stored)
    where
      go : Dec (x < stored) → Each Q (meet_stored stored l x)
      go (yes h) = rw (stored_hit h) (met_each (met l x) e q)
      go (no h) = rw (stored_miss (omega arith)) e

module _ (stored : ℕ) (queue : List ℕ) (filled x : ℕ) where
  pub one_met : (queue' marks' : List ℕ) (r : ℕ) → x < stored → Queued stored queue' marks' r (meet (take filled queue) x) → Queued stored queue' marks' r (meet_stored stored (take filled queue) x)
  one_met queue' marks' r h q = record { marks_stand = q.marks_stand; rows = q.rows ∙ sym (stored_hit stored (take filled queue) x h) }

  pub one_passed : (marks : List ℕ) → stored ≤ x → Marked stored queue marks filled → Queued stored queue marks filled (meet_stored stored (take filled queue) x)
  one_passed marks h m = record { marks_stand = m; rows = sym (stored_miss stored (take filled queue) x h) }

-- ---- the first inputs of a row by value

module _ (stored : ℕ) (inputs l : List ℕ) where
  these_zero : meet_these stored inputs l 0 ≡ l
  unfolding meet_these
  these_zero = refl

  these_suc : (n : ℕ) → meet_these stored inputs l (suc n) ≡ meet_stored stored (meet_these stored inputs l n) (get_or inputs n 0)
  unfolding meet_these
  these_suc n = refl

  these_grown : (n : ℕ) → Grown l (meet_these stored inputs l n)
  these_grown zero = rw these_zero (grown_refl l)
  these_grown (suc n) = rw (these_suc n) (grown_trans (these_grown n) (stored_grown stored (meet_these stored inputs l n) (get_or inputs n 0)))

  these_member : (n i : ℕ) → i < n → get_or inputs i 0 < stored → Member (meet_these stored inputs l n) (get_or inputs i 0)
  these_member zero i h s = absurd (omega arith)
  these_member (suc n) i h s = go (dec_lt i n) (λ k. these_member n i k s)
    where
      go : Dec (i < n) → (i < n → Member (meet_these stored inputs l n) (get_or inputs i 0)) → Member (meet_these stored inputs l (suc n)) (get_or inputs i 0)
      go (yes k) before = rw (these_suc n) (grown_member (stored_grown stored (meet_these stored inputs l n) (get_or inputs n 0)) (before k))
      go (no k) before =
          let e : i ≡ n = omega arith in
          rw (these_suc n, e) (stored_member stored (meet_these stored inputs l n) (get_or inputs n 0) (rw e at s))

  these_each : {Q : ℕ → Type 0} (n : ℕ) → Each Q l → ((i : ℕ) → i < n → Q (get_or inputs i 0)) → Each Q (meet_these stored inputs l n)
  these_each zero e q = rw these_zero e
  these_each (suc n) e q =
      rw (these_suc n) (stored_each stored (meet_these stored inputs l n) (get_or inputs n 0) (these_each n e (λ i h. q i (omega arith))) (q n (omega arith)))

module _ (stored : ℕ) (inputs queue₀ : List ℕ) (filled₀ : ℕ) where
  pub these_begin : (marks : List ℕ) → Marked stored queue₀ marks filled₀ → Queued stored queue₀ marks filled₀ (meet_these stored inputs (take filled₀ queue₀) 0)
  these_begin marks m = record { marks_stand = m; rows = sym (these_zero stored inputs (take filled₀ queue₀)) }

  module _ (j : ℕ) (queue marks : List ℕ) (filled : ℕ) (q : Queued stored queue marks filled (meet_these stored inputs (take filled₀ queue₀) j)) where
    pub these_next : (queue' marks' : List ℕ) (filled' : ℕ) → Queued stored queue' marks' filled' (meet_stored stored (take filled queue) (get_or inputs j 0)) → Queued stored queue' marks' filled' (meet_these stored inputs (take filled₀ queue₀) (j + 1))
    these_next queue' marks' filled' r =
        record {
          marks_stand = r.marks_stand;
          rows = r.rows ∙ rw (q.rows, add-one) (sym (these_suc stored inputs (take filled₀ queue₀) j));
        }

    pub these_marked : Marked stored queue marks filled
    these_marked = q.marks_stand

    pub these_done : (count : ℕ) → j ≤ count → count ≤ j → Queued stored queue marks filled (meet_these stored inputs (take filled₀ queue₀) count)
    these_done count a b = let e : j ≡ count = omega arith in rw e at q

-- ---- row k of those looked at

module _ (stored rows : ℕ) (queue : List ℕ) (k : ℕ) where
  pub at_sheet : k < rows → stored + k ≡ row_at stored rows queue k
  unfolding row_at
  at_sheet h = simp (lt-ltb k rows h)

  at_queue : rows ≤ k → row_at stored rows queue k ≡ get_or queue (k - rows) 0
  unfolding row_at
  at_queue h = simp (le-ltb k rows h)

  pub at_queued : (x : ℕ) → rows ≤ k → x ≡ get_or queue (k - rows) 0 → x ≡ row_at stored rows queue k
  at_queued x h e = e ∙ sym (at_queue h)

  module _ (marks : List ℕ) (filled : ℕ) (m : Marked stored queue marks filled) (h : k < rows + filled) where
    pub at_low : (x : ℕ) → rows ≤ k → x ≡ get_or queue (k - rows) 0 → x < stored + rows
    at_low x l e = let i : k - rows < filled = omega arith in omega (arith, m.within (k - rows) i)

-- ---- its inputs met

module _ (most : ℕ) (w : List ℕ) (stored : ℕ) (b table : List ℕ) (v : Drawn (source most w stored b) table) (u : ℕ) (h : u < stored + length table) (row : Row) (e : row ≡ row_in (drawn (source most w stored b)) u) where
  abbrev g : Graph
  g = drawn (source most w stored b)

  few : g.count u ≤ widest
  few = laid_counts v.laid u h

  counted : row.count ≡ g.count u
  counted = rw e (in_count g u)

  pub row_few : row.count ≤ widest
  row_few = omega (arith, few, counted)

  input : (j : ℕ) → j < g.count u → get_or row.inputs j 0 ≡ g.input u j
  input j l = rw e (in_input g u few j l)

  pub row_visited : (queue marks queue' marks' : List ℕ) (filled r : ℕ) (at : ℕ) → u ≡ at → Marked stored queue marks filled → Queued stored queue' marks' r (meet_these stored row.inputs (take filled queue) row.count) → Visited (drawn (source most w stored b)) stored at queue filled queue' marks' r
  row_visited queue marks queue' marks' filled r at a m q =
      rw (sym a) (record {
        marked = q.marks_stand;
        more = omega (arith, grown.longer, long, long');
        kept = λ i l.
            sym (get_or-take r queue' i 0 (omega (arith, grown.longer, long, long')))
            ∙ grown.kept i (omega (arith, long))
            ∙ get_or-take filled queue i 0 l;
        each = λ j l s.
            rw (q.rows, sym (input j l)) (these_member stored row.inputs (take filled queue) row.count j (omega (arith, counted)) (rw (input j l) s));
        from = λ x y. each_member origin (rw q.rows at y);
      })
    where
      long : length (take filled queue) ≡ filled
      long = length-take-le filled queue (omega (arith, m.few, m.queue_long))

      long' : length (take r queue') ≡ r
      long' = length-take-le r queue' (omega (arith, q.marks_stand.few, q.marks_stand.queue_long))

      grown : Grown (take filled queue) (take r queue')
      grown = rw q.rows (these_grown stored row.inputs (take filled queue) row.count)

      origin : Each (Since g u (take filled queue)) (meet_these stored row.inputs (take filled queue) row.count)
      origin =
          these_each stored row.inputs (take filled queue) row.count
          (record { each = λ i l. since_stood (record { at = i; within = l; here = refl }) })
          (λ i l. let k : i < g.count u = omega (arith, counted) in rw (input i k) (since_met (record { input = i; of_row = k; is = refl })))
