-- The sheet's rows and then those of the queue looked at, until all have been: the queue is then closed under inputs.
use Prim.Native.Nat.{ℕ, ◌+◌, ◌-◌, ◌≤◌, ◌<◌}
use native.Mathlib.Omega.{arith}
use native.Mathlib.Decide.{dec_lt}
use mathlib.Core.Path.{◌≡◌, refl, sym, ap, ◌∙◌}
use mathlib.Core.List.{List, [], ◌∷◌}
use lib.ListN.{length, get_or, take}
use lib.Seq.{get_or-take, length-take-le}
use Rattle.trees.specs.Graph.{Graph}
use Rattle.trees.specs.Paths.{row, reach}
use Rattle.trees.proofs.Paths.{reach_here, reach_first, leads_input, leads_last}
use Rattle.rows.specs.Joined.{source, drawn}
use Rattle.rows.specs.View.{Drawn}
use Rattle.rows.proofs.View.{laid_stored, laid_alone, laid_closed}
use Rattle.walks.specs.Member.{Member}
use Rattle.walker.specs.Queue.{Marked}
use Rattle.converts.specs.Result.{FromSheet}
use Rattle.reaching.specs.Reached.{Reached}
use Rattle.reaching.specs.Meeting.{row_at, Since, since_stood, since_met, Visited}
use Rattle.reaching.proofs.Meeting.{at_sheet, at_queued}

-- the first k rows have been looked at
pub record ReachedSoFar (g : Graph) (stored rows : ℕ) (queue marks : List ℕ) (filled k : ℕ) : Type 0 where
  pub marked : Marked stored queue marks filled
  pub few : rows ≤ 1024
  pub from : (i : ℕ) → i < filled → FromSheet g stored rows (get_or queue i 0)
  pub sheet : (i j : ℕ) → i < rows → i < k → j < g.count (stored + i) → g.input (stored + i) j < stored → Member (take filled queue) (g.input (stored + i) j)
  pub queued : (i j : ℕ) → i < filled → rows + i < k → j < g.count (get_or queue i 0) → g.input (get_or queue i 0) j < stored → Member (take filled queue) (g.input (get_or queue i 0) j)

module _ (most : ℕ) (w : List ℕ) (stored : ℕ) (b table : List ℕ) (v : Drawn (source most w stored b) table) where
  abbrev g : Graph
  g = drawn (source most w stored b)

  abbrev rows : ℕ
  rows = length table

  pub reach_none : (queue marks : List ℕ) → stored ≤ length queue → stored ≤ length marks → ReachedSoFar (drawn (source most w stored b)) stored (length table) queue marks 0 0
  reach_none queue marks a c =
      record {
        marked = record {
          queue_long = a;
          marks_long = c;
          few = omega arith;
          low = laid_stored v.laid;
          marked = λ i h. absurd (omega arith);
          within = λ i h. absurd (omega arith);
        };
        few = v.laid.few;
        from = λ i h. absurd (omega arith);
        sheet = λ i j h k. absurd (omega arith);
        queued = λ i j h k. absurd (omega arith);
      }

  module _ (queue marks : List ℕ) (filled k : ℕ) (s : ReachedSoFar (drawn (source most w stored b)) stored (length table) queue marks filled k) where
    length_now : length (take filled queue) ≡ filled
    length_now = length-take-le filled queue (omega (arith, s.marked.few, s.marked.queue_long))

    -- a row that stands in the queue
    member_from : {x : ℕ} → Member (take filled queue) x → FromSheet g stored rows x
    member_from {x} m =
        let h : m.at < filled = omega (arith, m.within, length_now) in
        rw (sym (get_or-take filled queue m.at 0 h) ∙ m.here) at (s.from m.at h)

    -- an input of the row looked at is reached
    here_from : (j : ℕ) → k < rows + filled → j < g.count (row_at stored rows queue k) → FromSheet g stored rows (g.input (row_at stored rows queue k) j)
    here_from j h l = go (dec_lt k rows)
      where
        go : Dec (k < rows) → FromSheet g stored rows (g.input (row_at stored rows queue k) j)
        go (yes q) =
            let e = at_sheet stored rows queue k q in
            record { row = k; of_sheet = q; leads = rw (sym e) (leads_input g (stored + k) j (rw e l)) }
        go (no q) =
            let e = at_queued stored rows queue k (get_or queue (k - rows) 0) (omega arith) refl in
            let f = s.from (k - rows) (omega arith) in
            record { row = f.row; of_sheet = f.of_sheet; leads = rw (sym e) (leads_last f.leads j (rw e l)) }

    module _ (h : k < length table + filled) (queue' marks' : List ℕ) (filled' : ℕ) (d : Visited (drawn (source most w stored b)) stored (row_at stored (length table) queue k) queue filled queue' marks' filled') where
      length_then : length (take filled' queue') ≡ filled'
      length_then = length-take-le filled' queue' (omega (arith, d.marked.few, d.marked.queue_long))

      kept : {x : ℕ} → Member (take filled queue) x → Member (take filled' queue') x
      kept m =
          let l : m.at < filled = omega (arith, m.within, length_now) in
          record {
            at = m.at;
            within = omega (arith, length_then, d.more);
            here = get_or-take filled' queue' m.at 0 (omega (arith, d.more)) ∙ d.kept m.at l ∙ sym (get_or-take filled queue m.at 0 l) ∙ m.here;
          }

      since_from : {x : ℕ} → Since g (row_at stored rows queue k) (take filled queue) x → FromSheet g stored rows x
      since_from (since_stood m) = member_from m
      since_from (since_met i) = rw i.is at (here_from i.input h i.of_row)

      pub reach_more : ReachedSoFar (drawn (source most w stored b)) stored (length table) queue' marks' filled' (k + 1)
      reach_more =
          record {
            marked = d.marked;
            few = s.few;
            from = λ i l. since_from (d.from (get_or queue' i 0) (record { at = i; within = omega (arith, length_then); here = get_or-take filled' queue' i 0 l }));
            sheet = λ i j l p c o. of_sheet i j l p c o (dec_lt i k);
            queued = λ i j l p c o. of_queue i j l p c o (dec_lt (rows + i) k);
          }
        where
          of_sheet : (i j : ℕ) → i < rows → i < k + 1 → j < g.count (stored + i) → g.input (stored + i) j < stored → Dec (i < k) → Member (take filled' queue') (g.input (stored + i) j)
          of_sheet i j l p c o (yes q) = kept (s.sheet i j l q c o)
          of_sheet i j l p c o (no q) =
              let z : i ≡ k = omega arith in
              let e : row_at stored rows queue k ≡ stored + i = rw z (sym (at_sheet stored rows queue k (omega arith))) in
              rw e at (d.each j (rw e c) (rw e o))

          of_queue : (i j : ℕ) → i < filled' → rows + i < k + 1 → j < g.count (get_or queue' i 0) → g.input (get_or queue' i 0) j < stored → Dec (rows + i < k) → Member (take filled' queue') (g.input (get_or queue' i 0) j)
          of_queue i j l p c o (yes q) =
              let e : get_or queue' i 0 ≡ get_or queue i 0 = d.kept i (omega arith) in
              rw e (kept (s.queued i j (omega arith) q (rw e at c) (rw e at o)))
          of_queue i j l p c o (no q) =
              let z : i ≡ k - rows = omega arith in
              let f : get_or queue' i 0 ≡ get_or queue i 0 = d.kept i (omega arith) in
              let y : get_or queue i 0 ≡ row_at stored rows queue k = at_queued stored rows queue k (get_or queue i 0) (omega arith) (ap (λ t. get_or queue t 0) z) in
              let e : row_at stored rows queue k ≡ get_or queue' i 0 = sym (f ∙ y) in
              rw e at (d.each j (rw e c) (rw e o))

    -- ---- all have been looked at

    module _ (h : length table + filled ≤ k) where
      -- row x is a row of the sheet, or stands in the queue
      data Seen (x : ℕ) : Type 0 where
        seen_sheet : (i : ℕ) → i < rows → stored + i ≡ x → Seen x
        seen_queue : Member (take filled queue) x → Seen x

      seen_input : (x j : ℕ) → Seen x → j < g.count x → Seen (g.input x j)
      seen_input x j y c = go y (dec_lt (g.input x j) stored)
        where
          go : Seen x → Dec (g.input x j < stored) → Seen (g.input x j)
          go (seen_sheet i l e) (yes o) = seen_queue (rw e at (s.sheet i j l (omega arith) (rw e c) (rw e o)))
          go (seen_sheet i l e) (no o) =
              let n = (laid_closed v.laid).within x j (omega arith) c in
              seen_sheet (g.input x j - stored) (omega arith) (omega arith)
          go (seen_queue m) (yes o) =
              let a : m.at < filled = omega (arith, m.within, length_now) in
              let e : get_or queue m.at 0 ≡ x = sym (get_or-take filled queue m.at 0 a) ∙ m.here in
              seen_queue (rw e at (s.queued m.at j a (omega arith) (rw e c) (rw e o)))
          go (seen_queue m) (no o) =
              let a : m.at < filled = omega (arith, m.within, length_now) in
              let e : get_or queue m.at 0 ≡ x = sym (get_or-take filled queue m.at 0 a) ∙ m.here in
              let low : x < stored = rw e at (s.marked.within m.at a) in
              absurd (o ((laid_alone v.laid).within x j low c))

      seen_on : (p : List ℕ) (x : ℕ) {y : ℕ} → Seen x → reach g x p ≡ row y → Seen y
      seen_on [] x {y} t e = let d : x ≡ y = cc (reach_here g x) in rw d at t
      seen_on (m ∷ p) x t e =
          let f = reach_first g x m p e in
          seen_on p (g.input x m) (seen_input x m t f.0) f.1

      seen_stored : (n : ℕ) → n < stored → Seen n → Member (take filled queue) n
      seen_stored n l (seen_sheet i q e) = absurd (omega arith)
      seen_stored n l (seen_queue m) = m

      pub reach_done : Reached (drawn (source most w stored b)) stored (length table) queue marks filled
      reach_done =
          record {
            marked = s.marked;
            from = s.from;
            all = λ n l f. seen_stored n l (seen_on f.leads.path (stored + f.row) (seen_sheet f.row f.of_sheet refl) f.leads.there);
          }
