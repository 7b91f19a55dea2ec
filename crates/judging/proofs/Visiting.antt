-- The sheet's rows and then those of the queue looked at, until all rows met have been.
use Prim.Native.Nat.{ℕ, ◌+◌, ◌≤◌, ◌<◌}
use native.Mathlib.Omega.{arith}
use native.Mathlib.Decide.{dec_lt, ℕ_discrete}
use mathlib.Core.Path.{◌≡◌, refl, sym, ◌∙◌}
use mathlib.Core.List.{List}
use Rattle.std.specs.Prelude.{Result, Ok, Err}
use lib.ListN.{length, get_or}
use Rattle.rows.specs.Joined.{Source, drawn}
use Rattle.rows.specs.View.{view_rows}
use Rattle.judging.specs.declared.misfit.Misfit.{Misfit}
use Rattle.judging.specs.Verdicts.{state_of, Begun}
use Rattle.judging.specs.Moves.{Moved, moved_none}
use Rattle.judging.specs.Rules.{meeting}
use Rattle.judging.specs.Queues.{Queueing, Starting, Visited, MetOn, RowSays, row_wrong, row_met, WrongMet, SheetVisited, SheetSays, sheet_wrong, sheet_met, MeetSays, meet_wrong, meet_done}
use Rattle.judging.proofs.Passes.{moved_on}
use Rattle.judging.proofs.Reached.{moved_met, moved_kept}

-- ---- from a state on

module _ (s : Source) (table : List ℕ) where
  -- row u has been looked at, and more rows are met
  visited_on : {old new : List ℕ} → Moved (meeting (drawn s) (view_rows s table)) old new → {u : ℕ} → Visited (drawn s) old u → Visited (drawn s) new u
  visited_on m {u} v = record { listed = v.listed; inputs = λ j h. moved_kept (drawn s) (view_rows s table) m ((drawn s).input u j) (v.inputs j h) }

  pub starting_begun : {state queue : List ℕ} {filled : ℕ} → Starting s table state queue filled → Begun (view_rows s table) state
  starting_begun {state} b = record { long = b.long; each = λ u h. go u h (dec_lt u s.stored) (ℕ_discrete (state_of state u) 0) }
    where
      go : (u : ℕ) → u < view_rows s table → Dec (u < s.stored) → Dec (state_of state u ≡ 0) → state_of state u ≤ 1
      go u h (no l) z = omega (arith, b.sheet u (omega arith) h)
      go u h (yes l) (yes z) = omega arith
      go u h (yes l) (no z) =
          let a = b.queued.all u l z in
          let q : state_of state u ≡ 1 = rw a.is at (b.queued.met a.place a.high) in
          omega arith

  module _ {old oldq : List ℕ} {filled : ℕ} (b : Starting s table old oldq filled) where
    starting_on : {state queue : List ℕ} {now : ℕ} → MetOn s table old state queue now → Starting s table state queue now
    starting_on m =
        record {
          view = b.view;
          long = omega (arith, b.long, m.same);
          sheet = λ u h l. moved_met (drawn s) (view_rows s table) m.moved u (b.sheet u h l);
          queued = m.queued;
        }

  on_none : {state queue : List ℕ} {filled : ℕ} → Queueing s.stored state queue filled → MetOn s table state state queue filled
  on_none q = record { moved = moved_none; same = refl; queued = q }

  on_more : {a b bq c cq : List ℕ} {m n : ℕ} → MetOn s table a b bq m → MetOn s table b c cq n → MetOn s table a c cq n
  on_more x y = record { moved = moved_on x.moved y.moved; same = y.same ∙ x.same; queued = y.queued }

  wrong_on : {a b bq : List ℕ} {m : ℕ} → MetOn s table a b bq m → WrongMet s table b → WrongMet s table a
  wrong_on x w =
      record { mid = w.mid; moved = moved_on x.moved w.moved; row = w.row; within = w.within; met = w.met; unfit = w.unfit }

-- ---- the sheet's rows

-- those below u have been looked at
pub record SheetSoFar (s : Source) (table old : List ℕ) (u : ℕ) (state queue : List ℕ) (met : ℕ) : Type 0 where
  pub low : s.stored ≤ u
  pub high : u ≤ view_rows s table
  pub on : MetOn s table old state queue met
  pub starting : Starting s table state queue met
  pub each : (k : ℕ) → s.stored ≤ k → k < u → Visited (drawn s) state k

module _ (s : Source) (table old : List ℕ) where
  pub sheet_none : (queue : List ℕ) (filled : ℕ) → Starting s table old queue filled → SheetSoFar s table old s.stored old queue filled
  sheet_none queue filled b =
      record { low = omega arith; high = omega arith; on = on_none s table b.queued; starting = b; each = λ k h l. absurd (omega arith) }

  module _ (u : ℕ) (state queue : List ℕ) (met : ℕ) (x : SheetSoFar s table old u state queue met) where
    pub sheet_starting : Starting s table state queue met
    sheet_starting = x.starting

    module _ (n : ℕ) (e : n ≡ view_rows s table) (h : u < n) where
      pub sheet_start : state_of state u ≡ 1
      sheet_start = x.starting.sheet u x.low (omega arith)

      pub sheet_stops : (state' queue' : List ℕ) (d : Misfit) → RowSays s table state queue met u state' queue' (Err d)
          → SheetSays s table old state' queue' (Err d)
      sheet_stops state' queue' d a = go a
        where
          go : {d : Misfit} → RowSays s table state queue met u state' queue' (Err d) → SheetSays s table old state' queue' (Err d)
          go (row_wrong f) =
              sheet_wrong
              (wrong_on s table x.on (record { mid = state; moved = moved_none; row = u; within = omega arith; met = sheet_start; unfit = f }))

      pub sheet_more : (state' queue' : List ℕ) (now : ℕ) → RowSays s table state queue met u state' queue' (Ok now)
          → SheetSoFar s table old (u + 1) state' queue' now
      sheet_more state' queue' now a = go a
        where
          go : RowSays s table state queue met u state' queue' (Ok now) → SheetSoFar s table old (u + 1) state' queue' now
          go (row_met m l v) =
              record {
                low = omega (arith, x.low);
                high = omega arith;
                on = on_more s table x.on m;
                starting = starting_on s table x.starting m;
                each = λ k p q. one k p q (dec_lt k u);
              }
            where
              one : (k : ℕ) → s.stored ≤ k → k < u + 1 → Dec (k < u) → Visited (drawn s) state' k
              one k p q (yes w) = visited_on s table m.moved (x.each k p w)
              one k p q (no w) = let z : k ≡ u = omega arith in rw z v

    pub sheet_done : (n : ℕ) → n ≡ view_rows s table → n ≤ u → SheetSays s table old state queue (Ok met)
    sheet_done n e h =
        sheet_met x.on (record { starting = x.starting; sheet = λ k p q. x.each k p (omega arith) })

-- ---- the queue's rows

-- the sheet's rows and those before place k have been looked at
pub record QueueSoFar (s : Source) (table old : List ℕ) (k : ℕ) (state queue : List ℕ) (met : ℕ) : Type 0 where
  pub few : k ≤ met
  pub on : MetOn s table old state queue met
  pub visited : SheetVisited s table state queue met
  pub each : (i : ℕ) → i < k → Visited (drawn s) state (get_or queue i 0)

module _ (s : Source) (table old : List ℕ) where
  pub queue_none : (queue : List ℕ) (filled : ℕ) → SheetVisited s table old queue filled → QueueSoFar s table old 0 old queue filled
  queue_none queue filled b =
      record { few = omega arith; on = on_none s table b.starting.queued; visited = b; each = λ i h. absurd (omega arith) }

  module _ (k : ℕ) (state queue : List ℕ) (met : ℕ) (x : QueueSoFar s table old k state queue met) where
    pub queue_starting : Starting s table state queue met
    queue_starting = x.visited.starting

    pub queue_few : met ≤ s.stored
    queue_few = x.on.queued.once.least

    pub queue_there : k < met → k < length queue
    queue_there h = let f = queue_few in omega (arith, x.on.queued.once.space)

    module _ (u : ℕ) (e : u ≡ get_or queue k 0) (h : k < met) where
      pub queue_row : u < view_rows s table
      queue_row = let l = x.on.queued.once.within k h in omega arith

      pub queue_start : state_of state u ≡ 1
      queue_start = rw e (x.on.queued.met k h)

      module _ (state' queue' : List ℕ) where
        pub queue_stops : (d : Misfit) → RowSays s table state queue met u state' queue' (Err d) → MeetSays s table old state' queue' (Err d)
        queue_stops d a = go a
          where
            go : {d : Misfit} → RowSays s table state queue met u state' queue' (Err d) → MeetSays s table old state' queue' (Err d)
            go (row_wrong f) =
                meet_wrong
                (wrong_on s table x.on (record { mid = state; moved = moved_none; row = u; within = queue_row; met = queue_start; unfit = f }))

        pub queue_more : (now : ℕ) → RowSays s table state queue met u state' queue' (Ok now) → QueueSoFar s table old (k + 1) state' queue' now
        queue_more now a = go a
          where
            go : RowSays s table state queue met u state' queue' (Ok now) → QueueSoFar s table old (k + 1) state' queue' now
            go (row_met m l v) =
                record {
                  few = omega (arith, l.more);
                  on = on_more s table x.on m;
                  visited = record {
                    starting = starting_on s table x.visited.starting m;
                    sheet = λ i p w. visited_on s table m.moved (x.visited.sheet i p w);
                  };
                  each = λ i p. one i p (dec_lt i k);
                }
              where
                one : (i : ℕ) → i < k + 1 → Dec (i < k) → Visited (drawn s) state' (get_or queue' i 0)
                one i p (yes w) = rw (l.kept i (omega arith)) (visited_on s table m.moved (x.each i w))
                one i p (no w) =
                    let z : i ≡ k = omega arith in
                    let y : get_or queue' i 0 ≡ u = rw z (l.kept k h ∙ sym e) in
                    rw y v

    pub queue_done : met ≤ k → MeetSays s table old state queue (Ok met)
    queue_done h =
        meet_done x.on
        (record {
          view = x.visited.starting.view;
          long = x.visited.starting.long;
          queued = x.on.queued;
          low = (starting_begun s table x.visited.starting).each;
          each = λ u p q. one u p q (dec_lt u s.stored);
        })
      where
        one : (u : ℕ) → u < view_rows s table → state_of state u ≡ 1 → Dec (u < s.stored) → Visited (drawn s) state u
        one u p q (no l) = x.visited.sheet u (omega arith) p
        one u p q (yes l) =
            let a = x.on.queued.all u l (λ z. omega arith) in
            rw a.is at (x.each a.place (omega (arith, a.high)))

-- ---- both

module _ (s : Source) (table old mid midq : List ℕ) where
  pub both_stops : (d : Misfit) → SheetSays s table old mid midq (Err d) → MeetSays s table old mid midq (Err d)
  both_stops d a = go a
    where
      go : {d : Misfit} → SheetSays s table old mid midq (Err d) → MeetSays s table old mid midq (Err d)
      go (sheet_wrong w) = meet_wrong w

  module _ (met : ℕ) (a : SheetSays s table old mid midq (Ok met)) where
    pub both_visited : SheetVisited s table mid midq met
    both_visited = go a
      where
        go : SheetSays s table old mid midq (Ok met) → SheetVisited s table mid midq met
        go (sheet_met m v) = v

    pub both_done : (state queue : List ℕ) (t : Result ℕ Misfit) → MeetSays s table mid state queue t → MeetSays s table old state queue t
    both_done state queue t d = go a d
      where
        go : {t : Result ℕ Misfit} → SheetSays s table old mid midq (Ok met) → MeetSays s table mid state queue t → MeetSays s table old state queue t
        go (sheet_met m v) (meet_wrong w) = meet_wrong (wrong_on s table m w)
        go (sheet_met m v) (meet_done n w) = meet_done (on_more s table m n) w
