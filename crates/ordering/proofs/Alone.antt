-- A store alone, of which one row is the only start: its rows as they are drawn are those of the store, and what is led to is what the row
-- leads to.
use Prim.Native.Nat.{ℕ, ◌+◌, ◌<◌}
use native.Mathlib.Omega.{arith}
use native.Mathlib.Decide.{dec_lt}
use mathlib.Core.Path.{◌≡◌, refl, sym, ◌∙◌}
use mathlib.Core.List.{List, [], ◌∷◌}
use mathlib.Core.Logic.{◌↔◌}
use Rattle.std.specs.Prelude.{Result}
use lib.ListN.{length, get_or, set}
use Rattle.trees.specs.Graph.{Graph, Closed}
use Rattle.trees.specs.Paths.{reach, Leads}
use Rattle.trees.specs.Agreement.{SameTree}
use Rattle.trees.proofs.Matching.{SaysSame, views_same}
use Rattle.trees.proofs.Paths.{reach_here, reach_hit, reach_miss, leads_within}
use Rattle.loops.specs.Catalogue.{Unlisted}
use Rattle.loops.specs.Loops.{Unheld}
use Rattle.loops.specs.Orders.{Ordered}
use Rattle.loops.proofs.SameVerdict.{unlisted_same, unheld_same}
use Rattle.store.specs.Layout.{store_graph}
use Rattle.store.proofs.Graphs.{shaped_closed}
use Rattle.rows.specs.Joined.{source, drawn}
use Rattle.rows.specs.View.{Drawn, view_rows}
use Rattle.rows.proofs.View.{laid_stored, laid_alone}
use Rattle.rows.proofs.Views.{view_store}
use Rattle.rows.proofs.Joined.{store_label, store_count, store_input}
use Rattle.judging.specs.Verdicts.{Starts, SomeMarked, SomeUnlisted, SomeUnheld, says_unlisted, says_unheld, says_fine, VerdictSays, Led}
use Rattle.judging.specs.Queues.{Starting}
use Rattle.judging.specs.Left.{OrderLeft, left_order, Judges}
use Rattle.judging.specs.declared.misfit.Misfit.{Misfit}
use Rattle.judging.proofs.Marking.{starts_some, starts_one}
use Rattle.ordering.specs.Order.{Orderable, OrderSays, order_unlisted, order_unheld, order_fine}

empty : (l : List ℕ) → length l ≡ 0 → l ≡ []
empty [] e = refl
empty (x ∷ l) e = absurd (omega arith)

-- ---- two graphs that say the same of their first n rows

module _ {g h : Graph} {n : ℕ} (c : Closed g n) (s : SaysSame g h n) where
  reach_one : (p : List ℕ) (u : ℕ) → u < n → reach g u p ≡ reach h u p
  reach_one [] u l = reach_here g u ∙ sym (reach_here h u)
  reach_one (m ∷ p) u l = go (dec_lt m (g.count u)) (λ k. reach_one p (g.input u m) (c.within u m l k))
    where
      counts : g.count u ≡ h.count u
      counts = (s.alike u l).counts

      go : Dec (m < g.count u) → (m < g.count u → reach g (g.input u m) p ≡ reach h (g.input u m) p) → reach g u (m ∷ p) ≡ reach h u (m ∷ p)
      go (yes k) f =
          let i : g.input u m ≡ h.input u m = s.inputs u l m k in
          reach_hit g u m p k ∙ f k ∙ rw i (sym (reach_hit h u m p (omega (arith, counts))))
      go (no k) f = reach_miss g u m p (omega arith) ∙ sym (reach_miss h u m p (omega (arith, counts)))

  leads_one : (u v : ℕ) → u < n → Leads g u v ↔ Leads h u v
  leads_one u v l = (
    (λ a. record { path = a.path; there = sym (reach_one a.path u l) ∙ a.there }),
    (λ a. record { path = a.path; there = reach_one a.path u l ∙ a.there }),
  )

  ordered_one : (queue : List ℕ) (filled : ℕ) → ((k : ℕ) → k < filled → get_or queue k 0 < n) → Ordered g queue filled → Ordered h queue filled
  ordered_one queue filled w o =
      record {
        all = λ k j l q.
            let u = get_or queue k 0 in
            let r : j < g.count (get_or queue k 0) = omega (arith, (s.alike (get_or queue k 0) (w k l)).counts) in
            rw (s.inputs (get_or queue k 0) (w k l) j r) at (o.all k j l r);
        behind = λ k j l f q.
            let r : j < g.count (get_or queue k 0) = omega (arith, (s.alike (get_or queue k 0) (w k l)).counts) in
            rw (s.inputs (get_or queue k 0) (w k l) j r) at
            (o.behind k j l (λ x. f (record { is = rw (s.alike (get_or queue k 0) (w k l)).labels at x.is })) r);
      }

-- ---- a store alone

module _ (most : ℕ) (w : List ℕ) (n at : ℕ) (b table old oldq : List ℕ) (a : Orderable most w n at old oldq) (z : length table ≡ 0) where
  view : Drawn (source most w n b) table
  view =
      let v = view_store {most = most} {w = w} {b = b} a.limit a.shaped in
      rw (a.counted, empty table z) (record { laid = v.laid; placed = λ i l. absurd (omega arith) })

  all : view_rows (source most w n b) table ≡ n
  all = omega (arith, z)

  graph : Graph
  graph = drawn (source most w n b)

  says_one : SaysSame (drawn (source most w n b)) (store_graph most w) n
  unfolding store_graph
  says_one =
      record {
        alike = λ u l. record { labels = store_label (source most w n b) u l; counts = store_count (source most w n b) u l };
        inputs = λ u l j k. store_input (source most w n b) u l j;
      }

  closed : Closed (drawn (source most w n b)) n
  closed = laid_alone view.laid

  same : SameTree (drawn (source most w n b)) at (store_graph most w) at
  same = views_same closed says_one at a.used

  pub first_there : 0 < length oldq
  first_there = omega (arith, a.used, a.places)

  pub row_short : at < 65536
  row_short = omega (arith, a.used, laid_stored view.laid)

  module _ (state : List ℕ) (s : Starts n at (at + 1) state) where
    pub alone_starting : (queue : List ℕ) → queue ≡ set oldq 0 at → Starting (source most w n b) table state queue 1
    alone_starting queue e = rw e (starts_one (source most w n b) table state oldq at view (rw (sym all) at s) z a.used a.places)

    -- what holds of a start holds of the row
    one : {P : ℕ → Type 0} → SomeMarked (view_rows (source most w n b) table) state P ↔ P at
    one {P} = (there, back)
      where
        starts : Starts (view_rows (source most w n b) table) at (at + 1) state
        starts = rw (sym all) at s

        there : SomeMarked (view_rows (source most w n b) table) state P → P at
        there m =
            let x = (starts_some starts (omega (arith, a.used, all))).0 m in
            let e : x.row ≡ at = omega (arith, x.low, x.high) in
            rw e at x.holds

        back : P at → SomeMarked (view_rows (source most w n b) table) state P
        back p = (starts_some starts (omega (arith, a.used, all))).1 (record { row = at; low = omega arith; high = omega arith; holds = p })

    led : (u : ℕ) → Led (drawn (source most w n b)) (view_rows (source most w n b) table) state u ↔ Leads (store_graph most w) at u
    led u = (there, back)
      where
        there : Led (drawn (source most w n b)) (view_rows (source most w n b) table) state u → Leads (store_graph most w) at u
        there x =
            (leads_one closed says_one at u a.used).0
            ((one {P = λ v. Leads (drawn (source most w n b)) v u}).0
            (record { row = x.start; within = x.within; is = record { marked = x.marked; holds = x.leads } }))

        back : Leads (store_graph most w) at u → Led (drawn (source most w n b)) (view_rows (source most w n b) table) state u
        back x =
            let m = (one {P = λ v. Leads (drawn (source most w n b)) v u}).1 ((leads_one closed says_one at u a.used).1 x) in
            record { start = m.row; within = m.within; marked = m.is.marked; leads = m.is.holds }

    unlisted : SomeUnlisted (drawn (source most w n b)) (view_rows (source most w n b) table) state ↔ Unlisted (store_graph most w) at
    unlisted = ((λ m. (unlisted_same same).0 (one.0 m)), (λ x. one.1 ((unlisted_same same).1 x)))

    unheld : SomeUnheld (drawn (source most w n b)) (view_rows (source most w n b) table) state ↔ Unheld (store_graph most w) at
    unheld = ((λ m. (unheld_same closed a.used shut a.used same).0 (one.0 m)), (λ x. one.1 ((unheld_same closed a.used shut a.used same).1 x)))
      where
        shut : Closed (store_graph most w) n
        shut = rw a.counted (shaped_closed most w a.shaped)

    pub alone_says : (queue : List ℕ) (r : Result ℕ Misfit) → Judges (source most w n b) table state queue r → OrderSays (store_graph most w) n at queue r
    alone_says queue r j = go j.says j.order
      where
        go : {r : Result ℕ Misfit} → VerdictSays (drawn (source most w n b)) (view_rows (source most w n b) table) state r
            → OrderLeft (source most w n b) table state queue r → OrderSays (store_graph most w) n at queue r
        go (says_unlisted m) o = order_unlisted (unlisted.0 m)
        go (says_unheld f m) o = order_unheld (λ x. f (unlisted.1 x)) (unheld.0 m)
        go (says_fine f h) (left_order o) =
            order_fine (λ x. f (unlisted.1 x)) (λ x. h (unheld.1 x))
            (record {
              ordered = ordered_one closed says_one queue _ o.within o.ordered;
              few = o.few;
              low = laid_stored view.laid;
              within = o.within;
              led = λ k l. (led (get_or queue k 0)).0 (o.led k l);
              all = λ u x. o.all u (leads_within shut a.used x) ((led u).1 x);
            })
          where
            shut : Closed (store_graph most w) n
            shut = rw a.counted (shaped_closed most w a.shaped)
