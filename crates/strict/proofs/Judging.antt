-- The answers of judging, each from what led to it.
use Prim.Native.Nat.{ℕ, ◌+◌, ◌-◌, ◌≤◌, ◌<◌}
use native.Mathlib.Omega.{arith}
use mathlib.Core.Path.{◌≡◌, refl, sym}
use mathlib.Core.List.{List, [], ◌∷◌}
use mathlib.Core.Logic.{◌↔◌}
use lib.ListN.{length}
use Rattle.rules.specs.Refusals.{First, NoneOf}
use Rattle.rules.proofs.Refusals.{first_here, first_later}
use Rattle.trees.specs.Graph.{Graph, Closed}
use Rattle.trees.specs.Agreement.{SameTree}
use Rattle.trees.proofs.Matching.{renumbered_same}
use Rattle.sheet.specs.Format.{row_count_of}
use Rattle.sheet.specs.Points.{PointsNowhere}
use Rattle.sheet.specs.Faults.{fault_at}
use Rattle.store.specs.Layout.{in_use, room}
use Rattle.rows.specs.Joined.{source, drawn}
use Rattle.rows.specs.Tabled.{Tabled}
use Rattle.rows.proofs.Tabling.{tabled_drawn, tabled_laid}
use Rattle.rows.proofs.View.{laid_closed}
use Rattle.loops.specs.Catalogue.{Unlisted}
use Rattle.loops.specs.Loops.{Unheld}
use Rattle.loops.proofs.SameVerdict.{unlisted_same, unheld_same}
use Rattle.keys.specs.Sheets.{sheet_graph}
use Rattle.duties.proofs.Alone.{sheet_closed, sheet_moved}
use Rattle.judging.specs.Verdicts.{SomeMarked, SomeUnlisted, SomeUnheld, VerdictSays, says_unlisted, says_unheld, says_fine, Starts}
use Rattle.judging.specs.Stated.{Stated}
use Rattle.judging.specs.Queues.{Starting}
use Rattle.judging.specs.Left.{Judges}
use Rattle.judging.specs.declared.misfit.Misfit.{Misfit}
use Rattle.judging.specs.declared.misfit.Misfit.TheVariants.{NotListed, NotHeld}
use Rattle.judging.proofs.Marking.{starts_some, starts_sheet}
use Rattle.fronting.specs.Together.{as_drawn}
use Rattle.strict.specs.Strict.{SheetUnlisted, SheetUnheld, verdicts}
use Rattle.strict.specs.Judged.{JudgedSays, judged_refused, judged_fine, judged_number, judged_values}
use Rattle.std.specs.Prelude.{Result, Ok, Err, ⊤}
use Rattle.sheet.specs.Read.{fault}
use Rattle.sheet.specs.declared.fault.Fault.{Fault}

-- 12 and 13 are no faults at a byte of the sheet
module _ (b : List ℕ) (stored : ℕ) where
  pub fault_12 : fault_at 12 b stored ≡ 0
  unfolding fault_at
  fault_12 = refl

  pub fault_13 : fault_at 13 b stored ≡ 0
  unfolding fault_at
  fault_13 = refl

-- ---- the verdict: the starts are the sheet's rows

pub alone_stated : (w b table state : List ℕ) → Tabled w b 0 table → length state ≡ 1024 → Stated (source room w 0 b) table state
alone_stated w b table state t m =
    let v = tabled_drawn w b 0 table t in
    record { view = v; long = omega (arith, v.laid.few) }

-- a sheet without store numbers is read beside a store without rows as beside any other
pub tabled_alone : (w b : List ℕ) (stored : ℕ) (table : List ℕ) → Tabled w b stored table → (PointsNowhere b 0 → ⊥) → Tabled (0 ∷ []) b 0 table
tabled_alone w b stored table t own =
    record {
      front = record {
        words = omega arith;
        shaped = record { fits = omega arith; rows = λ n h. absurd (omega arith) };
        counted = refl;
        readable = t.front.readable;
        numbered = t.front.numbered;
        leads = own;
      };
      places = t.places;
    }

pub alone_own : (w b table : List ℕ) → Tabled w b 0 table → PointsNowhere b 0 → ⊥
alone_own w b table t = t.front.leads

module _ (w b : List ℕ) (stored : ℕ) (table : List ℕ) (t : Tabled w b stored table) (own : PointsNowhere b 0 → ⊥) (state : List ℕ) (rows : ℕ) (r : rows ≡ stored + length table) (begun : Starts rows stored rows state) where
  s : Starts (stored + length table) stored (stored + length table) state
  s = rw r at begun

  -- P holds of a row of the sheet
  record SheetSome (P : Graph → ℕ → Type 0) : Type 0 where
    row : ℕ
    of_sheet : row < row_count_of b
    holds : P (as_drawn w b) (in_use w + row)

  some_sheet : (P : Graph → ℕ → Type 0) → SomeMarked (stored + length table) state (P (drawn (source room w stored b))) ↔ SheetSome P
  some_sheet P = (there, back)
    where
      lifted : (u k : ℕ) → u ≡ stored + k → P (drawn (source room w stored b)) u → P (as_drawn w b) (in_use w + k)
      lifted u k q x = rw t.front.counted at (rw q at x)

      there : SomeMarked (stored + length table) state (P (drawn (source room w stored b))) → SheetSome P
      there m =
          let a = (starts_some s (omega arith)).0 m in
          record {
            row = a.row - stored;
            of_sheet = omega (arith, a.low, a.high, t.front.numbered);
            holds = lifted a.row (a.row - stored) (omega (arith, a.low)) a.holds;
          }

      back : SheetSome P → SomeMarked (stored + length table) state (P (drawn (source room w stored b)))
      back a =
          (starts_some s (omega arith)).1
          (record {
            row = stored + a.row;
            low = omega arith;
            high = omega (arith, a.of_sheet, t.front.numbered);
            holds = rw t.front.counted a.holds;
          })

  -- each row of the sheet has its tree as drawn, whatever the store
  tree : (i : ℕ) → i < row_count_of b → SameTree (sheet_graph b) i (as_drawn w b) (in_use w + i)
  tree i h = renumbered_same (sheet_moved t.front.readable own w) i h

  all_closed : Closed (as_drawn w b) (in_use w + row_count_of b)
  all_closed = rw (t.front.counted, t.front.numbered) at (laid_closed (tabled_laid w b stored table t))

  unlisted_sheet : SomeUnlisted (drawn (source room w stored b)) (stored + length table) state ↔ SheetUnlisted b
  unlisted_sheet = (there, back)
    where
      there : SomeUnlisted (drawn (source room w stored b)) (stored + length table) state → SheetUnlisted b
      there m =
          let a = (some_sheet Unlisted).0 m in
          record { row = a.row; of_sheet = a.of_sheet; unlisted = (unlisted_same (tree a.row a.of_sheet)).1 a.holds }

      back : SheetUnlisted b → SomeUnlisted (drawn (source room w stored b)) (stored + length table) state
      back a =
          (some_sheet Unlisted).1
          (record { row = a.row; of_sheet = a.of_sheet; holds = (unlisted_same (tree a.row a.of_sheet)).0 a.unlisted })

  held_same : (i : ℕ) → i < row_count_of b → Unheld (sheet_graph b) i ↔ Unheld (as_drawn w b) (in_use w + i)
  held_same i h = unheld_same (sheet_closed t.front.readable own) h all_closed (omega arith) (tree i h)

  unheld_sheet : SomeUnheld (drawn (source room w stored b)) (stored + length table) state ↔ SheetUnheld b
  unheld_sheet = (there, back)
    where
      there : SomeUnheld (drawn (source room w stored b)) (stored + length table) state → SheetUnheld b
      there m =
          let a = (some_sheet Unheld).0 m in
          record { row = a.row; of_sheet = a.of_sheet; unheld = (held_same a.row a.of_sheet).1 a.holds }

      back : SheetUnheld b → SomeUnheld (drawn (source room w stored b)) (stored + length table) state
      back a = (some_sheet Unheld).1 (record { row = a.row; of_sheet = a.of_sheet; holds = (held_same a.row a.of_sheet).0 a.unheld })

  pub view_starting : (queue : List ℕ) → stored ≤ length queue → Starting (source room w stored b) table state queue 0
  view_starting queue l =
      starts_sheet (source room w stored b) table state queue (tabled_drawn w b stored table t) s l

  module _ (queue : List ℕ) (v : Result ℕ Misfit) (j : Judges (source room w stored b) table state queue v) where
    o : VerdictSays (drawn (source room w stored b)) (stored + length table) state v
    o = j.says

    pub view_unlisted : (f : Fault) (x : Misfit) → f ≡ fault 12 0 → v ≡ Err x → x ≡ NotListed → JudgedSays b (Err f)
    view_unlisted f x d e q = rw d (go (rw (e, q) at o))
      where
        go : VerdictSays (drawn (source room w stored b)) (stored + length table) state (Err NotListed) → JudgedSays b (Err (fault 12 0))
        go (says_unlisted a) = judged_refused (first_here (unlisted_sheet.0 a)) (λ q. omega arith) (sym (fault_12 b 0))

    pub view_unheld : (f : Fault) (x : Misfit) → f ≡ fault 13 0 → v ≡ Err x → x ≡ NotHeld → JudgedSays b (Err f)
    view_unheld f x d e q = rw d (go (rw (e, q) at o))
      where
        go : VerdictSays (drawn (source room w stored b)) (stored + length table) state (Err NotHeld) → JudgedSays b (Err (fault 13 0))
        go (says_unheld f a) =
            judged_refused
            (first_later (λ x. f (unlisted_sheet.1 x)) (first_here (unheld_sheet.0 a)))
            (λ q. omega arith)
            (sym (fault_13 b 0))

    pub view_fine : (filled : ℕ) → v ≡ Ok filled → JudgedSays b (Ok tt)
    view_fine filled e = go (rw e at o)
      where
        go : VerdictSays (drawn (source room w stored b)) (stored + length table) state (Ok filled) → JudgedSays b (Ok tt)
        go (says_fine f h) = judged_fine (λ x. f (unlisted_sheet.1 x), (λ x. h (unheld_sheet.1 x), tt))

-- ---- what each answer says: refused, the first number that applies and its byte; fine, that neither 12 nor 13 applies

module _ {b : List ℕ} where
  pub judged_first : {r : Result ⊤ Fault} → JudgedSays b r → (judged_number r ≡ 0 → ⊥) → First (verdicts b) (judged_number r)
  judged_first (judged_refused f z p) n = f
  judged_first (judged_fine m) n = absurd (n refl)

  pub judged_values_lem : {r : Result ⊤ Fault} → JudgedSays b r → (judged_number r ≡ 0 → ⊥) → judged_values r ≡ fault_at (judged_number r) b 0 ∷ []
  judged_values_lem (judged_refused f z p) n = rw p
  judged_values_lem (judged_fine m) n = absurd (n refl)

  pub judged_none : {r : Result ⊤ Fault} → JudgedSays b r → judged_number r ≡ 0 → NoneOf (verdicts b)
  judged_none (judged_refused f z p) e = absurd (z e)
  judged_none (judged_fine m) e = m
