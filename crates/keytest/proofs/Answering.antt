-- Whether bytes are a key, from what was seen of them.
use Prim.Native.Nat.{ℕ, ◌-◌, ◌<◌}
use native.Mathlib.Omega.{arith}
use mathlib.Core.Path.{◌≡◌, refl, sym, ap, ◌∙◌}
use mathlib.Core.List.{List, [], ◌∷◌}
use mathlib.Core.Bool.{Bool, true, false, not}
use mathlib.Core.Logic.{◌↔◌}
use lib.ListN.{length}
use Rattle.rules.specs.Answers.{Says, says_no}
use Rattle.rules.proofs.Answers.{says_same, says_unique}
use Rattle.rules.proofs.Tested.{passed_yes, passed_no}
use Rattle.rules.proofs.Refusals.{first_later, first_none, first_unique}
use Rattle.trees.specs.Graph.{Closed}
use Rattle.trees.specs.Agreement.{Minimal}
use Rattle.trees.proofs.Matching.{SaysSame}
use Rattle.sheet.specs.Format.{row_count_of, start, label_at, count_at, input_at}
use Rattle.sheet.specs.Points.{PointsNowhere}
use Rattle.sheet.specs.Refusals.{Readable}
use Rattle.sheet.proofs.Readable.{readable_right}
use Rattle.rows.specs.Joined.{Source, source, leads_to, row_place, drawn, joined}
use Rattle.rows.specs.View.{view_rows}
use Rattle.rows.proofs.Joined.{sheet_label, sheet_count, sheet_input}
use Rattle.rows.proofs.Leads.{leads_sheet}
use Rattle.rows.proofs.View.{laid_closed, viewed_closed}
use Rattle.classes.specs.Settled.{SortedOver}
use Rattle.walks.specs.Key.{walk_all}
use Rattle.keys.specs.Sheets.{sheet_graph, IsKey}
use Rattle.sheet.proofs.Within.{input_within, leads_names}
use Rattle.store.specs.Layout.{room}
use Rattle.classes.specs.Own.{OwnClasses}
use Rattle.classes.proofs.Owning.{own_distinct}
use Rattle.sheet.specs.Front.{sheet_list, FrontSays, front_refused, front_rows}
use Rattle.rows.specs.Tabled.{Fronted, Tabled}
use Rattle.sheet.specs.declared.fault.Fault.{Fault}
use Rattle.std.specs.Prelude.{Result, Ok, Err}
use Rattle.rows.proofs.Tabling.{tabled_laid}
use Rattle.wiring.specs.Placed.{Placed}
use Rattle.wiring.proofs.Views.{tabled_placed}
use Rattle.wires.specs.Wires.{Plain}
use Rattle.wires.proofs.Skipping.{plain_says}
use Rattle.keytest.proofs.Boxes.{drawn_plain, plain_viewed}
use Rattle.keytest.specs.Order.{InOrder}
use Rattle.keytest.specs.Asked.{SomeRows}
use Rattle.walks.proofs.Views.{same_walks, same_minimal}

-- ---- one answer

pub key_unique : {b : List ℕ} {r t : Bool} → Says (IsKey b) r → Says (IsKey b) t → r ≡ t
key_unique = says_unique

-- ---- refused, or without rows

module _ (b : List ℕ) (r : Result ℕ Fault) (s : FrontSays (sheet_list b) b 0 r) where
  pub key_refused : (f : Fault) → r ≡ Err f → Says (IsKey b) false
  key_refused f e = says_no (go (rw e at s))
    where
      go : FrontSays (sheet_list b) b 0 (Err f) → IsKey b → ⊥
      go (front_refused l z p) k =
          let n = readable_right b k.readable in
          z (first_unique l (first_later n.0 (first_later n.1.0 (first_later n.1.1.0 (first_later (leads_names b k.leads) (first_later k.leads first_none))))))

  module _ (rows : ℕ) (e : r ≡ Ok rows) where
    told : (rows ≡ row_count_of b) × Readable b × (PointsNowhere b 0 → ⊥)
    told = go (rw e at s)
      where
        go : FrontSays (sheet_list b) b 0 (Ok rows) → (rows ≡ row_count_of b) × Readable b × (PointsNowhere b 0 → ⊥)
        go (front_rows n x l c) = (n, x, l)

    pub key_none : rows ≡ 0 → Says (IsKey b) false
    key_none z = says_no (λ k. omega (arith, k.some, told.0))

    pub key_some : (rows ≡ 0 → ⊥) → SomeRows b rows
    key_some z = record { readable = told.1; numbered = told.0; some = omega (arith, told.0); leads = told.2 }

-- ---- beside an empty store

pub key_fronted : (b : List ℕ) (rows : ℕ) → SomeRows b rows → Fronted (0 ∷ []) b 0 rows
key_fronted b rows s =
    record {
      words = omega arith;
      shaped = record { fits = omega arith; rows = λ n h. absurd (omega arith) };
      counted = refl;
      readable = s.readable;
      numbered = s.numbered;
      leads = s.leads;
    }

-- ---- a wire

module _ (w b table : List ℕ) (t : Tabled w b 0 table) where
  pub key_placed : Placed b table
  key_placed = tabled_placed w b 0 table t

  module _ (r : Bool) (a : Says (Plain (sheet_graph b) (length table)) r) where
    pub key_wired : not r ≡ true → Says (IsKey b) false
    key_wired q = says_no (λ k. passed_no a q (rw t.front.numbered k.plain))

    pub key_plain : not r ≡ false → Plain (sheet_graph b) (length table)
    key_plain q = passed_yes a q

-- ---- the view of the sheet alone, and the sheet itself

module _ (w b table : List ℕ) (t : Tabled w b 0 table) (q : Plain (sheet_graph b) (length table)) where
  s : Source
  s = source room w 0 b

  rows : length table ≡ row_count_of b
  rows = t.front.numbered

  all : view_rows (source room w 0 b) table ≡ length table
  all = omega arith

  place : (u : ℕ) → row_place (source room w 0 b) u ≡ start b u
  place u = let z : u - 0 ≡ u = omega arith in rw z

  closed : Closed (joined s) (length table)
  unfolding s
  closed = rw all at (viewed_closed (plain_viewed w b table t q))

  -- nothing is skipped
  read : SaysSame (joined s) (drawn s) (length table)
  unfolding s joined
  read =
      rw all at
      (plain_says (drawn (source room w 0 b)) (laid_closed (tabled_laid w b 0 table t)) (drawn_plain w b table t q))

  count : (u : ℕ) → (drawn s).count u ≡ count_at b (start b u)
  unfolding s
  count u = sheet_count s u (omega arith) ∙ ap (count_at b) (place u)

  -- an input that points to a row is the number of that row
  input : (u j : ℕ) → u < length table → j < (drawn s).count u → (drawn s).input u j ≡ input_at b (start b u) j
  unfolding s
  input u j h l =
      let x = input_at b (start b u) j in
      let i = input_within b t.front.leads u j (omega (arith, rows)) (rw (count u) at l) in
      sheet_input s u (omega arith) j
      ∙ ap (λ at. leads_to 0 (input_at b at j)) (place u)
      ∙ omega (arith, leads_sheet 0 x (omega (arith, t.front.readable.few)))

  says : SaysSame (joined s) (sheet_graph b) (length table)
  unfolding s sheet_graph
  says =
      record {
        alike = λ u h. record {
          labels = (read.alike u h).labels ∙ sheet_label s u (omega arith) ∙ ap (label_at b) (place u);
          counts = (read.alike u h).counts ∙ count u;
        };
        inputs = λ u h j l. read.inputs u h j l ∙ input u j h (rw (read.alike u h).counts at l);
      }

  module _ (some : 0 < row_count_of b) where
    walks : walk_all (joined s) (length table) 0 ≡ walk_all (sheet_graph b) (length table) 0
    walks = same_walks closed says 0 (omega (arith, rows))

    key_all : Minimal (joined s) (length table) → InOrder (joined s) (length table) → IsKey b
    key_all m o =
        record {
          readable = t.front.readable;
          some = some;
          leads = t.front.leads;
          plain = rw (← rows) q;
          distinct = rw (← rows) ((same_minimal closed says).0 m);
          ordered = rw (← rows) (sym walks ∙ o.ordered);
        }

    key_distinct : IsKey b → Minimal (joined s) (length table)
    key_distinct k = (same_minimal closed says).1 (rw rows k.distinct)

    key_ordered : IsKey b → InOrder (joined s) (length table)
    key_ordered k = record { ordered = walks ∙ rw rows k.ordered }

    module _ (old cls : List ℕ) (o : SortedOver (source room w 0 b) table old cls) (a : Bool) (p : Says (OwnClasses (length table) cls) a) where
      own : OwnClasses (length table) cls ↔ Minimal (joined s) (length table)
      unfolding s
      own = own_distinct (rw all at o.sorted)

      pub key_twice : not a ≡ true → Says (IsKey b) false
      key_twice q = says_no (λ k. passed_no p q (own.1 (key_distinct k)))

      pub key_says : not a ≡ false → (r : Bool) → Says (InOrder (joined (source room w 0 b)) (length table)) r → Says (IsKey b) r
      unfolding s
      key_says q r d = says_same (key_all (own.0 (passed_yes p q)), key_ordered) d
