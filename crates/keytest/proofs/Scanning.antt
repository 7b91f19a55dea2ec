-- The scan of a sheet's rows keeps step with the walk from row 0: as long as every first sight is the next number, the rows met are the first ones.
use Prim.Native.Nat.{ℕ, ◌+◌, ◌≤◌, ◌<◌}
use native.Mathlib.Omega.{arith}
use native.Mathlib.Numerals.{add-one}
use native.Mathlib.Decide.{le_ind}
use mathlib.Core.Path.{◌≡◌, sym, ap, ◌∙◌}
use mathlib.Core.List.{List, [], ◌∷◌, ◌++◌}
use mathlib.Core.Bool.{false}
use lib.ListN.{length, get_or, take}
use lib.Seq.{length-take-le, get_or-take}
use lib.Dec.{eqb}
use Rattle.rules.specs.Answers.{Says, says_no}
use Rattle.rules.specs.Lists.{firsts, widest}
use Rattle.rules.proofs.Answers.{says_same}
use Rattle.rules.proofs.Tested.{says_equal}
use Rattle.rules.proofs.Lists.{firsts_length, firsts_at, room_length}
use Rattle.trees.specs.Graph.{Graph}
use Rattle.store.specs.declared.row.Row.{Row}
use Rattle.rows.specs.Joined.{Source, source, joined, row_in}
use Rattle.rows.specs.View.{Viewed, view_rows}
use Rattle.rows.proofs.Rows.{in_count, in_input}
use Rattle.rows.proofs.View.{viewed_counts}
use Rattle.walks.specs.Walk.{meet, meet_inputs, visit, walk}
use Rattle.walks.specs.Key.{walk_all}
use Rattle.walks.specs.Member.{Member}
use Rattle.walks.proofs.Members.{Grown, grown_refl, grown_trans, met_grown, has_yes, has_no, meet_in, meet_new, more_length, more_last}
use Rattle.walks.proofs.Steps.{inputs_none, inputs_step, inputs_met, visit_hit, walk_none, walk_step, walk_grown, walk_still}
use Rattle.store.specs.Layout.{room}
use Rattle.keys.specs.Sheets.{itself}
use Rattle.keytest.specs.Order.{Sight, sight_known, sight_next, sight_later, RowSays, row_rows, row_broken, InOrder}
use Rattle.std.specs.Prelude.{Option, Some, None}

-- ---- the first rows

pub firsts_member : {n x : ℕ} → x < n → Member (firsts itself n) x
firsts_member {n} {x} h = record { at = x; within = omega (arith, firsts_length itself n); here = firsts_at itself n x h }

pub firsts_below : {n x : ℕ} → Member (firsts itself n) x → x < n
firsts_below {n} {x} m =
    let h : m.at < n = omega (arith, firsts_length itself n, m.within) in
    omega (arith, sym (firsts_at itself n m.at h) ∙ m.here)

pub firsts_long : {n m : ℕ} → firsts itself n ≡ firsts itself m → n ≡ m
firsts_long {n} {m} e = sym (firsts_length itself n) ∙ ap length e ∙ firsts_length itself m

-- ---- a row met

module _ (met x : ℕ) where
  pub meet_known : x < met → meet (firsts itself met) x ≡ firsts itself met
  meet_known h = meet_in (firsts itself met) x (has_yes (firsts_member h))

  late : met ≤ x → meet (firsts itself met) x ≡ firsts itself met ++ (x ∷ [])
  late h = meet_new (firsts itself met) x (has_no (λ m. let q = firsts_below m in omega arith))

  pub meet_next : x ≡ met → meet (firsts itself met) x ≡ firsts itself (met + 1)
  unfolding firsts
  meet_next e = late (omega arith) ∙ rw (add-one, e)

  -- a later row goes to the next place
  pub meet_later : met < x → get_or (meet (firsts itself met) x) met 0 ≡ x
  meet_later h = rw (late (omega arith)) (rw (firsts_length itself met) at (more_last (firsts itself met) x))

  pub meet_longer : met < x → met < length (meet (firsts itself met) x)
  meet_longer h = rw (late (omega arith)) (omega (arith, more_length (firsts itself met) x, firsts_length itself met))

-- ---- inside a row: j inputs of row k met, of which the list has all

pub record Scanned (g : Graph) (k seen : ℕ) (inputs : List ℕ) (j met : ℕ) : Type 0 where
  pub counted : length inputs ≡ g.count k
  pub each : (i : ℕ) → i < length inputs → get_or inputs i 0 ≡ g.input k i
  pub some : j ≤ length inputs
  pub so_far : meet_inputs g k (firsts itself seen) j ≡ firsts itself met

in_long : (g : Graph) (u : ℕ) → g.count u ≤ widest → length (row_in g u).inputs ≡ widest
unfolding row_in
in_long g u few = room_length widest (g.input u) (g.count u) few

module _ (s : Source) (table : List ℕ) (k : ℕ) (row : Row) (v : Viewed s table) (h : k < view_rows s table) (e : row ≡ row_in (joined s) k) where
  few : (joined s).count k ≤ widest
  few = viewed_counts v k h

  counted : row.count ≡ (joined s).count k
  counted = ap (λ r. r.count) e ∙ in_count (joined s) k

  taken : length (take row.count row.inputs) ≡ row.count
  taken = length-take-le row.count row.inputs (omega (arith, counted, few, ap (λ r. length r.inputs) e, in_long (joined s) k few))

  begin : (seen : ℕ) → Scanned (joined s) k seen (take row.count row.inputs) 0 seen
  begin seen =
      record {
        counted = taken ∙ counted;
        each = λ i l.
            get_or-take row.count row.inputs i 0 (omega (arith, taken))
            ∙ ap (λ r. get_or r.inputs i 0) e
            ∙ in_input (joined s) k few i (omega (arith, taken, counted));
        some = omega arith;
        so_far = inputs_none (joined s) k (firsts itself seen);
      }

module _ (s : Source) (table : List ℕ) (k : ℕ) (row : Row) (v : Viewed s table) (h : k < view_rows s table) (e : row ≡ row_in (joined s) k) where
  pub scan_few : row.count ≤ widest
  scan_few = omega (arith, counted s table k row v h e, few s table k row v h e)

  pub scan_none : (seen : ℕ) → Scanned (joined s) k seen (take row.count row.inputs) 0 seen
  scan_none = begin s table k row v h e

module _ (g : Graph) (k seen : ℕ) (inputs : List ℕ) (j met : ℕ) (s : Scanned g k seen inputs j met) where
  module _ (l : j < length inputs) (r : Option ℕ) (t : Sight met (get_or inputs j 0) r) where
    step : meet_inputs g k (firsts itself seen) (j + 1) ≡ meet (firsts itself met) (get_or inputs j 0)
    step = inputs_step g k (firsts itself seen) j ∙ rw (s.so_far, s.each j l)

    grown : {more : ℕ} → Sight met (get_or inputs j 0) (Some more) → meet (firsts itself met) (get_or inputs j 0) ≡ firsts itself more
    grown (sight_known h) = meet_known met (get_or inputs j 0) h
    grown (sight_next e) = meet_next met (get_or inputs j 0) e

    late_row : Sight met (get_or inputs j 0) None → RowSays g k seen None
    late_row (sight_later h) = row_broken {j = j} (omega (arith, s.counted)) s.so_far (rw (s.each j l) at h)

    pub scan_more_lem : (more : ℕ) → r ≡ Some more → Scanned g k seen inputs (j + 1) more
    scan_more_lem more q =
        record { counted = s.counted; each = s.each; some = omega arith; so_far = step ∙ grown (rw q at t) }

    pub scan_broken : r ≡ None → RowSays g k seen None
    scan_broken q = late_row (rw q at t)

  pub scan_all : length inputs ≤ j → RowSays g k seen (Some met)
  scan_all h = let i : j ≡ g.count k = omega (arith, s.some, s.counted) in row_rows (rw i at s.so_far)

-- ---- rows in order

module _ {g : Graph} {n : ℕ} (o : InOrder g n) where
  order_long : length (walk_all g n 0) ≡ n
  order_long = ap length o.ordered ∙ firsts_length itself n

  order_at : (i : ℕ) → i < n → get_or (walk_all g n 0) i 0 ≡ i
  order_at i h = rw o.ordered (firsts_at itself n i h)

-- ---- row after row: k rows looked at

pub record Walked (g : Graph) (k seen : ℕ) : Type 0 where
  pub so_far : walk g (0 ∷ []) k ≡ firsts itself seen

-- more of a row's inputs met keep the places
inputs_on : (g : Graph) (u : ℕ) (l : List ℕ) (j n : ℕ) → j ≤ n → Grown (meet_inputs g u l j) (meet_inputs g u l n)
inputs_on g u l j =
    le_ind (λ n. Grown (meet_inputs g u l j) (meet_inputs g u l n)) (grown_refl (meet_inputs g u l j))
    (λ n h r. grown_trans r (met_grown (inputs_met g u l n)))

pub walked_none : (g : Graph) → Walked g 0 1
unfolding firsts
walked_none g = record { so_far = walk_none g (0 ∷ []) }

module _ (g : Graph) (k seen : ℕ) (w : Walked g k seen) where
  long : length (walk g (0 ∷ []) k) ≡ seen
  long = ap length w.so_far ∙ firsts_length itself seen

  -- row k is the row at place k
  visited : k < seen → walk g (0 ∷ []) (k + 1) ≡ meet_inputs g k (firsts itself seen) (g.count k)
  visited h =
      walk_step g (0 ∷ []) k
      ∙ ap (visit g k) w.so_far
      ∙ visit_hit g k (firsts itself seen) (omega (arith, firsts_length itself seen))
      ∙ rw (firsts_at itself seen k h)

  -- every place has been visited, and rows are left
  pub walked_few : (n : ℕ) → seen ≤ k → k < n → Says (InOrder g n) false
  walked_few n h l =
      says_no (λ o. let e = firsts_long (sym w.so_far ∙ sym (walk_still g (0 ∷ []) k n (omega (arith, long)) (omega arith)) ∙ o.ordered) in omega arith)

  module _ (h : k < seen) where
    on : {met : ℕ} → RowSays g k seen (Some met) → Walked g (k + 1) met
    on (row_rows e) = record { so_far = visited h ∙ e }

    astray : (n : ℕ) → k < n → RowSays g k seen None → InOrder g n → ⊥
    astray n l (row_broken {j} {met} c e later) o =
        let x = g.input k j in
        let f = firsts itself seen in
        let p : meet_inputs g k f (j + 1) ≡ meet (firsts itself met) x = rw (← e) (inputs_step g k f j) in
        let a = rw (p, ← (visited h)) at (inputs_on g k f (j + 1) (g.count k) (omega arith)) in
        let b = grown_trans a (walk_grown g (0 ∷ []) (k + 1) n (omega arith)) in
        let i = meet_longer met x later in
        let z : get_or (walk_all g n 0) met 0 ≡ x = b.kept met i ∙ meet_later met x later in
        let y : met < n = omega (arith, b.longer, order_long o) in
        omega (arith, z, order_at o met y)

    module _ (r : Option ℕ) (s : RowSays g k seen r) where
      pub walked_more : (met : ℕ) → r ≡ Some met → Walked g (k + 1) met
      walked_more met q = on (rw q at s)

      pub walked_broken : (n : ℕ) → k < n → r ≡ None → Says (InOrder g n) false
      walked_broken n l q = says_no (astray n l (rw q at s))

  pub walked_all : (n : ℕ) → n ≤ k → k ≤ n → Says (InOrder g n) (eqb seen n)
  walked_all n p q = says_same (there, back) (says_equal seen n)
    where
      i : k ≡ n
      i = omega arith

      there : seen ≡ n → InOrder g n
      there e = record { ordered = rw (i, e) at w.so_far }

      back : InOrder g n → seen ≡ n
      back o = firsts_long (rw i at (sym w.so_far) ∙ o.ordered)
