-- The converted sheet: its rows and their places, that they have the trees they had, that it can be read, and how long it is.
use Prim.Native.Nat.{ℕ, ◌+◌, ◌-◌, ◌≤◌, ◌<◌}
use native.Mathlib.Omega.{arith}
use native.Mathlib.Decide.{dec_lt}
use mathlib.Core.Path.{◌≡◌, sym, ap, ◌∙◌}
use mathlib.Core.List.{List, ◌++◌}
use lib.ListN.{length, get_or, length-append, get_or-append}
use lib.Seq.{get_or-append-add}
use Rattle.rules.specs.Lists.{firsts, widest}
use Rattle.rules.proofs.Lists.{firsts_length, firsts_at}
use Rattle.trees.specs.Graph.{Graph, Closed}
use Rattle.trees.specs.Agreement.{SameTree}
use Rattle.trees.proofs.Agreement.{same_trans}
use Rattle.trees.proofs.Matching.{views_same}
use Rattle.trees.proofs.Paths.{leads_input, leads_last}
use Rattle.walks.specs.Key.{place_of, keyed}
use Rattle.walks.specs.Member.{Member}
use Rattle.walks.proofs.Members.{Once, member_at, each_member}
use Rattle.walks.proofs.Places.{place_at, place_here, place_within}
use Rattle.walks.proofs.Reached.{Finished}
use Rattle.walks.proofs.Keyed.{keyed_count, keyed_tree, keyed_closed}
use Rattle.sheet.specs.Format.{row_count_of, start}
use Rattle.sheet.specs.Points.{PointsNowhere}
use Rattle.sheet.specs.Refusals.{Readable}
use Rattle.keys.specs.Bytes.{rows_bytes}
use Rattle.keys.specs.Sheets.{sheet_graph}
use Rattle.keys.proofs.Rows.{ReadsRow}
use Rattle.keys.proofs.Readback.{Writable, written_length, written_count, written_row, written_says, written_readable, written_leads}
use Rattle.converts.specs.Rising.{Rising}
use Rattle.converts.specs.Result.{FromSheet, behind, rising_inputs, converted}
use Rattle.converts.proofs.Rising.{rising_each, rising_member, rising_once}

-- ---- members of two lists one after the other

member_left : {a : List ℕ} (b : List ℕ) {x : ℕ} → Member a x → Member (a ++ b) x
member_left {a} b m = record { at = m.at; within = omega (arith, length-append a b, m.within); here = get_or-append a b 0 m.at m.within ∙ m.here }

member_right : (a : List ℕ) {b : List ℕ} {x : ℕ} → Member b x → Member (a ++ b) x
member_right a {b} m = record { at = length a + m.at; within = omega (arith, length-append a b, m.within); here = get_or-append-add a b m.at 0 ∙ m.here }

data Split (a b : List ℕ) (x : ℕ) : Type 0 where
  of_left : Member a x → Split a b x
  of_right : Member b x → Split a b x

split : (a b : List ℕ) {x : ℕ} → Member (a ++ b) x → Split a b x
split a b {x} m = go (dec_lt m.at (length a))
  where
    go : Dec (m.at < length a) → Split a b x
    go (yes h) = of_left (record { at = m.at; within = h; here = sym (get_or-append a b 0 m.at h) ∙ m.here })
    go (no h) =
        let e : length a + (m.at - length a) ≡ m.at = omega arith in
        of_right (record {
          at = m.at - length a;
          within = omega (arith, length-append a b, m.within);
          here = sym (get_or-append-add a b (m.at - length a) 0) ∙ ap (λ k. get_or (a ++ b) k 0) e ∙ m.here;
        })

-- lists without doubles, of which no member is one of the other
pub joined_once : {a b : List ℕ} → Once a → Once b → ((x : ℕ) → Member a x → Member b x → ⊥) → Once (a ++ b)
joined_once {a} {b} o p apart = record { one = λ i k hi hk e. go i k hi hk e (dec_lt i (length a)) (dec_lt k (length a)) }
  where
    left : (i : ℕ) → i < length a → get_or (a ++ b) i 0 ≡ get_or a i 0
    left i h = get_or-append a b 0 i h

    right : (i : ℕ) → (i < length a → ⊥) → get_or (a ++ b) i 0 ≡ get_or b (i - length a) 0
    right i h = let e : length a + (i - length a) ≡ i = omega arith in ap (λ k. get_or (a ++ b) k 0) (sym e) ∙ get_or-append-add a b (i - length a) 0

    low : (i : ℕ) → i < length (a ++ b) → (i < length a → ⊥) → i - length a < length b
    low i h q = omega (arith, length-append a b)

    go : (i k : ℕ) → i < length (a ++ b) → k < length (a ++ b) → get_or (a ++ b) i 0 ≡ get_or (a ++ b) k 0 → Dec (i < length a) → Dec (k < length a) → i ≡ k
    go i k hi hk e (yes x) (yes y) = o.one i k x y (sym (left i x) ∙ e ∙ left k y)
    go i k hi hk e (yes x) (no y) =
        absurd (apart (get_or a i 0) (member_at a i x) (record { at = k - length a; within = low k hk y; here = sym (right k y) ∙ sym e ∙ left i x }))
    go i k hi hk e (no x) (yes y) =
        absurd (apart (get_or a k 0) (member_at a k y) (record { at = i - length a; within = low i hi x; here = sym (right i x) ∙ e ∙ left k y }))
    go i k hi hk e (no x) (no y) =
        let z = p.one (i - length a) (k - length a) (low i hi x) (low k hk y) (sym (right i x) ∙ e ∙ right k y) in omega arith

-- ---- the rows of the result in their order, whatever the graph

module _ (stored rows : ℕ) (l : List ℕ) where
  pub order_length : length (rising_inputs stored rows l) ≡ rows + length l
  order_length = length-append (firsts (behind stored) rows) l ∙ ap (λ n. n + length l) (firsts_length (behind stored) rows)

  -- first the sheet's
  pub order_sheet : (i : ℕ) → i < rows → get_or (rising_inputs stored rows l) i 0 ≡ stored + i
  order_sheet i h =
      get_or-append (firsts (behind stored) rows) l 0 i (rw (firsts_length (behind stored) rows) h) ∙ firsts_at (behind stored) rows i h

  -- then those of the list
  pub order_appended : (k : ℕ) → get_or (rising_inputs stored rows l) (rows + k) 0 ≡ get_or l k 0
  order_appended k =
      let n = firsts_length (behind stored) rows in
      rw n at (get_or-append-add (firsts (behind stored) rows) l k 0)

sheet_low : (stored rows x : ℕ) → Member (firsts (behind stored) rows) x → stored ≤ x
sheet_low stored rows x m =
    let w = rw (firsts_length (behind stored) rows) at m.within in
    omega (arith, firsts_at (behind stored) rows m.at w, m.here)

sheet_once : (stored rows : ℕ) → Once (firsts (behind stored) rows)
sheet_once stored rows =
    record {
      one = λ i k hi hk e.
          let n = firsts_length (behind stored) rows in
          let a = firsts_at (behind stored) rows i (rw n at hi) in
          let b = firsts_at (behind stored) rows k (rw n at hk) in
          omega arith;
    }

-- each row of a rising list of store rows stands once, at its place
module _ {P : ℕ → Type 0} {stored : ℕ} (rows : ℕ) {l : List ℕ} (r : Rising P stored l) where
  pub order_once : Once (rising_inputs stored rows l)
  order_once =
      joined_once (sheet_once stored rows) (rising_once r)
      (λ x m q. omega (arith, sheet_low stored rows x m, (each_member (rising_each r) q).below))

  pub place_sheet : (i : ℕ) → i < rows → place_of (rising_inputs stored rows l) (stored + i) ≡ i
  place_sheet i h =
      rw (order_sheet stored rows l i h) at (place_at order_once i (omega (arith, order_length stored rows l)))

  pub place_appended : (k : ℕ) → k < length l → place_of (rising_inputs stored rows l) (get_or l k 0) ≡ rows + k
  place_appended k h =
      rw (order_appended stored rows l k) at (place_at order_once (rows + k) (omega (arith, order_length stored rows l)))

  pub place_stored : (n : ℕ) → Member l n → place_of (rising_inputs stored rows l) n ≡ rows + place_of l n
  place_stored n m = rw (place_here m) at (place_appended (place_of l n) (place_within m))

  -- a row of the result is one of the store or of the sheet
  pub order_low : (k : ℕ) → k < length (rising_inputs stored rows l) → get_or (rising_inputs stored rows l) k 0 < stored + rows
  order_low k h = go (dec_lt k rows)
    where
      go : Dec (k < rows) → get_or (rising_inputs stored rows l) k 0 < stored + rows
      go (yes q) = omega (arith, order_sheet stored rows l k q)
      go (no q) =
          let e : rows + (k - rows) ≡ k = omega arith in
          let c = (rising_each r).each (k - rows) (omega (arith, order_length stored rows l)) in
          let a = rw e at (order_appended stored rows l (k - rows)) in
          omega (arith, c.below)

-- ---- the rows of the result

module _ {g : Graph} {stored rows : ℕ} {l : List ℕ} (whole : Closed g (stored + rows)) (alone : Closed g stored) (r : Rising (FromSheet g stored rows) stored l) where
  sheet_member : (i : ℕ) → i < rows → Member (firsts (behind stored) rows) (stored + i)
  sheet_member i h = record { at = i; within = rw (firsts_length (behind stored) rows) h; here = firsts_at (behind stored) rows i h }

  -- a row that a row of the sheet leads to is one of the result
  led : (x i : ℕ) → i < rows → x < stored + rows → FromSheet g stored rows x → Member (rising_inputs stored rows l) x
  led x i h b f = go (dec_lt x stored)
    where
      go : Dec (x < stored) → Member (rising_inputs stored rows l) x
      go (yes k) = member_right (firsts (behind stored) rows) (rising_member r x k f)
      go (no k) = let e : stored + (x - stored) ≡ x = omega arith in member_left l (rw e at (sheet_member (x - stored) (omega arith)))

  pub order_finished : Finished g (rising_inputs stored rows l)
  order_finished = record { inputs = λ x j m q. go x j q (split (firsts (behind stored) rows) l m) }
    where
      go : (x j : ℕ) → j < g.count x → Split (firsts (behind stored) rows) l x → Member (rising_inputs stored rows l) (g.input x j)
      go x j q (of_left m) =
          let w = rw (firsts_length (behind stored) rows) at m.within in
          let e : stored + m.at ≡ x = sym (firsts_at (behind stored) rows m.at w) ∙ m.here in
          led (g.input x j) m.at w (whole.within x j (omega arith) q)
          (record { row = m.at; of_sheet = w; leads = rw (sym e) (leads_input g (stored + m.at) j (rw e q)) })
      go x j q (of_right m) =
          let c = each_member (rising_each r) m in
          let f = c.holds in
          let b = alone.within x j c.below q in
          led (g.input x j) f.row f.of_sheet (omega arith) (record { row = f.row; of_sheet = f.of_sheet; leads = leads_last f.leads j q })

  -- each row of the result has the tree of the row that it stands for
  pub order_tree : (k : ℕ) → k < length (rising_inputs stored rows l) → SameTree g (get_or (rising_inputs stored rows l) k 0) (sheet_graph (converted g stored rows l)) k
  unfolding converted
  order_tree k h =
      same_trans (keyed_tree order_finished k h)
      (views_same (keyed_closed order_finished) (written_says (keyed g (rising_inputs stored rows l)) (length (rising_inputs stored rows l))) k h)

  -- each row of the sheet stands at its place, with the tree it had
  pub converted_tree : (i : ℕ) → i < rows → SameTree g (stored + i) (sheet_graph (converted g stored rows l)) i
  converted_tree i h =
      rw (order_sheet stored rows l i h) at (order_tree i (omega (arith, order_length stored rows l)))

  -- and behind them each row of the store that is appended
  pub appended_tree : (k : ℕ) → k < length l → SameTree g (get_or l k 0) (sheet_graph (converted g stored rows l)) (rows + k)
  appended_tree k h =
      rw (order_appended stored rows l k) at (order_tree (rows + k) (omega (arith, order_length stored rows l)))

  -- rows within a sheet's limits can be read, and their inputs are all rows of the sheet
  module _ (few : rows + length l ≤ 1024) (counts : (u : ℕ) → u < stored + rows → g.count u ≤ widest) where
    pub result_writable : Writable (keyed g (rising_inputs stored rows l)) (length (rising_inputs stored rows l))
    result_writable =
        record {
          rows = omega (arith, order_length stored rows l);
          counts = λ k h. rw (keyed_count g (rising_inputs stored rows l) k) (counts (get_or (rising_inputs stored rows l) k 0) (order_low rows r k h));
          inputs = λ k j h. (keyed_closed order_finished).within k j h;
        }

    pub converted_readable : Readable (converted g stored rows l)
    unfolding converted
    converted_readable = written_readable result_writable

    pub converted_leads : PointsNowhere (converted g stored rows l) 0 → ⊥
    unfolding converted
    converted_leads = written_leads result_writable

-- ---- what is written, whatever the graph

module _ (g : Graph) (stored rows : ℕ) (l : List ℕ) where
  pub converted_rows : row_count_of (converted g stored rows l) ≡ rows + length l
  unfolding converted
  converted_rows = written_count (keyed g (rising_inputs stored rows l)) (length (rising_inputs stored rows l)) ∙ order_length stored rows l

  pub converted_row : (k : ℕ) → k < rows + length l → ReadsRow (converted g stored rows l) (start (converted g stored rows l) k) (keyed g (rising_inputs stored rows l)) k
  unfolding converted
  converted_row k h =
      written_row (keyed g (rising_inputs stored rows l)) (length (rising_inputs stored rows l)) k (omega (arith, order_length stored rows l))

  pub converted_length : length (converted g stored rows l) ≡ 7 + length (rows_bytes (keyed g (rising_inputs stored rows l)) (rows + length l))
  unfolding converted
  converted_length =
      written_length (keyed g (rising_inputs stored rows l)) (length (rising_inputs stored rows l))
      ∙ ap (λ n. 7 + length (rows_bytes (keyed g (rising_inputs stored rows l)) n)) (order_length stored rows l)
