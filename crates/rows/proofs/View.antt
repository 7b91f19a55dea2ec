-- What holds of a view: it is closed, its rows are few and have few inputs, and the store's rows in it have the store's trees.
use Prim.Native.Nat.{ℕ, ◌-◌, ◌/◌, ◌+◌, ◌≤◌, ◌<◌}
use native.Mathlib.Omega.{arith}
use native.Mathlib.Decide.{dec_lt}
use native.Mathlib.Nat.{min-le_left}
use mathlib.Core.Path.{◌≡◌, refl, sym, ap, ◌∙◌}
use mathlib.Core.Bool.{Bool, false}
use mathlib.Core.List.{List}
use lib.ListN.{length}
use Rattle.rules.specs.Lists.{widest}
use Rattle.trees.specs.Graph.{Closed}
use Rattle.trees.specs.Agreement.{Alike, SameTree}
use Rattle.trees.proofs.Matching.{SaysSame, views_same}
use Rattle.store.specs.Layout.{capacity_of, label_of, count_of, input_of, store_graph}
use Rattle.wires.specs.Wires.{is_wire, Wire, most_wires, through, Plain}
use Rattle.wires.proofs.Following.{Told, told_wire, told_plain, told, follow_low, through_plain}
use Rattle.wires.proofs.Skipping.{skipping_label, skipping_count, plain_alike, plain_input, skipping_closed, through_same, wire_tree}
use Rattle.rows.specs.Joined.{Source, drawn, joined}
use Rattle.rows.specs.View.{Laid, Viewed, view_rows}
use Rattle.rows.proofs.Leads.{leads_row}
use Rattle.rows.proofs.Joined.{store_label, store_count, store_input, sheet_count, sheet_input}

-- ---- rows as they are drawn

module _ {s : Source} {rows : ℕ} (v : Laid s rows) where
  pub laid_stored : s.stored ≤ 1024
  unfolding capacity_of
  laid_stored = omega (arith, v.room, min-le_left 1024 ((length s.words - 1) / (s.most + 2)))

  pub laid_counts : (u : ℕ) → u < s.stored + rows → (drawn s).count u ≤ widest
  laid_counts u h = go (dec_lt u s.stored)
    where
      go : Dec (u < s.stored) → (drawn s).count u ≤ widest
      go (yes q) = omega (arith, store_count s u q, (v.shaped u q).few, v.limit)
      go (no q) = omega (arith, sheet_count s u (omega arith), v.within (u - s.stored) (omega arith))

  pub laid_alone : Closed (drawn s) s.stored
  laid_alone =
      record { within = λ u j l c. omega (arith, store_input s u l j, (v.shaped u l).used j (rw (store_count s u l) at c)) }

  pub laid_closed : Closed (drawn s) (s.stored + rows)
  laid_closed = record { within = λ u j l c. go u j l c (dec_lt u s.stored) }
    where
      go : (u j : ℕ) → u < s.stored + rows → j < (drawn s).count u → Dec (u < s.stored) → (drawn s).input u j < s.stored + rows
      go u j l c (yes q) = omega (arith, laid_alone.within u j q c)
      go u j l c (no q) =
          let h : s.stored ≤ u = omega arith in
          let p = v.points (u - s.stored) j (omega arith) (rw (sheet_count s u h) at c) in
          rw (sheet_input s u h j) (leads_row s.stored _ rows p)

  -- no row of the store is a wire
  pub laid_plain : Plain (drawn s) s.stored
  laid_plain =
      record { plain = λ u h w. let z : ◌≡◌ {A = ℕ} 0 1 = cc (w.is, ap is_wire (store_label s u h), (v.shaped u h).plain) in omega arith }

-- ---- rows as trees are read

module _ {s : Source} {table : List ℕ} (v : Viewed s table) where
  pub viewed_stored : s.stored ≤ 1024
  viewed_stored = laid_stored v.laid

  pub viewed_few : view_rows s table ≤ 2048
  viewed_few = omega (arith, v.laid.few, viewed_stored)

  -- where the wires of a row lead to is a row
  pub viewed_end : (u : ℕ) → u < view_rows s table → through (drawn s) u < view_rows s table
  viewed_end u h = follow_low (drawn s) (laid_closed v.laid) v.wires most_wires u h

  pub viewed_counts : (u : ℕ) → u < view_rows s table → (joined s).count u ≤ widest
  unfolding joined
  viewed_counts u h = rw (skipping_count (drawn s) u) (laid_counts v.laid (through (drawn s) u) (viewed_end u h))

  -- ---- the store's rows are no wires, and lead to the store's rows only

  module _ (u : ℕ) (h : u < s.stored) where
    alone : Alike (joined s) u (drawn s) u
    unfolding joined
    alone = plain_alike (drawn s) u ((laid_plain v.laid).plain u h)

    pub viewed_label : (joined s).label u ≡ label_of s.most s.words u
    viewed_label = alone.labels ∙ store_label s u h

    pub viewed_count : (joined s).count u ≡ count_of s.most s.words u
    viewed_count = alone.counts ∙ store_count s u h

    pub viewed_input : (j : ℕ) → (joined s).input u j ≡ input_of s.most s.words u j
    unfolding joined
    viewed_input j = plain_input (drawn s) u ((laid_plain v.laid).plain u h) j ∙ store_input s u h j

  pub store_alone : Closed (joined s) s.stored
  store_alone =
      record { within = λ u j l c. omega (arith, viewed_input u l j, (v.laid.shaped u l).used j (rw (viewed_count u l) at c)) }

  pub store_same : (u : ℕ) → u < s.stored → SameTree (joined s) u (store_graph s.most s.words) u
  unfolding store_graph
  store_same = views_same store_alone says
    where
      says : SaysSame (joined s) (store_graph s.most s.words) s.stored
      says =
          record {
            alike = λ u l. record { labels = viewed_label u l; counts = viewed_count u l };
            inputs = λ u l j c. viewed_input u l j;
          }

  -- ---- every row leads to rows of the view

  pub viewed_closed : Closed (joined s) (view_rows s table)
  unfolding joined
  viewed_closed = skipping_closed (drawn s) (laid_closed v.laid) v.wires

  -- ---- a wire has the tree of what it leads to

  pub viewed_wire : (u : ℕ) → u < view_rows s table → Wire (drawn s) u → SameTree (joined s) u (joined s) ((drawn s).input u 0)
  unfolding joined
  viewed_wire u h w = wire_tree (drawn s) u (v.ended u h) w

  -- and no row is read as a wire
  pub viewed_plain : (u : ℕ) → u < view_rows s table → is_wire ((joined s).label u) ≡ false
  unfolding joined
  viewed_plain u h = rw (skipping_label (drawn s) u) (go (told (drawn s) (through (drawn s) u)))
    where
      go : {t : Bool} → Told (drawn s) (through (drawn s) u) t → t ≡ false
      go (told_wire w) = absurd (v.ended u h w)
      go (told_plain p) = refl

  -- a row has the tree of the row where its wires lead to
  pub viewed_end_same : (u : ℕ) → u < view_rows s table → SameTree (joined s) u (joined s) (through (drawn s) u)
  unfolding joined
  viewed_end_same u h = through_same (drawn s) u (through (drawn s) u) (sym (through_plain (drawn s) (through (drawn s) u) (v.ended u h)))
