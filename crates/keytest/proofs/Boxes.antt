-- A sheet without wires: told from its rows, and read as it stands.
use Prim.Native.Nat.{ℕ, ◌+◌, ◌-◌, ◌≤◌, ◌<◌}
use native.Mathlib.Omega.{arith}
use mathlib.Core.Path.{◌≡◌, ap, ◌∙◌}
use mathlib.Core.Bool.{Bool, true, false}
use mathlib.Core.List.{List}
use lib.ListN.{length}
use borrow.Author.Count.{below_more}
use Rattle.rules.specs.Answers.{Says, says_yes, says_no}
use Rattle.rules.proofs.Answers.{said_yes, said_no}
use Rattle.sheet.specs.Format.{start, label_at, store_numbers}
use Rattle.store.specs.Layout.{room}
use Rattle.wires.specs.Wires.{Wire, Plain}
use Rattle.rows.specs.Named.{named}
use Rattle.rows.specs.Joined.{source, drawn}
use Rattle.rows.specs.View.{Viewed, view_rows}
use Rattle.rows.specs.Tabled.{Tabled}
use Rattle.rows.proofs.Joined.{sheet_label}
use Rattle.rows.proofs.Naming.{named_label}
use Rattle.rows.proofs.Tabling.{tabled_drawn, tabled_fits}
use Rattle.rows.proofs.Views.{view_plain}
use Rattle.wiring.specs.Placed.{Placed}
use Rattle.wiring.proofs.Placing.{placed_few}
use Rattle.keys.specs.Sheets.{sheet_graph}

-- a wire by the sheet's own numbers is a wire of the sheet
module _ (b : List ℕ) (x : ℕ) (h : x < store_numbers) where
  pub named_sheet : Wire (named b) x → Wire (sheet_graph b) x
  unfolding sheet_graph
  named_sheet w = record { is = rw (named_label b x h) at w.is }

  pub sheet_named : Wire (sheet_graph b) x → Wire (named b) x
  unfolding sheet_graph
  sheet_named w = record { is = rw (named_label b x h) w.is }

-- ---- none of the first i rows is a wire

pub record PlainTo (b table : List ℕ) (n i : ℕ) : Type 0 where
  pub placed : Placed b table
  pub all : n ≡ length table
  pub plain : (k : ℕ) → k < i → Wire (named b) k → ⊥

pub plain_none : (b table : List ℕ) (n : ℕ) → Placed b table → n ≡ length table → PlainTo b table n 0
plain_none b table n p m = record { placed = p; all = m; plain = λ k l. absurd (omega arith) }

module _ (b table : List ℕ) (n i : ℕ) (s : PlainTo b table n i) where
  pub plain_placed : Placed b table
  plain_placed = s.placed

  pub plain_row : i < n → i < length table
  plain_row h = omega (arith, s.all)

  pub plain_some : i < n → (r : Bool) → Says (Wire (named b) i) r → r ≡ true → Says (Plain (sheet_graph b) (length table)) false
  plain_some h r a e =
      says_no (λ p. p.plain i (omega (arith, s.all)) (named_sheet b i (omega (arith, s.all, placed_few b table s.placed)) (said_yes (rw e at a))))

  pub plain_more : (r : Bool) → Says (Wire (named b) i) r → r ≡ false → PlainTo b table n (i + 1)
  plain_more r a e = record { placed = s.placed; all = s.all; plain = below_more _ _ s.plain (said_no (rw e at a)) }

  pub plain_all : n ≤ i → Says (Plain (sheet_graph b) (length table)) true
  plain_all h =
      says_yes
      (record {
        plain = λ k l w.
            s.plain k (omega (arith, s.all)) (sheet_named b k (omega (arith, placed_few b table s.placed)) w);
      })

-- ---- such a sheet beside a store without rows

module _ (w b table : List ℕ) (t : Tabled w b 0 table) (p : Plain (sheet_graph b) (length table)) where
  pub drawn_plain : Plain (drawn (source room w 0 b)) (view_rows (source room w 0 b) table)
  unfolding sheet_graph
  drawn_plain =
      record {
        plain = λ u h x.
            let z : u - 0 ≡ u = omega arith in
            let e : (drawn (source room w 0 b)).label u ≡ label_at b (start b u) = sheet_label (source room w 0 b) u (omega arith) ∙ ap (λ v. label_at b (start b v)) z in
            p.plain u (omega arith) (record { is = rw e at x.is });
      }

  pub plain_viewed : Viewed (source room w 0 b) table
  plain_viewed = view_plain (tabled_drawn w b 0 table t) drawn_plain

  pub plain_fits : (cls : List ℕ) → length cls ≡ 2048 → view_rows (source room w 0 b) table ≤ length cls
  plain_fits cls l = tabled_fits w b 0 table t cls l
