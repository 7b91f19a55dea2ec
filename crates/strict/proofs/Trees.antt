-- The verdict depends only on the trees of the sheet's rows.
use Prim.Native.Nat.{ℕ, ◌+◌, ◌≤◌, ◌<◌}
use native.Mathlib.Omega.{arith}
use mathlib.Core.Path.{◌≡◌, refl}
use mathlib.Core.List.{List, [], ◌∷◌, ◌++◌}
use mathlib.Core.Logic.{◌↔◌, inl, inr}
use Rattle.rules.specs.Refusals.{FirstIn, First}
use Rattle.rules.proofs.Refusals.{first_unique}
use Rattle.rules.specs.Lists.{firsts}
use Rattle.rules.proofs.Lists.{firsts_length}
use Rattle.trees.specs.Graph.{Closed}
use Rattle.trees.specs.Agreement.{SameTree}
use Rattle.trees.proofs.Matching.{renumbered_same}
use Rattle.sheet.specs.Format.{row_count_of}
use Rattle.store.specs.Layout.{in_use, room}
use Rattle.loops.specs.Catalogue.{Unlisted}
use Rattle.loops.specs.Loops.{Unheld}
use Rattle.rows.specs.Joined.{source, spot}
use Rattle.rows.specs.View.{Viewed, view_rows}
use Rattle.rows.proofs.View.{laid_closed, viewed_closed}
use Rattle.rows.proofs.Views.{view_both}
use Rattle.judging.proofs.Skipping.{read_unlisted, read_unheld}
use Rattle.loops.proofs.SameVerdict.{unlisted_same, unheld_same}
use Rattle.fronting.specs.Together.{together, as_drawn}
use Rattle.inserting.specs.declared.insertion.Inserted.{Inserted}
use Rattle.duties.specs.Words.{sheet_trees}
use Rattle.duties.proofs.Alone.{sheet_closed, sheet_moved, sheet_fits, sheet_tree}
use Rattle.duties.proofs.Settled.{right_readable}
use Rattle.keys.specs.Sheets.{sheet_graph}
use Rattle.wires.proofs.Skipping.{skipping_closed}
use Rattle.strict.specs.Strict.{SheetUnlisted, SheetUnheld, verdicts, strict_refusals, StrictSays, Judgeable, TreesAmong}
use Rattle.strict.proofs.Strictly.{behind}
use Rattle.strict.proofs.Outcome.{strict_first}

module _ {b : List ℕ} (k : Judgeable b) where
  -- beside a store without rows
  table : List ℕ
  table = firsts (spot (source room (0 ∷ []) (in_use (0 ∷ [])) b)) (row_count_of b)

  view : Viewed (source room (0 ∷ []) (in_use (0 ∷ [])) b) table
  unfolding table
  view =
      view_both {w = 0 ∷ []} (omega arith) (record { fits = omega arith; rows = λ n h. absurd (omega arith) }) k.readable k.leads k.straight k.unlooped

  rows : view_rows (source room (0 ∷ []) (in_use (0 ∷ [])) b) table ≡ in_use (0 ∷ []) + row_count_of b
  unfolding table
  rows = omega (arith, firsts_length (spot (source room (0 ∷ []) (in_use (0 ∷ [])) b)) (row_count_of b))

  -- the rows of a sheet that can be judged lead to such rows only, as drawn and with wires skipped
  alone_closed : Closed (sheet_graph b) (row_count_of b)
  alone_closed = sheet_closed k.readable k.leads

  pub read_closed : Closed (sheet_trees b) (row_count_of b)
  read_closed = skipping_closed (sheet_graph b) alone_closed (sheet_fits k.readable k.leads k.straight)

  drawn_closed : Closed (as_drawn (0 ∷ []) b) (in_use (0 ∷ []) + row_count_of b)
  drawn_closed = rw rows at (laid_closed view.laid)

  beside_closed : Closed (together (0 ∷ []) b) (in_use (0 ∷ []) + row_count_of b)
  beside_closed = rw rows at (viewed_closed view)

  -- once 14 and 15 have passed, the verdict on rows as they are drawn is the verdict on them as their trees are read
  module _ (i : ℕ) (h : i < row_count_of b) where
    drawn_tree : SameTree (sheet_graph b) i (as_drawn (0 ∷ []) b) (in_use (0 ∷ []) + i)
    drawn_tree = renumbered_same (sheet_moved k.readable k.leads (0 ∷ [])) i h

    read_tree : SameTree (sheet_trees b) i (together (0 ∷ []) b) (in_use (0 ∷ []) + i)
    read_tree = sheet_tree k.readable k.leads k.straight (0 ∷ []) i h

    pub unlisted_read : Unlisted (sheet_graph b) i ↔ Unlisted (sheet_trees b) i
    unlisted_read =
        let a = unlisted_same drawn_tree in
        let c = read_unlisted view {u = in_use (0 ∷ []) + i} (omega (arith, rows)) in
        let d = unlisted_same read_tree in
        (λ x. d.1 (c.0 (a.0 x)), λ x. a.1 (c.1 (d.0 x)))

    pub unheld_read : Unheld (sheet_graph b) i ↔ Unheld (sheet_trees b) i
    unheld_read =
        let a = unheld_same alone_closed h drawn_closed (omega arith) drawn_tree in
        let c = read_unheld view {u = in_use (0 ∷ []) + i} (omega (arith, rows)) in
        let d = unheld_same read_closed h beside_closed (omega arith) read_tree in
        (λ x. d.1 (c.0 (a.0 x)), λ x. a.1 (c.1 (d.0 x)))

module _ {b d : List ℕ} (k : Judgeable b) (l : Judgeable d) (t : TreesAmong b d) where
  pub sheet_unlisted_same : SheetUnlisted b → SheetUnlisted d
  sheet_unlisted_same a =
      let x = t.each a.row a.of_sheet in
      record {
        row = x.row;
        of_sheet = x.of_sheet;
        unlisted = (unlisted_read l x.row x.of_sheet).1 ((unlisted_same x.tree).0 ((unlisted_read k a.row a.of_sheet).0 a.unlisted));
      }

  pub sheet_unheld_same : SheetUnheld b → SheetUnheld d
  sheet_unheld_same a =
      let x = t.each a.row a.of_sheet in
      record {
        row = x.row;
        of_sheet = x.of_sheet;
        unheld =
            (unheld_read l x.row x.of_sheet).1
            ((unheld_same (read_closed k) a.of_sheet (read_closed l) x.of_sheet x.tree).0
            ((unheld_read k a.row a.of_sheet).0 a.unheld));
      }

-- two sheets whose rows have the same trees: 12 is to be said of both or of none, and so is 13
pub verdict_trees : {b d : List ℕ} → Judgeable b → Judgeable d → TreesAmong b d → TreesAmong d b
    → (SheetUnlisted b ↔ SheetUnlisted d) × (SheetUnheld b ↔ SheetUnheld d)
verdict_trees k l t u =
    ((sheet_unlisted_same k l t, sheet_unlisted_same l k u), (sheet_unheld_same k l t, sheet_unheld_same l k u))

-- they have one verdict: 12, 13, or 0 for none
pub verdict_one : {b d : List ℕ} {r s : ℕ} → Judgeable b → Judgeable d → TreesAmong b d → TreesAmong d b
    → First (verdicts b) r → First (verdicts d) s → r ≡ s
verdict_one {b} {d} {r} k l t u f g = first_unique (moved f.first) g
  where
    e : (SheetUnlisted b ↔ SheetUnlisted d) × (SheetUnheld b ↔ SheetUnheld d)
    e = verdict_trees k l t u

    moved : FirstIn (verdicts b) r → First (verdicts d) r
    moved (inl (a, q)) = record { first = inl (e.0.0 a, q) }
    moved (inr (x, inl (a, q))) = record { first = inr (λ y. x (e.0.1 y), inl (e.1.0 a, q)) }
    moved (inr (x, inr (y, q))) = record { first = inr (λ i. x (e.0.1 i), inr (λ i. y (e.1.1 i), q)) }

-- ---- the same of the outcomes

-- 12 where U holds, else 13 where H does, else neither
data Ends (U H : Type 0) : ℕ → Type 0 where
  ends_12 : U → Ends U H 12
  ends_13 : (U → ⊥) → H → Ends U H 13
  ends_else : {n : ℕ} → (U → ⊥) → (H → ⊥) → (n ≡ 12 → ⊥) → (n ≡ 13 → ⊥) → Ends U H n

module _ {U H : Type 0} where
  is_12 : {n : ℕ} → Ends U H n → n ≡ 12 ↔ U
  is_12 (ends_12 u) = (λ e. u, λ x. refl)
  is_12 (ends_13 f h) = (λ e. absurd (omega arith), λ u. absurd (f u))
  is_12 (ends_else f g k l) = (λ e. absurd (k e), λ u. absurd (f u))

  is_13 : {n : ℕ} → Ends U H n → n ≡ 13 ↔ ((U → ⊥) × H)
  is_13 (ends_12 u) = (λ e. absurd (omega arith), λ p. absurd (p.0 u))
  is_13 (ends_13 f h) = (λ e. (f, h), λ p. refl)
  is_13 (ends_else f g k l) = (λ e. absurd (l e), λ p. absurd (g p.1))

-- 1 to 6, 19, 14 and 15 passed: the sheet can be judged, and the verdict comes next
record Passed (b : List ℕ) (n : ℕ) : Type 0 where
  judgeable : Judgeable b
  ends : Ends (SheetUnlisted b) (SheetUnheld b) n

module _ (w b answers : List ℕ) where
  ends : {n : ℕ} → FirstIn (verdicts b ++ behind w b answers) n → Ends (SheetUnlisted b) (SheetUnheld b) n
  ends (inl (u, q)) = rw q (ends_12 u)
  ends (inr (f, inl (h, q))) = rw q (ends_13 f h)
  ends {n} (inr (f, inr (g, inl (x, q)))) = ends_else {n = n} f g (λ e. omega arith) (λ e. omega arith)
  ends {n} (inr (f, inr (g, inr (x, inl (y, q))))) = ends_else {n = n} f g (λ e. omega arith) (λ e. omega arith)
  ends {n} (inr (f, inr (g, inr (x, inr (y, q))))) = ends_else {n = n} f g (λ e. omega arith) (λ e. omega arith)

  passed : {n : ℕ} → FirstIn (strict_refusals w b answers) n → (0 < n → n ≤ 6 → ⊥) → (14 ≤ n → ⊥) → Passed b n
  passed (inl (x, q)) z y = absurd (z (omega arith) (omega arith))
  passed (inr (i, inl (x, q))) z y = absurd (z (omega arith) (omega arith))
  passed (inr (i, inr (s, inl (x, q)))) z y = absurd (z (omega arith) (omega arith))
  passed (inr (i, inr (s, inr (l, inl (x, q))))) z y = absurd (z (omega arith) (omega arith))
  passed (inr (i, inr (s, inr (l, inr (m, inl (x, q)))))) z y = absurd (z (omega arith) (omega arith))
  passed (inr (i, inr (s, inr (l, inr (m, inr (k, inl (x, q))))))) z y = absurd (y (omega arith))
  passed (inr (i, inr (s, inr (l, inr (m, inr (k, inr (a, inl (x, q)))))))) z y = absurd (z (omega arith) (omega arith))
  passed (inr (i, inr (s, inr (l, inr (m, inr (k, inr (a, inr (p, inl (x, q))))))))) z y = absurd (y (omega arith))
  passed (inr (i, inr (s, inr (l, inr (m, inr (k, inr (a, inr (p, inr (c, inl (x, q)))))))))) z y = absurd (y (omega arith))
  passed (inr (i, inr (s, inr (l, inr (m, inr (k, inr (a, inr (p, inr (c, inr (e, f)))))))))) z y =
      record {
        judgeable = record { readable = right_readable b l m k; leads = p; straight = c; unlooped = e };
        ends = ends f;
      }

module _ {b d : List ℕ} {n m : ℕ} (a : Passed b n) (c : Passed d m) (t : TreesAmong b d) (u : TreesAmong d b) where
  same : (SheetUnlisted b ↔ SheetUnlisted d) × (SheetUnheld b ↔ SheetUnheld d)
  same = verdict_trees a.judgeable c.judgeable t u

  passed_12 : n ≡ 12 → m ≡ 12
  passed_12 e = (is_12 c.ends).1 (same.0.0 ((is_12 a.ends).0 e))

  passed_13 : n ≡ 13 → m ≡ 13
  passed_13 e = let k = (is_13 a.ends).0 e in (is_13 c.ends).1 (λ i. k.0 (same.0.1 i), same.1.0 k.1)

-- two strict inserts, neither refused with 1 to 6, 19, 14 or 15, of sheets whose rows have the same trees: both are refused with 12 or none is, and so with 13
pub strict_trees : {w b answers w' answers' v d others v' others' : List ℕ} {r s : Inserted} → StrictSays w b answers r w' answers' → StrictSays v d others s v' others'
    → (0 < r.number → r.number ≤ 6 → ⊥) → (14 ≤ r.number → ⊥) → (0 < s.number → s.number ≤ 6 → ⊥) → (14 ≤ s.number → ⊥) → TreesAmong b d → TreesAmong d b
    → (r.number ≡ 12 ↔ s.number ≡ 12) × (r.number ≡ 13 ↔ s.number ≡ 13)
strict_trees {w} {b} {answers} {v = v} {d = d} {others = others} x y p e q f t u = go (passed w b answers (strict_first x).first p e) (passed v d others (strict_first y).first q f)
  where
    go : {n m : ℕ} → Passed b n → Passed d m → (n ≡ 12 ↔ m ≡ 12) × (n ≡ 13 ↔ m ≡ 13)
    go a c = ((passed_12 a c t u, passed_12 c a u t), (passed_13 a c t u, passed_13 c a u t))
