-- Rows that are each their own class are rows of different trees, and the other way round: rows of any graph, and store rows whatever sheet is joined to the store.
use Rattle.std.proofs.Common.{◌≡◌, ℕ, ◌+◌, ◌<◌, ◌≤◌, true, false, ◌↔◌, List, sym, ◌∙◌, arith}
use native.Mathlib.Decide.{dec_lt}
use Rattle.rules.specs.Answers.{Says, says_yes, says_no}
use Rattle.trees.specs.Graph.{Graph}
use Rattle.trees.specs.Agreement.{Minimal}
use Rattle.trees.specs.Sorting.{Sorted}
use Rattle.trees.proofs.Agreement.{same_refl, same_sym, same_trans}
use Rattle.store.specs.Layout.{store_graph}
use Rattle.rows.specs.Joined.{Source, joined}
use Rattle.rows.specs.View.{Viewed, view_rows}
use Rattle.rows.proofs.View.{store_same}
use Rattle.rounds.specs.Classes.{class_of}
use Rattle.classes.specs.Own.{OwnClasses}

-- ---- the loop over them

module _ (cls : List ℕ) where
  pub own_none : OwnClasses 0 cls
  own_none = record { own = λ u h. absurd (omega arith) }

  pub own_more : (u x : ℕ) → OwnClasses u cls → x ≡ class_of cls u → x ≡ u → OwnClasses (u + 1) cls
  own_more u x s p e = record { own = λ w h. go w h (dec_lt w u) }
    where
      go : (w : ℕ) → w < u + 1 → Dec (w < u) → class_of cls w ≡ w
      go w h (yes l) = s.own w l
      go w h (no l) = let i : w ≡ u = omega arith in rw i (sym p ∙ e)

  pub own_part : (rows u x : ℕ) → u < rows → x ≡ class_of cls u → (x ≡ u → ⊥) → Says (OwnClasses rows cls) false
  own_part rows u x h p f = says_no (λ o. f (p ∙ o.own u h))

  pub own_all : (rows u : ℕ) → OwnClasses u cls → rows ≤ u → Says (OwnClasses rows cls) true
  own_all rows u o h = says_yes (record { own = λ w l. o.own w (omega arith) })

-- ---- the rows of any graph

module _ {g : Graph} {n : ℕ} {cls : List ℕ} (o : Sorted g n (class_of cls)) where
  pub own_distinct : OwnClasses n cls ↔ Minimal g n
  own_distinct = (
    λ p. record { apart = λ u v h k t. sym (p.own u h) ∙ o.exact.class u v h k t ∙ p.own v k },
    λ m. record { own = λ u h. m.apart (class_of cls u) u (low u h) h (o.has u h) },
  )
    where
      low : (u : ℕ) → u < n → class_of cls u < n
      low u h = let l = o.lowest u u h h (same_refl g u) in omega arith

-- ---- what it says of the store's trees

module _ {s : Source} {table cls : List ℕ} (v : Viewed s table) (o : Sorted (joined s) (view_rows s table) (class_of cls)) where
  pub own_minimal : OwnClasses s.stored cls → Minimal (store_graph s.most s.words) s.stored
  own_minimal p =
      record {
        apart = λ u w h k t.
            let j = same_trans (store_same v u h) (same_trans t (same_sym (store_same v w k))) in
            sym (p.own u h) ∙ o.exact.class u w (omega arith) (omega arith) j ∙ p.own w k;
      }

  pub minimal_own : Minimal (store_graph s.most s.words) s.stored → OwnClasses s.stored cls
  minimal_own m =
      record {
        own = λ u h.
            let l = o.lowest u u (omega arith) (omega arith) (same_refl (joined s) u) in
            let k : class_of cls u < s.stored = omega arith in
            m.apart (class_of cls u) u k h (same_trans (same_sym (store_same v (class_of cls u) k)) (same_trans (o.has u (omega arith)) (store_same v u h)));
      }
