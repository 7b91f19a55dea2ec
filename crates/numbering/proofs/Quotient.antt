-- A store numbered by sorted rows: it has each tree once, at its number.
use Prim.Native.Nat.{ℕ, ◌≤◌, ◌<◌}
use native.Mathlib.Omega.{arith}
use mathlib.Core.Path.{◌≡◌, sym, ap, ◌∙◌}
use Rattle.trees.specs.Graph.{Graph, Closed}
use Rattle.trees.specs.Agreement.{Alike, SameTree, Minimal}
use Rattle.trees.specs.Sorting.{Sorted}
use Rattle.trees.proofs.Agreement.{alike_sym, alike_trans, same_refl, same_sym, same_trans, same_alike, same_input}
use Rattle.trees.proofs.Matching.{renumbered_same}
use Rattle.numbering.specs.Numbers.{trees_below, row_number, NumberedRows}
use Rattle.numbering.proofs.Counting.{FirstOf, number_taken, first_below, number_first, number_class, number_of_class}

-- ---- what sorting gives

module _ {g : Graph} {n : ℕ} {c : ℕ → ℕ} (s : Sorted g n c) where
  pub class_low : (u : ℕ) → u < n → c u ≤ u
  class_low u h = s.lowest u u h h (same_refl g u)

  pub class_own : (u : ℕ) → u < n → c (c u) ≡ c u
  class_own u h =
      let l = class_low u h in
      s.exact.class (c u) u (omega arith) h (s.has u h)

  -- every number of a row is below the count
  pub number_below : (u : ℕ) → u < n → row_number c u < trees_below c n
  number_below u h =
      let l = class_low u h in
      let b = first_below c (c u) n (class_own u h) (omega arith) in
      let e = number_of_class c u (class_own u h) in
      let f = number_first c (c u) (class_own u h) in
      omega arith

  -- ---- the numbered store

  module _ {t : Graph} (closed : Closed g n) (m : NumberedRows g n c t) where
    -- the row at a row's number is alike, with its inputs numbered
    row_alike : (u : ℕ) → u < n → Alike g u t (row_number c u)
    row_alike u h =
        let l = class_low u h in
        let o = class_own u h in
        rw (number_of_class c u o) (alike_trans (alike_sym (same_alike (s.has u h))) (m.alike (c u) (omega arith) o))

    row_input : (u : ℕ) → u < n → (j : ℕ) → j < g.count u → t.input (row_number c u) j ≡ row_number c (g.input u j)
    row_input u h j q =
        let l = class_low u h in
        let o = class_own u h in
        let same = s.has u h in
        let i : j < g.count (c u) = omega (arith, (same_alike same).counts) in
        let e : c (g.input (c u) j) ≡ c (g.input u j) = s.exact.class (g.input (c u) j) (g.input u j) (closed.within (c u) j (omega arith) i) (closed.within u j h q) (same_input same j i) in
        rw (number_of_class c u o) (m.inputs (c u) (omega arith) o j i ∙ number_class c (g.input (c u) j) (g.input u j) e)

    -- each row has its tree at its number
    pub numbered_same : (u : ℕ) → u < n → SameTree g u t (row_number c u)
    numbered_same =
        renumbered_same {P = λ u. u < n}
        (record { alike = row_alike; inputs = row_input; stays = λ u h j q. closed.within u j h q })

    pub numbered_minimal : Minimal t (trees_below c n)
    numbered_minimal = record { apart = λ k i h q x. go k i (number_taken c n k h) (number_taken c n i q) x }
      where
        go : (k i : ℕ) → FirstOf c n k → FirstOf c n i → SameTree t k t i → k ≡ i
        go k i f e x =
            let a : row_number c f.row ≡ k = number_first c f.row f.first ∙ f.number in
            let b : row_number c e.row ≡ i = number_first c e.row e.first ∙ e.number in
            let p : SameTree g f.row t k = rw a at (numbered_same f.row f.within) in
            let q : SameTree g e.row t i = rw b at (numbered_same e.row e.within) in
            let r = s.exact.class f.row e.row f.within e.within (same_trans p (same_trans x (same_sym q))) in
            let d : f.row ≡ e.row = sym f.first ∙ r ∙ e.first in
            sym f.number ∙ ap (trees_below c) d ∙ e.number

    -- two rows have one number exactly when they have one tree
    pub number_same : (u v : ℕ) → u < n → v < n → row_number c u ≡ row_number c v → SameTree g u g v
    number_same u v h i e = same_trans (rw e at (numbered_same u h)) (same_sym (numbered_same v i))

  pub same_number : (u v : ℕ) → u < n → v < n → SameTree g u g v → row_number c u ≡ row_number c v
  same_number u v h i x = number_class c u v (s.exact.class u v h i x)
