-- The lowest row of a tree among those left: it is unique, and numbering by it has each tree once.
use Prim.Native.Nat.{ℕ, ◌≤◌, ◌<◌}
use native.Mathlib.Omega.{arith}
use native.Mathlib.Decide.{dec_lt}
use mathlib.Core.Path.{◌≡◌, sym, ap, ◌∙◌}
use Rattle.trees.specs.Graph.{Graph}
use Rattle.trees.specs.Agreement.{Alike, SameTree, Minimal}
use Rattle.trees.proofs.Agreement.{alike_sym, alike_trans, same_refl, same_sym, same_trans, same_alike, same_input}
use Rattle.trees.proofs.Matching.{renumbered_same}
use Rattle.numbering.specs.Numbers.{trees_below, row_number, NumberedRows}
use Rattle.numbering.proofs.Counting.{FirstOf, number_taken, first_below, number_first, number_class, number_of_class}
use Rattle.mends.specs.Lowest.{Lowest}

module _ {g : Graph} {n : ℕ} {Gone : ℕ → Type 0} {c : ℕ → ℕ} (s : Lowest g n Gone c) where
  pub low : (u : ℕ) → u < n → c u < n → c u ≤ u
  low u h l = s.lowest u u h h l l (same_refl g u)

  pub own : (u : ℕ) → u < n → c u < n → c (c u) ≡ c u
  own u h l =
      let k = s.stays u h l in
      let a = low (c u) l k in
      let t = same_trans (s.has (c u) l k) (s.has u h l) in
      let b = s.lowest u (c (c u)) h k l (s.stays (c u) l k) (same_sym t) in
      omega arith

  pub class_same : (u v : ℕ) → u < n → v < n → c u < n → c v < n → SameTree g u g v → c u ≡ c v
  class_same u v h i l m t =
      let a = s.lowest u (c v) h m l (s.stays v i m) (same_trans t (same_sym (s.has v i m))) in
      let b = s.lowest v (c u) i l m (s.stays u h l) (same_trans (same_sym t) (same_sym (s.has u h l))) in
      omega arith

  -- a row that is its own lowest is left
  pub own_left : (u : ℕ) → u < n → c u ≡ u → c u < n
  own_left u h e = omega arith

  pub number_below : (u : ℕ) → u < n → c u < n → row_number c u < trees_below c n
  number_below u h l =
      let b = first_below c (c u) n (own u h l) l in
      let e = number_of_class c u (own u h l) in
      let f = number_first c (c u) (own u h l) in
      omega arith

  -- inputs of rows left are rows left
  module _ {t : Graph} (closed : (u j : ℕ) → u < n → c u < n → j < g.count u → (g.input u j < n) × (c (g.input u j) < n)) (m : NumberedRows g n c t) where
    row_alike : (u : ℕ) → u < n → c u < n → Alike g u t (row_number c u)
    row_alike u h l =
        let o = own u h l in
        rw (number_of_class c u o) (alike_trans (alike_sym (same_alike (s.has u h l))) (m.alike (c u) l o))

    row_input : (u : ℕ) → u < n → c u < n → (j : ℕ) → j < g.count u → t.input (row_number c u) j ≡ row_number c (g.input u j)
    row_input u h l j q =
        let o = own u h l in
        let same = s.has u h l in
        let i : j < g.count (c u) = omega (arith, (same_alike same).counts) in
        let x = closed (c u) j l (s.stays u h l) i in
        let y = closed u j h l q in
        let e : c (g.input (c u) j) ≡ c (g.input u j) = class_same (g.input (c u) j) (g.input u j) x.0 y.0 x.1 y.1 (same_input same j i) in
        rw (number_of_class c u o) (m.inputs (c u) l o j i ∙ number_class c (g.input (c u) j) (g.input u j) e)

    -- each row left has its tree at its number
    pub left_same : (u : ℕ) → u < n → c u < n → SameTree g u t (row_number c u)
    left_same u h l =
        renumbered_same {P = λ u. (u < n) × (c u < n)}
        (record { alike = λ u p. row_alike u p.0 p.1; inputs = λ u p. row_input u p.0 p.1; stays = λ u p j q. closed u j p.0 p.1 q })
        u (h, l)

    pub left_minimal : Minimal t (trees_below c n)
    left_minimal = record { apart = λ k i h q x. go k i (number_taken c n k h) (number_taken c n i q) x }
      where
        go : (k i : ℕ) → FirstOf c n k → FirstOf c n i → SameTree t k t i → k ≡ i
        go k i f e x =
            let a : row_number c f.row ≡ k = number_first c f.row f.first ∙ f.number in
            let b : row_number c e.row ≡ i = number_first c e.row e.first ∙ e.number in
            let fl = own_left f.row f.within f.first in
            let el = own_left e.row e.within e.first in
            let p : SameTree g f.row t k = rw a at (left_same f.row f.within fl) in
            let q : SameTree g e.row t i = rw b at (left_same e.row e.within el) in
            let r = class_same f.row e.row f.within e.within fl el (same_trans p (same_trans x (same_sym q))) in
            let d : f.row ≡ e.row = sym f.first ∙ r ∙ e.first in
            sym f.number ∙ ap (trees_below c) d ∙ e.number

-- two such choices are one
pub lowest_one : {g : Graph} {n : ℕ} {Gone : ℕ → Type 0} {c d : ℕ → ℕ} → Lowest g n Gone c → Lowest g n Gone d → (u : ℕ) → u < n → c u ≡ d u
lowest_one {g} {n} {Gone} {c} {d} s t u h = go (dec_lt (c u) n) (dec_lt (d u) n)
  where
    go : Dec (c u < n) → Dec (d u < n) → c u ≡ d u
    go (yes l) (yes m) =
        let dl : c (d u) < n = left (d u) m (t.stays u h m) in
        let cl : d (c u) < n = left' (c u) l (s.stays u h l) in
        let a = s.lowest u (d u) h m l dl (same_sym (t.has u h m)) in
        let b = t.lowest u (c u) h l m cl (same_sym (s.has u h l)) in
        omega arith
      where
        left : (v : ℕ) → v < n → d v < n → c v < n
        left v k q = at (dec_lt (c v) n)
          where
            at : Dec (c v < n) → c v < n
            at (yes x) = x
            at (no x) = let e = t.goes v k (s.gone v k (omega arith)) in absurd (omega arith)

        left' : (v : ℕ) → v < n → c v < n → d v < n
        left' v k q = at (dec_lt (d v) n)
          where
            at : Dec (d v < n) → d v < n
            at (yes x) = x
            at (no x) = let e = s.goes v k (t.gone v k (omega arith)) in absurd (omega arith)
    go (yes l) (no m) = let e = s.goes u h (t.gone u h (omega arith)) in absurd (omega arith)
    go (no l) (yes m) = let e = t.goes u h (s.gone u h (omega arith)) in absurd (omega arith)
    go (no l) (no m) = s.goes u h (s.gone u h (omega arith)) ∙ sym (t.goes u h (s.gone u h (omega arith)))
