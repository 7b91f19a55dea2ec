-- A row listed or not; and states searched for a row that is left.
use Prim.Native.Nat.{ℕ, ◌+◌, ◌-◌, ◌≤◌, ◌<◌}
use native.Mathlib.Omega.{arith}
use mathlib.Core.Path.{◌≡◌, sym, ◌∙◌}
use mathlib.Core.Bool.{Bool, true, false}
use mathlib.Core.List.{List}
use lib.Dec.{eqb}
use lib.ListN.{length, get_or, take, drop}
use borrow.Author.Tests.{eqb-true, eqb-false}
use Rattle.std.specs.List.{IsAnyAnswer}
use Rattle.std.proofs.lemmas.List.{length-take-le, length-drop, get_or-take, get_or-drop}
use Rattle.rules.specs.Answers.{Says, says_yes, says_no}
use Rattle.rules.proofs.Answers.{says_same}
use Rattle.rules.proofs.Tested.{says_equal}
use Rattle.trees.specs.Graph.{Graph}
use Rattle.loops.specs.Operations.{operation_of}
use Rattle.loops.specs.Catalogue.{inputs_of, Listed}
use Rattle.store.specs.declared.row.Row.{Row}
use Rattle.rows.specs.Joined.{row_in}
use Rattle.rows.proofs.Rows.{in_label, in_count}
use Rattle.judging.specs.Verdicts.{state_of}
use Rattle.judging.specs.Rules.{ListedAs}
use Rattle.judging.specs.Left.{LeftBetween, SheetPeeled, SheetLeft}

-- ---- a row by value

module _ (label count x : ℕ) (e : x ≡ inputs_of (operation_of label)) where
  pub listed_free : x ≡ 255 → Says (ListedAs label count) false
  listed_free q = says_no (λ a. a.known (sym e ∙ q))

  pub listed_counts : (x ≡ 255 → ⊥) → Says (ListedAs label count) (eqb count x)
  listed_counts f =
      says_same ((λ q. record { known = λ z. f (e ∙ z); counts = q ∙ e }), (λ l. l.counts ∙ sym e)) (says_equal count x)

-- ---- a row of a graph

pub listed_row : (g : Graph) (u : ℕ) (row : Row) → row ≡ row_in g u → (r : Bool) → Says (ListedAs row.label row.count) r → Says (Listed g u) r
listed_row g u row e r a = says_same (there, back) a
  where
    label : row.label ≡ g.label u
    label = rw e (in_label g u)

    count : row.count ≡ g.count u
    count = rw e (in_count g u)

    there : ListedAs row.label row.count → Listed g u
    there l = record { known = rw label at l.known; counts = rw (label, count) at l.counts }

    back : Listed g u → ListedAs row.label row.count
    back l = record { known = rw label l.known; counts = rw (label, count) l.counts }

-- ---- rows searched for one that is left

-- a part of the states has a 1
module _ (from n to : ℕ) (state : List ℕ) (e : n ≡ to) (high : to ≤ length state) where
  part_long : length (take (n - from) (drop from state)) ≡ n - from
  part_long = length-take-le (n - from) (drop from state) (simp length-drop (omega arith))

  part_has : (k : ℕ) → k < n - from → get_or (take (n - from) (drop from state)) k 0 ≡ state_of state (from + k)
  part_has k h = get_or-take (n - from) (drop from state) k 0 h ∙ get_or-drop from state k 0

  pub left_says : (r : Bool) → IsAnyAnswer (λ y b. eqb y 1 ≡ b) (take (n - from) (drop from state)) r → Says (LeftBetween from to state) r
  left_says true a =
      let l : a.0 < n - from = rw part_long at a.1 in
      says_yes
      (record {
        row = from + a.0;
        low = omega arith;
        high = omega arith;
        left = sym (part_has a.0 l) ∙ eqb-true _ 1 (a.2 0);
      })
  left_says false a =
      says_no
      (λ m. let h = m.high in
      let b = m.low in
      let l : m.row - from < n - from = omega arith in
      let w : from + (m.row - from) ≡ m.row = omega arith in
      let q : get_or (take (n - from) (drop from state)) (m.row - from) 0 ≡ 1 = part_has (m.row - from) l ∙ rw w m.left in
      eqb-false _ 1 (a (m.row - from) 0 (omega arith) (rw part_long l)) q)

module _ (g : Graph) (from n to : ℕ) (old state : List ℕ) (s : SheetPeeled g from to old state) where
  pub sheet_left : n ≡ to → to ≤ length old → length state ≡ length old → (r : Bool)
      → IsAnyAnswer (λ y b. eqb y 1 ≡ b) (take (n - from) (drop from state)) r → SheetLeft g from to old r
  sheet_left e l same r a = record { left = state; peeled = s; says = left_says from n to state e (omega arith) r a }
