-- The shape of a store looked at row by row, and in a row input by input.
use Prim.Native.Nat.{ℕ, ◌≤◌, ◌<◌}
use native.Mathlib.Omega.{arith}
use mathlib.Core.Path.{◌≡◌, sym, ap, ◌∙◌}
use mathlib.Core.List.{List}
use mathlib.Core.Bool.{Bool, true, false}
use lib.ListN.{length}
use lib.Dec.{ltb, eqb}
use Rattle.std.specs.Prelude.{Option, Some, None, Ok, Err}
use Rattle.rules.specs.Answers.{Says, says_no}
use Rattle.rules.specs.Lists.{widest}
use Rattle.rules.proofs.Answers.{says_same, said_yes, said_no}
use Rattle.wires.specs.Wires.{is_wire}
use Rattle.store.specs.Layout.{in_use, label_of, count_of, input_of, capacity_of, capacity_answer}
use Rattle.store.specs.Rows.{RowThere}
use Rattle.store.specs.Sound.{InputShaped, RowShaped, Shaped, ShapeSays, says_no_words, says_broken, says_rows}
use Rattle.store.specs.declared.shape.Flaw.TheVariants.{NoWords, Broken}
use Rattle.rules.proofs.Tested.{says_below, says_equal}
use Rattle.store.proofs.Room.{none_words, some_words, rows_words, row_there}

-- ---- whether it is a wire

pub wire_told : (most : ℕ) (w : List ℕ) (n label : ℕ) (r : Bool) → label ≡ label_of most w n → r ≡ is_wire label → r ≡ is_wire (label_of most w n)
wire_told most w n label r l e = e ∙ ap is_wire l

-- ---- one input word

module _ (most : ℕ) (w : List ℕ) (rows n j input count : ℕ) (i : input ≡ input_of most w n j) (c : count ≡ count_of most w n) where
  pub used_says : j < count → Says (InputShaped most w rows n j) (ltb input rows)
  used_says h =
      says_same ((λ l. record { used = λ m. omega arith; unused = λ m. absurd (omega arith) }), (λ s. omega (arith, s.used (omega arith))))
      (says_below input rows)

  pub unused_says : count ≤ j → Says (InputShaped most w rows n j) (eqb input 0)
  unused_says h =
      says_same ((λ l. record { used = λ m. absurd (omega arith); unused = λ m. sym i ∙ l }), (λ s. i ∙ s.unused (omega arith)))
      (says_equal input 0)

-- ---- the inputs of a row

module _ (most : ℕ) (w : List ℕ) (rows n : ℕ) where
  pub row_wire : (r : Bool) → r ≡ is_wire (label_of most w n) → r ≡ true → Says (RowShaped most w rows n) false
  row_wire r i q = says_no (λ s. let z : ◌≡◌ {A = ℕ} 0 1 = cc (i, q, s.plain) in omega arith)

  module _ (count : ℕ) (c : count ≡ count_of most w n) where
    pub row_crowded : most < count → Says (RowShaped most w rows n) false
    row_crowded h = says_no (λ s. omega (arith, s.few))

    pub inputs_say : (r t : Bool) → r ≡ is_wire (label_of most w n) → r ≡ false → count ≤ most → Says ((j : ℕ) → j < most → InputShaped most w rows n j) t → Says (RowShaped most w rows n) t
    inputs_say r t i q h =
        says_same (
          (λ s. record {
            plain = sym i ∙ q;
            few = omega arith;
            used = λ j l. (s j (omega arith)).used l;
            unused = λ j l m. (s j m).unused l;
          }),
          (λ s j l. record { used = s.used j; unused = λ m. s.unused j m l }),
        )

-- ---- the rows of a store

-- there are words, and the count of rows is within the capacity
pub record RowsCounted (most : ℕ) (w : List ℕ) (rows : ℕ) : Type 0 where
  pub words_there : 0 < length w
  pub counted : rows ≡ in_use w
  pub fits : rows ≤ capacity_of most (length w)

module _ (most : ℕ) (w : List ℕ) where
  module _ (answer : Option ℕ) (a : answer ≡ capacity_answer most (length w)) where
    pub shape_none : answer ≡ None → ShapeSays most w (Err NoWords)
    shape_none n = says_no_words (none_words most (length w) answer a n)

    module _ (capacity rows : ℕ) (r : answer ≡ Some capacity) (e : rows ≡ in_use w) where
      pub shape_over : capacity < rows → ShapeSays most w (Err Broken)
      shape_over h =
          says_broken (some_words most (length w) answer a capacity r)
          (λ s. omega (arith, s.fits, rows_words most (length w) answer a capacity r))

      pub rows_counted : rows ≤ capacity → RowsCounted most w rows
      rows_counted h =
          record {
            words_there = some_words most (length w) answer a capacity r;
            counted = e;
            fits = omega (arith, rows_words most (length w) answer a capacity r);
          }

  module _ (rows : ℕ) (s : RowsCounted most w rows) where
    pub rows_row : (n : ℕ) → most ≤ widest → n < rows → RowThere most w n
    rows_row n h l = row_there most w rows n h l s.fits

    module _ (t : Bool) (a : Says ((n : ℕ) → n < rows → RowShaped most w rows n) t) where
      pub rows_broken : t ≡ false → ShapeSays most w (Err Broken)
      rows_broken e = says_broken s.words_there (λ q. said_no (rw e at a) (rw (← s.counted) at q.rows))

      pub rows_all : t ≡ true → ShapeSays most w (Ok rows)
      rows_all e =
          says_rows s.words_there s.counted
          (record { fits = omega (arith, s.fits); rows = rw s.counted at (said_yes (rw e at a)) })

-- a row in use of a shaped store is there whole
pub shaped_there : (most : ℕ) (w : List ℕ) (n : ℕ) → most ≤ widest → Shaped most w → n < in_use w → RowThere most w n
shaped_there most w n h s l = row_there most w (in_use w) n h l s.fits
