-- A line is put part by part.
use Prim.Native.Nat.{ℕ, ◌+◌, ◌≤◌, ◌<◌}
use native.Mathlib.Omega.{arith}
use borrow.Author.Tests.{eq-eqb, ne_eqb}
use mathlib.Core.Path.{◌≡◌, sym, ap, ◌∙◌}
use mathlib.Core.List.{List, [], ◌∷◌, ◌++◌, append_assoc}
use lib.ListN.{length}
use Rattle.rules.specs.Writes.{Wrote}
use Rattle.rules.proofs.Writes.{wrote_none, wrote_more}
use Rattle.text.specs.Decimal.{decimal, spaced}
use Rattle.text.proofs.Writes.{room_first, room_next}
use Rattle.text.proofs.Numbers.{spaced_join}
use Rattle.listing.specs.Lines.{line_of, head_of, rest_word, rest_line}

-- ---- the place, and then the result of the insert

module _ (old : List ℕ) (at place x y : ℕ) (new : List ℕ) (past : ℕ) (told : List ℕ) (e : told ≡ x ∷ y ∷ []) (s : Wrote old at (decimal place) new past) where
  pub told_room : at + length (decimal place ++ spaced (x ∷ y ∷ [])) ≤ length old → past + length (spaced told) ≤ length new
  told_room r = rw e (room_next old at (decimal place) (spaced (x ∷ y ∷ [])) new past s r)

  pub told_wrote : (new' : List ℕ) (to : ℕ) → Wrote new past (spaced told) new' to → Wrote old at (decimal place ++ spaced (x ∷ y ∷ [])) new' to
  told_wrote new' to t = wrote_more old at (decimal place) new past s (spaced (x ∷ y ∷ [])) new' to (rw e at t)

-- ---- a sheet's line: what every line has, the rows' numbers, and the newline

module _ (place number added : ℕ) (rows : List ℕ) where
  pub line_parts : line_of place number added rows ≡ head_of place number added ++ spaced rows ++ (10 ∷ [])
  unfolding line_of
  line_parts =
      ap (λ (l : List ℕ). decimal place ++ l ++ (10 ∷ [])) (spaced_join (number ∷ added ∷ []) rows)
      ∙ ap (λ (l : List ℕ). l ++ (10 ∷ [])) (sym (append_assoc (decimal place) (spaced (number ∷ added ∷ [])) (spaced rows)))

  module _ (old : List ℕ) (at : ℕ) (r : at + length (line_of place number added rows) ≤ length old) where
    both : at + length (head_of place number added ++ spaced rows) ≤ length old
    both = room_first old at (head_of place number added ++ spaced rows) (10 ∷ []) (rw line_parts at r)

    pub line_head : at + length (head_of place number added) ≤ length old
    line_head = room_first old at (head_of place number added) (spaced rows) both

    module _ (new : List ℕ) (past : ℕ) (s : Wrote old at (head_of place number added) new past) where
      pub line_rows : past + length (spaced rows) ≤ length new
      line_rows = room_next old at (head_of place number added) (spaced rows) new past s both

      module _ (new' : List ℕ) (past' : ℕ) (t : Wrote new past (spaced rows) new' past') where
        rows_too : Wrote old at (head_of place number added ++ spaced rows) new' past'
        rows_too = wrote_more old at (head_of place number added) new past s (spaced rows) new' past' t

        pub line_end : past' < length new'
        line_end =
            let l = room_next old at (head_of place number added ++ spaced rows) (10 ∷ []) new' past' rows_too (rw line_parts at r) in
            omega arith

        pub line_wrote : (new'' : List ℕ) (to : ℕ) → Wrote new' past' (10 ∷ []) new'' to → Wrote old at (line_of place number added rows) new'' to
        line_wrote new'' to u =
            rw line_parts (wrote_more old at (head_of place number added ++ spaced rows) new' past' rows_too (10 ∷ []) new'' to u)

-- ---- the last line

rest_none : (n : ℕ) → n ≡ 0 → rest_line n ≡ []
unfolding rest_line
rest_none n e = simp (eq-eqb n 0 e)

pub rest_parts : (n : ℕ) → (n ≡ 0 → ⊥) → rest_line n ≡ rest_word ++ decimal n ++ (10 ∷ [])
unfolding rest_line
rest_parts n e = simp (ne_eqb n 0 e)

pub rest_empty : (old : List ℕ) (at n : ℕ) → n ≡ 0 → Wrote old at (rest_line n) old at
rest_empty old at n e = rw (rest_none n e) (wrote_none old at)

module _ (n : ℕ) (e : n ≡ 0 → ⊥) (old : List ℕ) (at : ℕ) (r : at + length (rest_line n) ≤ length old) where
  worded : at + length (rest_word ++ decimal n) ≤ length old
  worded = room_first old at (rest_word ++ decimal n) (10 ∷ []) (rw (rest_parts n e) at r)

  pub rest_word_lem : at + length rest_word ≤ length old
  rest_word_lem = room_first old at rest_word (decimal n) worded

  module _ (new : List ℕ) (past : ℕ) (s : Wrote old at rest_word new past) where
    pub rest_number : past + length (decimal n) ≤ length new
    rest_number = room_next old at rest_word (decimal n) new past s worded

    module _ (new' : List ℕ) (past' : ℕ) (t : Wrote new past (decimal n) new' past') where
      number_too : Wrote old at (rest_word ++ decimal n) new' past'
      number_too = wrote_more old at rest_word new past s (decimal n) new' past' t

      pub rest_end : past' < length new'
      rest_end =
          let l = room_next old at (rest_word ++ decimal n) (10 ∷ []) new' past' number_too (rw (rest_parts n e) at r) in
          omega arith

      pub rest_wrote : (new'' : List ℕ) (to : ℕ) → Wrote new' past' (10 ∷ []) new'' to → Wrote old at (rest_line n) new'' to
      rest_wrote new'' to u =
          rw (rest_parts n e) (wrote_more old at (rest_word ++ decimal n) new' past' number_too (10 ∷ []) new'' to u)
