-- The rows of a sheet read one after another: what is said of the rest from here is said of the whole.
use Prim.Native.Nat.{ℕ, suc, ◌+◌, ◌-◌, ◌≤◌, ◌<◌}
use native.Mathlib.Omega.{arith}
use mathlib.Core.Path.{◌≡◌, sym, ap, ◌∙◌}
use mathlib.Core.List.{List}
use mathlib.Core.Bool.{true, false}
use lib.ListN.{length}
use borrow.Author.Tests.{eq-eqb, ne_eqb}
use Rattle.sheet.specs.Format.{row_count_of, row_end}
use Rattle.sheet.specs.Read.{fault, row_fits, row_at, rows_from}
use Rattle.std.specs.Prelude.{Result, Ok, Err}
use Rattle.sheet.specs.declared.row.RowRead.{RowRead}
use Rattle.sheet.proofs.Rows.{read_fits, read_next, refused_fits}

-- ---- the clauses of rows_from

pub from_row : (b : List ℕ) (most n at : ℕ) → row_fits b most at ≡ true → rows_from b most (suc n) at ≡ rows_from b most n (row_end b at)
unfolding rows_from
from_row b most n at e = simp e

pub from_refused : (b : List ℕ) (most n at : ℕ) → row_fits b most at ≡ false → rows_from b most (suc n) at ≡ Err (fault 5 at)
unfolding rows_from
from_refused b most n at e = simp e

pub from_whole : (b : List ℕ) (most at : ℕ) → at ≡ length b → rows_from b most 0 at ≡ Ok (row_count_of b)
unfolding rows_from
from_whole b most at e = simp (eq-eqb _ _ e)

pub from_left : (b : List ℕ) (most at : ℕ) → (at ≡ length b → ⊥) → rows_from b most 0 at ≡ Err (fault 5 at)
unfolding rows_from
from_left b most at e = simp (ne_eqb _ _ e)

-- ---- the loop: i rows are read, the next one starts at a place

pub record ReadSoFar (b : List ℕ) (most rows at i : ℕ) : Type 0 where
  pub some : i ≤ rows
  pub rest : rows_from b most (rows - i) at ≡ rows_from b most rows 7

module _ (b : List ℕ) (most rows : ℕ) where
  pub read_none : ReadSoFar b most rows 7 0
  read_none = record { some = omega arith; rest = ap (λ n. rows_from b most n 7) (omega arith) }

  pub read_more : (at i : ℕ) (row : RowRead) (r : Result RowRead ℕ) → ReadSoFar b most rows at i → i < rows → r ≡ row_at b most at → r ≡ Ok row → ReadSoFar b most rows row.next (i + 1)
  read_more at i row r s h q p =
      let e : Ok row ≡ row_at b most at = sym p ∙ q in
      let m : rows - i ≡ suc (rows - (i + 1)) = omega arith in
      record {
        some = omega arith;
        rest =
            ap (rows_from b most (rows - (i + 1))) (read_next b most at row e)
            ∙ sym (from_row b most (rows - (i + 1)) at (read_fits b most at row e))
            ∙ ap (λ n. rows_from b most n at) (sym m)
            ∙ s.rest;
      }

  pub read_refused : (at i place : ℕ) (r : Result RowRead ℕ) → ReadSoFar b most rows at i → i < rows → r ≡ row_at b most at → r ≡ Err place → Err (fault 5 at) ≡ rows_from b most rows 7
  read_refused at i place r s h q p =
      let e : Err place ≡ row_at b most at = sym p ∙ q in
      let m : rows - i ≡ suc (rows - (i + 1)) = omega arith in
      sym (from_refused b most (rows - (i + 1)) at (refused_fits b most at place e))
      ∙ ap (λ n. rows_from b most n at) (sym m)
      ∙ s.rest

  module _ (at i : ℕ) (s : ReadSoFar b most rows at i) (h : rows ≤ i) where
    ended : rows_from b most 0 at ≡ rows_from b most rows 7
    ended = let m : 0 ≡ rows - i = omega arith in ap (λ n. rows_from b most n at) m ∙ s.rest

    pub read_whole : rows ≡ row_count_of b → at ≡ length b → Ok rows ≡ rows_from b most rows 7
    read_whole r e = ap Ok r ∙ sym (from_whole b most at e) ∙ ended

    pub read_left : (at ≡ length b → ⊥) → Err (fault 5 at) ≡ rows_from b most rows 7
    read_left e = sym (from_left b most at e) ∙ ended
