-- The head of a sheet, test by test: what each leaves of the answer.
use Prim.Native.Nat.{ℕ, ◌-◌, ◌≤◌, ◌<◌}
use mathlib.Core.Path.{◌≡◌, sym, ap, ◌∙◌}
use mathlib.Core.List.{List}
use lib.ListN.{length}
use borrow.Author.Tests.{lt-ltb, le-ltb, eq-eqb, ne_eqb, le-leb, lt-leb}
use Rattle.sheet.specs.Format.{length_field, version_of, row_count_of, most_rows}
use Rattle.sheet.specs.Read.{fault, limit_of, rows_from, by_limit, read_sheet}
use Rattle.sheet.specs.declared.fault.Fault.{Fault}
use Rattle.std.specs.Prelude.{Option, Some, None, Result, Err}

module _ (b : List ℕ) where
  pub head_short : length b < 7 → Err (fault 3 0) ≡ read_sheet b
  unfolding read_sheet
  head_short h = simp (lt-ltb _ _ h)

  module _ (field : ℕ) (h : 7 ≤ length b) (f : field ≡ length_field b) where
    pub head_miscounted : (field ≡ length b - 4 → ⊥) → Err (fault 3 0) ≡ read_sheet b
    unfolding read_sheet
    head_miscounted n = simp (le-ltb _ _ h, ne_eqb (length_field b) (length b - 4) (λ e. n (f ∙ e)))

    module _ (version : ℕ) (limit : Option ℕ) (e : field ≡ length b - 4) (v : version ≡ version_of b) (l : limit ≡ limit_of version) where
      headed : (r : Result ℕ Fault) → r ≡ by_limit b limit → r ≡ read_sheet b
      unfolding read_sheet
      headed r q = q ∙ ap (by_limit b) (l ∙ ap limit_of v) ∙ simp (le-ltb _ _ h, eq-eqb (length_field b) (length b - 4) (sym f ∙ e))

      pub head_unknown : limit ≡ None → Err (fault 4 4) ≡ read_sheet b
      unfolding by_limit
      head_unknown u = headed (Err (fault 4 4)) (rw u)

      module _ (most rows : ℕ) (i : limit ≡ Some most) (c : rows ≡ row_count_of b) where
        pub head_many : most_rows < rows → Err (fault 5 5) ≡ read_sheet b
        unfolding by_limit
        head_many m = headed (Err (fault 5 5)) (rw i (simp (lt-leb (row_count_of b) most_rows (rw c at m))))

        pub head_rows : (r : Result ℕ Fault) → rows ≤ most_rows → r ≡ rows_from b most rows 7 → r ≡ read_sheet b
        unfolding by_limit
        head_rows r m q = headed r (q ∙ rw (i, c) (simp (le-leb (row_count_of b) most_rows (rw c at m))))
