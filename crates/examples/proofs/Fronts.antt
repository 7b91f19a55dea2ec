-- What the front of an insert answers, reckoned: the sheet's number of 3, 4, 5, 19 and 6 with its place, or its rows.
use Prim.Native.Nat.{ℕ}
use mathlib.Core.Path.{◌≡◌, refl}
use mathlib.Core.Bool.{true, false}
use mathlib.Core.List.{List}
use Rattle.std.specs.Prelude.{Option, Some, None, Result, Ok, Err}
use Rattle.sheet.specs.Format.{store_numbers}
use Rattle.sheet.specs.Read.{fault, read_sheet}
use Rattle.sheet.specs.Points.{rows_point}
use Rattle.sheet.specs.declared.fault.Fault.{Fault}
use Rattle.sheet.specs.Front.{sheet_list, Astray, FrontSays}
use Rattle.sheet.proofs.Fronts.{read_refused, points_somewhere, points_astray, astray_six, astray_names}

-- an input points nowhere
unfoldable pub front_astray : ℕ → Option ℕ → Result ℕ Fault
front_astray at None = Err (fault 6 at)
front_astray at (Some named) = Err (fault 19 0)

unfoldable pub front_pointed : List ℕ → ℕ → Option ℕ → Result ℕ Fault
front_pointed b rows None = Ok rows
front_pointed b rows (Some at) = front_astray at (rows_point b store_numbers 0 rows 7)

unfoldable pub front_read : List ℕ → Result ℕ Fault → Result ℕ Fault
front_read b (Err f) = Err f
front_read b (Ok rows) = front_pointed b rows (rows_point b rows 0 rows 7)

unfoldable pub front_of : List ℕ → Result ℕ Fault
front_of b = front_read b (read_sheet b)

pub front_reckoned : (b : List ℕ) → FrontSays (sheet_list b) b 0 (front_of b)
unfolding front_of front_read front_pointed front_astray
front_reckoned b = go (read_sheet b) refl
  where
    astray : (rows at : ℕ) → Astray b rows at → (p : Option ℕ) → p ≡ rows_point b store_numbers 0 rows 7 → FrontSays (sheet_list b) b 0 (front_astray at p)
    astray rows at x None t = astray_six b rows at x None t false refl refl
    astray rows at x (Some named) t = astray_names b rows at x (Some named) t true refl refl

    pointed : (rows : ℕ) → Ok rows ≡ read_sheet b → (p : Option ℕ) → p ≡ rows_point b rows 0 rows 7 → FrontSays (sheet_list b) b 0 (front_pointed b rows p)
    pointed rows e None t = points_somewhere b (Ok rows) e rows refl None t refl
    pointed rows e (Some at) t =
        astray rows at (points_astray b (Ok rows) e rows refl (Some at) t at refl) (rows_point b store_numbers 0 rows 7) refl

    go : (r : Result ℕ Fault) → r ≡ read_sheet b → FrontSays (sheet_list b) b 0 (front_read b r)
    go (Err f) e = read_refused b (Err f) e f refl
    go (Ok rows) e = pointed rows e (rows_point b rows 0 rows 7) refl
