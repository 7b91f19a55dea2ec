-- In a sheet without store numbers a row leads to rows of the sheet only, and so do its wires.
use Prim.Native.Nat.{ℕ, zero, suc, ◌+◌, ◌-◌, ◌≤◌, ◌<◌}
use native.Mathlib.Omega.{arith}
use mathlib.Core.Path.{◌≡◌, ◌∙◌}
use mathlib.Core.Bool.{Bool}
use Rattle.sheet.specs.Format.{row_count_of, input_at}
use Rattle.sheet.specs.Points.{PointsNowhere}
use Rattle.sheet.proofs.Within.{input_within}
use Rattle.wires.specs.Wires.{follow, most_wires, Wire, WiresFit}
use Rattle.wires.proofs.Following.{Told, told_wire, told_plain, told, follow_none, follow_wire, follow_plain, through_plain}
use Rattle.rows.specs.Joined.{Source, row_place, drawn, end_of}
use Rattle.rows.specs.View.{Laid}
use Rattle.rows.proofs.Joined.{sheet_count, sheet_input}
use Rattle.rows.proofs.Leads.{leads_sheet}
use Rattle.rows.proofs.View.{laid_closed}

module _ {s : Source} (v : Laid s (row_count_of s.bytes)) (leads : PointsNowhere s.bytes 0 → ⊥) where
  pub own_input : (u j : ℕ) → s.stored ≤ u → u < s.stored + row_count_of s.bytes → j < (drawn s).count u → (drawn s).input u j ≡ s.stored + input_at s.bytes (row_place s u) j
  own_input u j h l c =
      let x = input_within s.bytes leads (u - s.stored) j (omega arith) (rw (sheet_count s u h) at c) in
      sheet_input s u h j ∙ leads_sheet s.stored (input_at s.bytes (row_place s u) j) (omega (arith, v.few))

  module _ (f : WiresFit (drawn s) (s.stored + row_count_of s.bytes)) where
    own_follow : (k u : ℕ) → s.stored ≤ u → u < s.stored + row_count_of s.bytes → s.stored ≤ follow (drawn s) k u
    own_follow zero u h l = rw (follow_none (drawn s) u) h
    own_follow (suc k) u h l = go (told (drawn s) u) (own_follow k ((drawn s).input u 0))
      where
        go : {t : Bool} → Told (drawn s) u t → (s.stored ≤ (drawn s).input u 0 → (drawn s).input u 0 < s.stored + row_count_of s.bytes → s.stored ≤ follow (drawn s) k ((drawn s).input u 0)) → s.stored ≤ follow (drawn s) (suc k) u
        go (told_wire w) ih =
            let one = f.one u l w in
            let c : 0 < (drawn s).count u = omega arith in
            rw (follow_wire (drawn s) k u w) (ih (omega (arith, own_input u 0 h l c)) ((laid_closed v).within u 0 l c))
        go (told_plain p) ih = rw (follow_plain (drawn s) (suc k) u p) h

    pub laid_own : (i : ℕ) → i < row_count_of s.bytes → s.stored ≤ end_of s i
    laid_own i h = own_follow most_wires (s.stored + i) (omega arith) (omega arith)

-- a row that is no wire is read where it starts
module _ (s : Source) (i : ℕ) (p : Wire (drawn s) (s.stored + i) → ⊥) where
  pub plain_end : end_of s i ≡ s.stored + i
  plain_end = through_plain (drawn s) (s.stored + i) p
