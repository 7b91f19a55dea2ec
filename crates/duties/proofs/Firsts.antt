-- Store and sheet together, sorted: each row of the store is the first with its tree.
use Prim.Native.Nat.{ℕ, ◌+◌, ◌<◌}
use native.Mathlib.Omega.{arith}
use mathlib.Core.Path.{◌≡◌}
use mathlib.Core.List.{List}
use lib.ListN.{length}
use Rattle.rules.specs.Lists.{firsts}
use Rattle.rules.proofs.Lists.{firsts_length}
use Rattle.trees.specs.Sorting.{Sorted}
use Rattle.trees.proofs.Agreement.{same_sym, same_trans}
use Rattle.sheet.specs.Format.{row_count_of}
use Rattle.sheet.specs.Points.{PointsNowhere}
use Rattle.sheet.specs.Refusals.{Readable}
use Rattle.store.specs.Layout.{in_use, room}
use Rattle.store.specs.Sound.{Sound}
use Rattle.rows.specs.Joined.{source, spot}
use Rattle.rows.specs.Named.{ShortWire, SheetWireLoop}
use Rattle.rows.specs.View.{Viewed}
use Rattle.rows.proofs.View.{store_same}
use Rattle.rows.proofs.Views.{view_both}
use Rattle.numbering.proofs.Quotient.{class_low}
use Rattle.fronting.specs.Together.{together, all_rows}
use Rattle.inserting.specs.Insert.{InsertDone}

-- a sound store and a sheet that can be read beside it
pub record Joint (w b : List ℕ) : Type 0 where
  pub sound : Sound room w
  pub readable : Readable b
  pub leads : PointsNowhere b 0 → ⊥
  pub straight : ShortWire b → ⊥
  pub unlooped : SheetWireLoop b → ⊥

pub done_joint : {w b answers w' answers' : List ℕ} {added : ℕ} → InsertDone w b answers w' answers' added → Joint w b
done_joint d = record { sound = d.sound; readable = d.readable; leads = d.leads; straight = d.straight; unlooped = d.unlooped }

-- where each row of the sheet is read
abbrev pub spots : List ℕ → List ℕ → List ℕ
spots w b = firsts (spot (source room w (in_use w) b)) (row_count_of b)

pub all_rows_lem : (w b : List ℕ) → all_rows w b ≡ in_use w + length (spots w b)
all_rows_lem w b = omega (arith, firsts_length (spot (source room w (in_use w) b)) (row_count_of b))

module _ {w b : List ℕ} (k : Joint w b) where
  pub view_of : Viewed (source room w (in_use w) b) (spots w b)
  view_of = view_both (omega arith) k.sound.shaped k.readable k.leads k.straight k.unlooped

  pub own_class : {class : ℕ → ℕ} → Sorted (together w b) (all_rows w b) class → (u : ℕ) → u < in_use w → class u ≡ u
  own_class {class} sorted u h =
      let l = class_low sorted u (omega arith) in
      let m : class u < in_use w = omega arith in
      k.sound.distinct.apart (class u) u m h
      (same_trans (same_sym (store_same view_of (class u) m)) (same_trans (sorted.has u (omega arith)) (store_same view_of u h)))
