-- The part starts where the bundle starts; its length is the next sheet's.
use native.Mathlib.Omega.{arith}
use mathlib.Core.Path.{refl, sym}
use lib.Seq.{length-take-le}
use Rattle.sheet.proofs.NextLength.{next_short, next_cut, next_whole_lem}
use Rattle.sheet.proofs.bundle.next_sheet.Goals as goal

pub returns-then-bundle-lt4 : goal.returns-then-bundle-lt4
returns-then-bundle-lt4 c =
    let b = c.args.bundle.now in
    record { bytes = rw (next_short b (omega arith)); place = refl }

pub returns-then-bundle-whole : goal.returns-then-bundle-whole
returns-then-bundle-whole c =
    let b = c.args.bundle.now in
    record { bytes = rw (next_cut b (omega arith) (omega arith)); place = refl }

pub slice_bounds-result-end-2 : goal.slice_bounds-result-end-2
slice_bounds-result-end-2 c = sym (length-take-le _ _ (omega arith))

pub returns : goal.returns
returns c =
    let b = c.args.bundle.now in
    record { bytes = rw (next_whole_lem b (omega arith) (omega arith), ← c.four-whole.ensures.0); place = refl }
