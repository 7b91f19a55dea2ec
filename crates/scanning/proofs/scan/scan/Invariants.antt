use Prim.Native.Nat.{◌≤◌}
use mathlib.Core.Path.{◌≡◌}
use lib.ListN.{length}
use Rattle.rows.specs.Joined.{source_of}
use Rattle.rows.specs.View.{view_rows}
use Rattle.scanning.specs.Scanned.{ScanTo}
use Rattle.scanning.proofs.scan.scan.Given as goal

abbrev pub invariant-loop-u : goal.invariant-loop-u
invariant-loop-u l = ScanTo (source_of l.view) l.view.table.now l.initial.cls l.initial.marks l.initial.links l.cls l.marks l.links l.u l.some × (length l.cls ≡ length l.initial.cls) × (length l.marks ≡ length l.initial.marks) × (length l.links ≡ length l.initial.links) × (l.n ≡ view_rows (source_of l.view) l.view.table.now) × (l.u ≤ l.n)
