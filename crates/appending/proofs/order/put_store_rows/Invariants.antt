use lib.ListN.{length, take}
use mathlib.Core.Path.{◌≡◌}
use Rattle.walks.specs.Member.{Member}
use Rattle.appending.specs.Arranged.{Arranging}
use Rattle.appending.proofs.order.put_store_rows.Given as goal

abbrev pub invariant-loop-x : goal.invariant-loop-x
invariant-loop-x l = Arranging (Member (take l.filled l.queue)) l.stored l.rows l.order l.places l.x l.k × (length l.order ≡ length l.initial.order) × (length l.places ≡ length l.initial.places)
