use Prim.Native.Nat.{◌-◌}
use lib.ListN.{length}
use Rattle.listing.proofs.Running.{Running}
use Rattle.listing.proofs.walk.walk.Given as goal

abbrev pub invariant-sheets : goal.invariant-sheets
invariant-sheets l = Running l.bundle l.initial.store l.initial.answers l.initial.out l.store l.answers l.out l.used l.place l.at

abbrev pub decreases-sheets : goal.decreases-sheets
decreases-sheets l = length l.bundle - l.at
