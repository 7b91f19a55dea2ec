use Rattle.sheet.proofs.Filling.{PlacesSoFar}
use Rattle.sheet.proofs.places.fill_places.Given as goal

abbrev pub invariant-loop-i : goal.invariant-loop-i
invariant-loop-i l = PlacesSoFar l.b l.rows l.initial.table l.table l.at l.i
