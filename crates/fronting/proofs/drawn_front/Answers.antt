-- The bytes and inputs first, then the wires.
use borrow.Author.Rules.{rules}
use Rattle.sheet.proofs.Handed.{handed_on}
use Rattle.fronting.proofs.Fronts.{front_stays, front_passed, front_told}
use Rattle.fronting.proofs.drawn_front.Goals as goal

pub wires_told-requires : goal.wires_told-requires
wires_told-requires c = (search (front_passed, c.in_ok-rows.was), search rules, search rules)

pub returns-in_err-rows : goal.returns-in_err-rows
returns-in_err-rows c = rw (handed_on _ _ c.from_residual.ensures.1) (search (front_stays, c.in_err-rows.was))

pub returns : goal.returns
returns c = search (front_told, c.in_ok-rows.was)
