-- The front part of the table says where each row starts, and the jumps where its wires lead.
use borrow.Author.Rules.{rules}
use mathlib.Core.Path.{sym}
use lib.Seq.{length-take-le}
use Rattle.fronting.proofs.Fronts.{passed_end, passed_low, passed_fit, passed_placed, passed_jumps, wires_short, wires_looped, wires_fine}
use Rattle.fronting.proofs.wires_told.Goals as goal

pub fill_places-requires : goal.fill_places-requires
fill_places-requires c = (search passed_end, search passed_low, search passed_fit)

pub slice_bounds-test_wires-end-2 : goal.slice_bounds-test_wires-end-2
slice_bounds-test_wires-end-2 c = sym (length-take-le _ _ (search rules))

pub test_wires-requires : goal.test_wires-requires
test_wires-requires c = (search passed_placed, search passed_jumps)

pub returns-in-Err-Short : goal.returns-in-Err-Short
returns-in-Err-Short c = rw c.new.ensures (search wires_short)

pub returns-in-Err-Looped : goal.returns-in-Err-Looped
returns-in-Err-Looped c = rw c.new-in-Err-Looped.ensures (search wires_looped)

pub returns-in-Ok : goal.returns-in-Ok
returns-in-Ok c = search wires_fine
