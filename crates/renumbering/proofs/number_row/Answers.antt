-- A row marked; a class with a number; a class met first.
use Rattle.renumbering.proofs.Giving.{told_gone, told_known, told_new}
use Rattle.renumbering.proofs.number_row.Goals as goal

pub returns-then-list-u : goal.returns-then-list-u
returns-then-list-u c = search told_gone

pub returns-then-x-ne0 : goal.returns-then-x-ne0
returns-then-x-ne0 c = search told_known

pub returns : goal.returns
returns c = search told_new
