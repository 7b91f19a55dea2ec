-- The jumps are filled, all passes made, and every end looked at.
use borrow.Author.Rules.{rules}
use Rattle.wiring.proofs.Answers.{tested_short, tested_there, tested_looped, tested_fine}
use Rattle.wiring.proofs.testing.test_wires.Goals as goal

pub returns-then-not-fill_jumps : goal.returns-then-not-fill_jumps
returns-then-not-fill_jumps c = search tested_short

pub lead_out-requires : goal.lead_out-requires
lead_out-requires c = (search rules, search tested_there)

pub returns-then-not-lead_out : goal.returns-then-not-lead_out
returns-then-not-lead_out c = search tested_looped

pub returns : goal.returns
returns c = search tested_fine
