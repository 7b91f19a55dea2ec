-- A row that is no wire stays.
use borrow.Author.Rules.{rules}
use Rattle.wiring.proofs.Placing.{wire_is, plain_to}
use Rattle.wiring.proofs.first.row_leads.Goals as goal

pub wire_leads-requires-clause-placed : goal.wire_leads-requires-clause-placed
wire_leads-requires-clause-placed c = (search rules, search rules)

pub wire_leads-requires-clause-wire : goal.wire_leads-requires-clause-wire
wire_leads-requires-clause-wire c = search wire_is

pub returns : goal.returns
returns c = search plain_to
