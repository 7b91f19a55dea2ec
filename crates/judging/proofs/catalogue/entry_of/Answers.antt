-- The array is the catalogue.
use borrow.Author.Rules.{rules}
use Rattle.judging.proofs.Tables.{entry_listed}
use Rattle.judging.proofs.catalogue.entry_of.Goals as goal

pub returns : goal.returns
returns c = entry_listed c.args.operation (search rules)
