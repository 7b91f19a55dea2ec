-- A quotient is no greater than what is divided.
use borrow.Author.Rules.{rules}
use Rattle.counts.proofs.Reading.{quot_asked, quot_given, quot_back}
use Rattle.counts.proofs.exact.over.Goals as goal

pub nonzero_div-result : goal.nonzero_div-result
nonzero_div-result c = (search rules, search quot_asked)

pub returns : goal.returns
returns c = (search quot_given, search quot_back)
