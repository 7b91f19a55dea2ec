-- The head and the rows so far are so long.
use borrow.Author.Rules.{rules}
use Rattle.keywriter.proofs.Whole.{measured_none, measured_more, measured_all, measured_few}
use Rattle.keywriter.proofs.sheets.sheet_length.Goals as goal

pub loop-i-init : goal.loop-i-init
loop-i-init c = (search measured_none, search rules)

pub loop-i-preserved : goal.loop-i-preserved
loop-i-preserved c = (search measured_more, search rules)

pub returns : goal.returns
returns c = (search measured_all, search measured_few)
