-- Memory for classes and their numbers.
use borrow.Author.Rules.{rules}
use Rattle.mender.proofs.Outcomes.{zeros_made}
use Rattle.mender.proofs.mending.mend_rows.Goals as goal

pub mend_with-requires : goal.mend_with-requires
mend_with-requires c = (search rules, search rules, search zeros_made)
