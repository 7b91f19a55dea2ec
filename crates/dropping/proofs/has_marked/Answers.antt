-- Some input is marked, or none is.
use Rattle.std.proofs.Common.{rules}
use Rattle.std.proofs.iter.runs.Sources.{ranges}
use Rattle.rules.proofs.Answers.{said_yes, said_no}
use Rattle.dropping.proofs.Looks.{seen_told}
use Rattle.dropping.proofs.has_marked.Goals as goal

pub returns : goal.returns
returns c = seen_told _ _ _ _ _ c.count_of-count.ensures _ (λ e. search (rules, ranges, said_yes)) (λ e j i q h. search (rules, ranges, said_no))
