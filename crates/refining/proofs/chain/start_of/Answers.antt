-- A head of a round before begins no chain.
use Rattle.std.proofs.Common.{rules}
use Rattle.refining.proofs.Walks.{start_stale, start_new}
use Rattle.refining.proofs.chain.start_of.Goals as goal

pub returns-then-entry-h : goal.returns-then-entry-h
returns-then-entry-h c = (search start_stale, search rules)

pub returns : goal.returns
returns c = (search start_new, search rules)
