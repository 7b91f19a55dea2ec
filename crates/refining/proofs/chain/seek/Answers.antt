-- The row stands at a new head of its chain, and those passed do not go with it.
use Rattle.refining.proofs.Walks.{seek_row, seek_link, sought_here, seek_further, seek_nearer, sought_none}
use Rattle.refining.proofs.chain.seek.Goals as goal

pub goes_with-requires-clause-h_bound : goal.goes_with-requires-clause-h_bound
goes_with-requires-clause-h_bound c = search seek_row

pub returns-then-goes_with : goal.returns-then-goes_with
returns-then-goes_with c = search sought_here

pub entry-h-requires : goal.entry-h-requires
entry-h-requires c = search seek_link

pub loop-h-smaller : goal.loop-h-smaller
loop-h-smaller c = search seek_nearer

pub loop-h-preserved : goal.loop-h-preserved
loop-h-preserved c = search seek_further

pub returns : goal.returns
returns c = search sought_none
