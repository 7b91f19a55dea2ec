-- The entries so far say where their rows are read, the others where they start.
use borrow.Author.Rules.{rules}
use Rattle.wiring.proofs.Spotting.{skipped_none, skipped_there, skipped_row, skipped_more, skipped_all}
use Rattle.wiring.proofs.skip.skip.Goals as goal

pub loop-i-init : goal.loop-i-init
loop-i-init c = search skipped_none

pub spot_at-at-requires : goal.spot_at-at-requires
spot_at-at-requires c = (search skipped_there, search skipped_row)

pub put_entry-requires : goal.put_entry-requires
put_entry-requires c = (search skipped_row, search rules)

pub loop-i-preserved : goal.loop-i-preserved
loop-i-preserved c = search skipped_more

pub returns : goal.returns
returns c = search skipped_all
