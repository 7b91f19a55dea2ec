-- The new ones of the rows so far are put.
use Rattle.writing.proofs.Putting.{putting_none, putting_of, putting_roomy, putting_more, putting_all, putting_seen}
use Rattle.writing.proofs.puts.put_rows.Goals as goal

pub loop-u-init : goal.loop-u-init
loop-u-init c = search putting_none

pub put_one-requires-clause-seen : goal.put_one-requires-clause-seen
put_one-requires-clause-seen c = search putting_seen

pub put_one-requires-clause-of_sheet : goal.put_one-requires-clause-of_sheet
put_one-requires-clause-of_sheet c = search putting_of

pub put_one-requires-clause-roomy : goal.put_one-requires-clause-roomy
put_one-requires-clause-roomy c = search putting_roomy

pub loop-u-preserved : goal.loop-u-preserved
loop-u-preserved c = search putting_more

pub returns : goal.returns
returns c = search putting_all
