use Rattle.sheet.proofs.Reading.{read_none, read_more, read_refused, read_whole, read_left}
use Rattle.sheet.proofs.reader.read_rows.Goals as goal

pub loop-i-init : goal.loop-i-init
loop-i-init c = search read_none

pub returns-in_default : goal.returns-in_default
returns-in_default c = rw c.new.ensures (search read_refused)

pub loop-i-preserved : goal.loop-i-preserved
loop-i-preserved c = search read_more

pub returns-then-at-b : goal.returns-then-at-b
returns-then-at-b c = search read_whole

pub returns-else-at-b : goal.returns-else-at-b
returns-else-at-b c = rw c.new-else-at-b.ensures (search read_left)
