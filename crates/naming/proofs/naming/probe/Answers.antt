-- The slots before are taken by rows with other signatures.
use borrow.Author.Rules.{rules}
use Rattle.naming.proofs.Names.{probed_none, probed_all, slot_inside, met_free, holder_row, met_same, probed_more}
use Rattle.naming.proofs.naming.probe.Goals as goal

pub loop-k-init : goal.loop-k-init
loop-k-init c = search probed_none

pub entry-h-requires : goal.entry-h-requires
entry-h-requires c = search slot_inside

pub returns-then-h-eq0 : goal.returns-then-h-eq0
returns-then-h-eq0 c = search met_free

pub name_signature-requires : goal.name_signature-requires
name_signature-requires c = (search rules, (search holder_row, search rules))

pub returns-then-same_signature : goal.returns-then-same_signature
returns-then-same_signature c = search met_same

pub loop-k-preserved : goal.loop-k-preserved
loop-k-preserved c = search probed_more

pub returns : goal.returns
returns c = search probed_all
