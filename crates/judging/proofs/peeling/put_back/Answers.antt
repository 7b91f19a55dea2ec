-- The entries so far have moved up.
use borrow.Author.Rules.{rules}
use Rattle.judging.proofs.Sifting.{up_none, up_there, up_next, up_more, up_last, up_all}
use Rattle.judging.proofs.peeling.put_back.Goals as goal

pub loop-i-init : goal.loop-i-init
loop-i-init c = (search up_none, search rules)

pub entry-next-requires : goal.entry-next-requires
entry-next-requires c = search up_next

pub put_entry-requires : goal.put_entry-requires
put_entry-requires c = (search up_there, search rules)

pub loop-i-preserved : goal.loop-i-preserved
loop-i-preserved c = (search up_more, search rules)

pub put_entry-requires-2 : goal.put_entry-requires-2
put_entry-requires-2 c = (search up_last, search rules)

pub returns : goal.returns
returns c = search up_all
