-- The inputs before are named.
use borrow.Author.Rules.{rules}
use Rattle.naming.proofs.Entries.{looked_none, looked_inside, looked_more, looked_bare, looked_all}
use Rattle.naming.proofs.naming.ready.Goals as goal

pub loop-j-init : goal.loop-j-init
loop-j-init c = search looked_none

pub at_input-requires : goal.at_input-requires
at_input-requires c = (search looked_inside, search rules, search rules)

pub returns-then-at_input-ne1 : goal.returns-then-at_input-ne1
returns-then-at_input-ne1 c = search looked_bare

pub loop-j-preserved : goal.loop-j-preserved
loop-j-preserved c = looked_more _ _ _ _ _ _ c.loop-j.invariant _ c.at_input.ensures.0 (search rules)

pub returns : goal.returns
returns c = search looked_all
