-- The rows before are lowered.
use borrow.Author.Rules.{rules}
use mathlib.Core.Path.{◌∙◌}
use Rattle.hastening.proofs.Lowest.{lowered_none, lower_row, lower_mark, lower_few, key_inside, lowered_more, lowered_all}
use Rattle.hastening.proofs.lower.lower.Goals as goal

pub loop-u-init : goal.loop-u-init
loop-u-init c = (search lowered_none, search rules)

pub key_of-requires : goal.key_of-requires
key_of-requires c = (search lower_row, search lower_mark)

pub first_of-h-requires : goal.first_of-h-requires
first_of-h-requires c = (search key_inside, search lower_few)

pub put_entry-requires : goal.put_entry-requires
put_entry-requires c = (search lower_row, search rules)

pub loop-u-preserved : goal.loop-u-preserved
loop-u-preserved c =
    let held = c.loop-u.invariant in
    (search lowered_more, c.first_of-h.auto.links ∙ held.1)

pub returns : goal.returns
returns c = search lowered_all
