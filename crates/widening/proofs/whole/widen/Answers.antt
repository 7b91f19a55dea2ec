-- The old store first, then the target.
use borrow.Author.Rules.{rules}
use Rattle.widening.proofs.Answering.{told_number, told_sound}
use Rattle.widening.proofs.whole.widen.Goals as goal

pub widen_sound-requires : goal.widen_sound-requires
widen_sound-requires c = (search rules, search rules, search told_sound)

pub returns-in-Err : goal.returns-in-Err
returns-in-Err c = search told_number
