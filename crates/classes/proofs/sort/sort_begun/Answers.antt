-- Rows are named only where the first rounds left some that moved.
use Rattle.std.proofs.Common.{rules}
use Rattle.classes.proofs.Stages.{rounds_done, rounds_ready, then_sorted}
use Rattle.classes.proofs.sort.sort_begun.Goals as goal

pub returns-in_default : goal.returns-in_default
returns-in_default c = search rounds_done

pub stages-requires : goal.stages-requires
stages-requires c = (rounds_ready _ _ _ _ _ _ _ c.some_rounds.ensures _ c.in-Some.is, search rules)

pub returns : goal.returns
returns c = search then_sorted
