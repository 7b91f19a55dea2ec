-- The first rows are placed.
use Rattle.std.proofs.Common.{◌∙◌, rules}
use Rattle.rounds.proofs.Placing.{round_begin}
use Rattle.refining.proofs.Walks.{rows_placed}
use Rattle.refining.proofs.round.refine_all.Goals as goal

pub loop-u-init : goal.loop-u-init
loop-u-init c = (search round_begin, search rules, search rules, search rules)

pub loop-u-preserved : goal.loop-u-preserved
loop-u-preserved c = let placed = c.place_row-more in let held = c.loop-u.invariant in (placed.ensures, placed.auto.new ∙ held.1, placed.auto.links ∙ held.2, held.3)

pub returns : goal.returns
returns c = search rows_placed
