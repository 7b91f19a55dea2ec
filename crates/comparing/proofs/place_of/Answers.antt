-- A used input has a mark.
use mathlib.Core.Path.{◌∙◌, ap}
use lib.ListN.{get_or}
use Rattle.comparing.proofs.Rowwise.{marked_input}
use Rattle.comparing.proofs.place_of.Goals as goal

pub entry-requires : goal.entry-requires
entry-requires c = search marked_input

pub returns : goal.returns
returns c = c.entry.ensures.0 ∙ ap (λ x. get_or c.args.marks.now x 0) c.input_of.ensures
