-- A dropped row, or the box's row read and trimmed.
use Rattle.cleaning.proofs.Boxes.{box_none, box_few, box_made}
use Rattle.cleaning.proofs.box_row.Goals as goal

pub returns-then-at : goal.returns-then-at
returns-then-at c = search box_none

pub trimmed-requires : goal.trimmed-requires
trimmed-requires c = search box_few

pub returns : goal.returns
returns c = search box_made
