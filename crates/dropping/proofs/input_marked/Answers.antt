-- The input's entry is held against the mark.
use Rattle.dropping.proofs.Looks.{input_told}
use Rattle.dropping.proofs.input_marked.Goals as goal

pub returns : goal.returns
returns c = search input_told
