-- A jump that ends in a wire is marked.
use Rattle.jumping.proofs.Passes.{end_told, end_there, end_is, end_not}
use Rattle.jumping.proofs.mark_end.Goals as goal

pub returns-then-x : goal.returns-then-x
returns-then-x c = search end_told

pub wire_at-requires : goal.wire_at-requires
wire_at-requires c = search end_there

pub returns-then-wire_at : goal.returns-then-wire_at
returns-then-wire_at c = search end_is

pub returns-else-wire_at : goal.returns-else-wire_at
returns-else-wire_at c = search end_not
