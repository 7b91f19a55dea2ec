-- The rows are moved, and the others freed.
use Rattle.gathering.proofs.Gathering.{gathered_free, gathered_all}
use Rattle.gathering.proofs.gather.Goals as goal

pub finish-requires : goal.finish-requires
finish-requires c = search gathered_free

pub returns : goal.returns
returns c = search gathered_all
