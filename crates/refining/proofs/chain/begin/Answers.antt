-- The entry of the row is written first, then that of the bucket.
use Rattle.std.proofs.Common.{rules}
use Rattle.refining.proofs.Walks.{links_begun}
use Rattle.refining.proofs.chain.begin.Goals as goal

pub returns : goal.returns
returns c = (search rules, search links_begun)
