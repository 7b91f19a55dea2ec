use Rattle.ticking.specs.Memory.{graph_of}
use Rattle.ticking.proofs.Straying.{NoneAstray}
use Rattle.ticking.proofs.channels.channels_there.Given as goal

abbrev pub invariant-loop-k : goal.invariant-loop-k
invariant-loop-k l = NoneAstray (graph_of l.chain) l.chain.queue.now l.chain.filled l.channels l.k
