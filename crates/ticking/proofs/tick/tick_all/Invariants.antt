use Rattle.ticking.specs.Memory.{graph_of}
use Rattle.ticking.proofs.Ticks.{Ticking}
use Rattle.ticking.proofs.tick.tick_all.Given as goal

abbrev pub invariant-loop-k : goal.invariant-loop-k
invariant-loop-k l = Ticking (graph_of l.chain) l.chain.n l.chain.queue.now l.chain.filled l.channels l.before l.initial.values l.values l.k
