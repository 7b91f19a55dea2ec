use mathlib.Core.Path.{◌≡◌}
use lib.ListN.{length}
use Rattle.ticking.specs.Memory.{graph_of}
use Rattle.ticking.proofs.Runs.{Going}
use Rattle.ticking.proofs.run.run_ticks.Given as goal

abbrev pub invariant-loop-t : goal.invariant-loop-t
invariant-loop-t l = Going (graph_of l.chain) l.chain.n l.row l.chain.queue.now l.chain.filled l.channels l.values l.initial.output l.first l.second l.output l.t
    × (length l.first ≡ length l.initial.first) × (length l.second ≡ length l.initial.second)
