use Rattle.ticking.specs.Memory.{graph_of}
use Rattle.ticking.proofs.Reading.{Gathering}
use Rattle.ticking.proofs.inputs.inputs_now.Given as goal

abbrev pub invariant-loop-j : goal.invariant-loop-j
invariant-loop-j l = Gathering (graph_of l.chain) l.values l.u l.found l.j
