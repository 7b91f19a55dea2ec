use Rattle.rows.specs.Joined.{source_of, joined}
use Rattle.naming.proofs.Entries.{InputsLooked}
use Rattle.naming.proofs.naming.ready.Given as goal

abbrev pub invariant-loop-j : goal.invariant-loop-j
invariant-loop-j l = InputsLooked (joined (source_of l.view)) l.marks l.inputs l.count l.u l.j
