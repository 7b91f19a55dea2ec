use Rattle.writing.proofs.Putting.{Putting}
use Rattle.writing.proofs.puts.put_rows.Given as goal

abbrev pub invariant-loop-u : goal.invariant-loop-u
invariant-loop-u l = Putting l.most l.stored l.bytes l.table l.cls l.initial.store l.n l.store l.u
