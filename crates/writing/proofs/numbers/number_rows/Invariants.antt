use Rattle.writing.proofs.Counts.{Counting}
use Rattle.writing.proofs.numbers.number_rows.Given as goal

abbrev pub invariant-loop-u : goal.invariant-loop-u
invariant-loop-u l = Counting l.cls l.n l.initial.numbers l.numbers l.count l.u
