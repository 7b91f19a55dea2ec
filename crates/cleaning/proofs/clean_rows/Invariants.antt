use Rattle.cleaning.specs.Cleaned.{RowsCleaned}
use Rattle.cleaning.proofs.clean_rows.Given as goal

abbrev pub invariant-loop-u : goal.invariant-loop-u
invariant-loop-u l = RowsCleaned l.most l.n l.list l.initial.store l.store l.u
