use Rattle.classes.proofs.sort.heads_of.Given as goal

-- Row after row.

abbrev pub invariant-loop-u : goal.invariant-loop-u
invariant-loop-u l = Unit {0}
