-- A store has at most 1,024 rows.
use Rattle.std.proofs.Common.{arith}
use Rattle.classes.proofs.Lone.{lone_few}
use Rattle.widening.proofs.look.distinct.Goals as goal

pub all_distinct-requires-clause-fits : goal.all_distinct-requires-clause-fits
all_distinct-requires-clause-fits c = omega (arith, lone_few _ _ _ c.requires.shaped c.requires.counted)
