use Rattle.rows.specs.Joined.{source_of}
use Rattle.keywriter.proofs.Whole.{Measured}
use Rattle.appending.specs.Asked.{rows_of}
use Rattle.appending.proofs.result.result_length.Given as goal

abbrev pub invariant-loop-i : goal.invariant-loop-i
invariant-loop-i l = Measured (rows_of (source_of l.view) l.order l.total) l.need l.i
