use Rattle.rows.specs.Joined.{source_of}
use Rattle.rules.specs.Writes.{Wrote}
use Rattle.keys.specs.Bytes.{rows_bytes}
use Rattle.appending.specs.Asked.{rows_of}
use Rattle.appending.proofs.result.write_rows.Given as goal

abbrev pub invariant-loop-k : goal.invariant-loop-k
invariant-loop-k l = Wrote l.initial.out l.at (rows_bytes (rows_of (source_of l.view) l.order l.total) l.k) l.out l.to
