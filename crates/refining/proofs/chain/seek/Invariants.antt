use Rattle.rows.specs.Joined.{source_of}
use Rattle.refining.specs.Seeking.{SeekingAt}
use Rattle.refining.proofs.chain.seek.Given as goal

abbrev pub invariant-loop-h : goal.invariant-loop-h
invariant-loop-h l = SeekingAt (source_of l.view) l.view.table.now l.cls l.new l.links l.s l.old l.u l.h

abbrev pub decreases-loop-h : goal.decreases-loop-h
decreases-loop-h l = l.h
