-- Version 1 has its limit; no other is known.
use borrow.Author.Tests.{eq-eqb, ne_eqb}
use Rattle.sheet.specs.Read.{limit_of}
use Rattle.sheet.proofs.version.limit_of.Goals as goal

pub returns-then-version-eq1 : goal.returns-then-version-eq1
unfolding limit_of
returns-then-version-eq1 c = simp (eq-eqb _ _ c.if-version-eq1.true)

pub returns-else-version-eq1 : goal.returns-else-version-eq1
unfolding limit_of
returns-else-version-eq1 c = simp (ne_eqb _ _ c.if-version-eq1.false)
