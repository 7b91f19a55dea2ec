-- The names found so far stand in one number.
use native.Mathlib.Omega.{arith}
use Rattle.naming.proofs.Entries.{names_none, names_small, names_more, names_all}
use Rattle.naming.proofs.naming.names_of.Goals as goal

pub loop-j-init : goal.loop-j-init
loop-j-init c = search names_none

pub overflow_mul-found : goal.overflow_mul-found
overflow_mul-found c = omega (arith, names_small _ _ _ _ _ c.loop-j.invariant c.loop-j-test.true)

pub overflow_add-found : goal.overflow_add-found
overflow_add-found c = omega (arith, names_small _ _ _ _ _ c.loop-j.invariant c.loop-j-test.true, c.at_input.ensures.1)

pub loop-j-preserved : goal.loop-j-preserved
loop-j-preserved c = search names_more

pub returns : goal.returns
returns c = search names_all
