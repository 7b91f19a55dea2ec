-- The classes found so far stand in one number.
use native.Mathlib.Omega.{arith}
use Rattle.signatures.proofs.Values.{packing_none, packing_small, packing_more, packing_all}
use Rattle.signatures.proofs.signature.classes_of.Goals as goal

pub loop-j-init : goal.loop-j-init
loop-j-init c = search packing_none

pub overflow_mul-found : goal.overflow_mul-found
overflow_mul-found c = omega (arith, packing_small _ _ _ _ c.loop-j.invariant c.loop-j-test.true)

pub entry-requires : goal.entry-requires
entry-requires c = c.requires.each _ c.loop-j-test.true

pub overflow_add-found : goal.overflow_add-found
overflow_add-found c = omega (arith, packing_small _ _ _ _ c.loop-j.invariant c.loop-j-test.true, c.entry.ensures.1)

pub loop-j-preserved : goal.loop-j-preserved
loop-j-preserved c = search packing_more

pub returns : goal.returns
returns c = search packing_all
