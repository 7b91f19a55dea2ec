-- As much is lent as is asked for.
use native.Mathlib.Omega.{arith}
use Rattle.chains.proofs.main.Goals as goal

pub answer-requires : goal.answer-requires
answer-requires c = (omega arith, omega arith)
