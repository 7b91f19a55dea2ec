use Rattle.requests.proofs.Signed.{FillingSigned}
use Rattle.requests.proofs.run.signed_in.Given as goal

abbrev pub invariant-loop-i : goal.invariant-loop-i
invariant-loop-i l = FillingSigned l.ask l.run l.numbers l.i
