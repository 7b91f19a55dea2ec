use Rattle.requests.specs.Runs.{word_at}
use Rattle.requests.proofs.Runs.{Filling}
use Rattle.requests.proofs.run.words_in.Given as goal

abbrev pub invariant-loop-i : goal.invariant-loop-i
invariant-loop-i l = Filling l.initial.words (word_at l.ask l.run.at) l.run.count l.words l.i
