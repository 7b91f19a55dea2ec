use borrow.Author.Rules.{rules}
use Rattle.answering.proofs.Answering.{run_said}
use Rattle.answering.proofs.run_runs.run_runs.Goals as goal

pub returns-clause-run_says : goal.returns-clause-run_says
returns-clause-run_says c = (search run_said)

pub returns-clause-words_after : goal.returns-clause-words_after
returns-clause-words_after c = (search rules, search rules)
