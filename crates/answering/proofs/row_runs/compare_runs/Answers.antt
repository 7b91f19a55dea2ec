use borrow.Author.Rules.{rules}
use Rattle.answering.proofs.Answering.{compare_said}
use Rattle.answering.proofs.row_runs.compare_runs.Goals as goal

pub returns-clause-compare_says : goal.returns-clause-compare_says
returns-clause-compare_says c = search compare_said

pub returns-clause-words_after : goal.returns-clause-words_after
returns-clause-words_after c = (search rules, search rules)
