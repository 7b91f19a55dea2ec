-- A state for each row of the sheet, and a store without rows.
use borrow.Author.Rules.{rules}
use Rattle.strict.proofs.Judging.{alone_stated, alone_own}
use Rattle.strict.proofs.judge.judge_rows.Goals as goal

pub judge_view-requires-clause-tabled : goal.judge_view-requires-clause-tabled
judge_view-requires-clause-tabled c = (search rules, search rules)

pub judge_view-requires-clause-fact : goal.judge_view-requires-clause-fact
judge_view-requires-clause-fact c = (search alone_own, search alone_stated)
