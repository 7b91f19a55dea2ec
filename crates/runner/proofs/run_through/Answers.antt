-- Both arrays begin as zeros.
use borrow.Author.Rules.{rules}
use Rattle.ticking.proofs.Reading.{blank_new}
use Rattle.runner.proofs.Outcomes.{chain_lined, chain_stands}
use Rattle.runner.proofs.run_through.Goals as goal

pub run_ticks-requires-clause-lined : goal.run_ticks-requires-clause-lined
run_ticks-requires-clause-lined c = (search chain_lined, search chain_stands)

pub run_ticks-requires-clause-channels_nonzero : goal.run_ticks-requires-clause-channels_nonzero
run_ticks-requires-clause-channels_nonzero c = (search rules, search rules)

pub run_ticks-requires-clause-n_in_bounds : goal.run_ticks-requires-clause-n_in_bounds
run_ticks-requires-clause-n_in_bounds c = (search rules, search rules, search blank_new)
