-- 17, 18, or the outputs.
use Rattle.runner.proofs.Outcomes.{run_no_trace, run_some, run_short, run_traced, run_all}
use Rattle.runner.proofs.run_chain.Goals as goal

pub returns-then-not-trace_fits : goal.returns-then-not-trace_fits
returns-then-not-trace_fits c = search run_no_trace

pub nonzero_div-values : goal.nonzero_div-values
nonzero_div-values c = search run_some

pub returns-then-output-values : goal.returns-then-output-values
returns-then-output-values c = search run_short

pub run_through-requires : goal.run_through-requires
run_through-requires c = search run_traced

pub returns : goal.returns
returns c = search run_all
