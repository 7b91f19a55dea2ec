-- Some input is astray, or none is.
use Rattle.std.proofs.Common.{rules}
use Rattle.std.proofs.iter.runs.Sources.{ranges}
use Rattle.spoiling.proofs.Faults.{astray_told}
use Rattle.spoiling.proofs.inputs_astray.Goals as goal

pub returns : goal.returns
returns c = astray_told _ _ _ _ _ c.count_of-count.ensures _ (λ e. search (rules, ranges)) (λ e j i q h. search (rules, ranges))
