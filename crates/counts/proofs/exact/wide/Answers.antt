-- A number of 32 bits is read back in 64.
use Rattle.counts.proofs.Reading.{wide_asked, wide_given, wide_fits}
use Rattle.counts.proofs.exact.wide.Goals as goal

pub overflow_cast-result : goal.overflow_cast-result
overflow_cast-result c = search wide_asked

pub returns : goal.returns
returns c = (search wide_given, search wide_fits)
