-- Below 0 a number is one further from it than from -1.
use Rattle.printing.proofs.Sizes.{rest_fits, rest_cast, size_fits, size_below, size_cast, size_above}
use Rattle.printing.proofs.size.Goals as goal

pub overflow_sub-result : goal.overflow_sub-result
overflow_sub-result c = search rest_fits

pub overflow_cast-result : goal.overflow_cast-result
overflow_cast-result c = rest_cast c.ranges.n c.if-n-lt0.true

pub overflow_add-result : goal.overflow_add-result
overflow_add-result c = search size_fits

pub returns-then-n-lt0 : goal.returns-then-n-lt0
returns-then-n-lt0 c = search size_below

pub overflow_cast-result-2 : goal.overflow_cast-result-2
overflow_cast-result-2 c = size_cast c.ranges.n c.if-n-lt0.false

pub returns : goal.returns
returns c = search size_above
