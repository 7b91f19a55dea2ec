-- One law for each way through the two tests.
use borrow.Author.Rules.{rules}
use Rattle.counts.proofs.Clamping.{clamp_low, clamp_high, clamp_asked, clamp_given}
use Rattle.counts.proofs.exact.clamp.Goals as goal

pub returns-then-x-ltminus2147483648 : goal.returns-then-x-ltminus2147483648
returns-then-x-ltminus2147483648 c = (search clamp_low, search rules)

pub returns-then-x-gt2147483647 : goal.returns-then-x-gt2147483647
returns-then-x-gt2147483647 c = (search clamp_high, search rules)

pub narrow-requires : goal.narrow-requires
narrow-requires c = search clamp_asked

pub returns : goal.returns
returns c = (search clamp_given, search rules)
