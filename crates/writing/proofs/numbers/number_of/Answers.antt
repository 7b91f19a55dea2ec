-- A number has 16 bits.
use Rattle.writing.proofs.Counts.{number_read}
use Rattle.writing.proofs.numbers.number_of.Goals as goal

pub returns : goal.returns
returns c = search number_read
