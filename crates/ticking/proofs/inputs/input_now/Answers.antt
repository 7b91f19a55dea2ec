-- An unused input word is 0, and row 0 is in use.
use borrow.Author.Rules.{rules}
use Rattle.walker.proofs.Visits.{row_there}
use Rattle.ticking.proofs.Reading.{word_there, input_past, input_none, input_there}
use Rattle.ticking.proofs.inputs.input_now.Goals as goal

pub returns-then-chain-j : goal.returns-then-chain-j
returns-then-chain-j c = search input_past

pub input_of-requires : goal.input_of-requires
input_of-requires c = (search row_there, search rules)

pub value_of-x-requires : goal.value_of-x-requires
value_of-x-requires c = search word_there

pub count_of-requires : goal.count_of-requires
count_of-requires c = search row_there

pub returns-then-j-count_of : goal.returns-then-j-count_of
returns-then-j-count_of c = search input_there

pub returns : goal.returns
returns c = search input_none
