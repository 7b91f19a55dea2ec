-- Rows that are each their own class are of different trees.
use Rattle.keytest.proofs.Boxes.{plain_viewed, plain_fits}
use Rattle.keytest.proofs.Answering.{key_twice, key_says}
use Rattle.keytest.proofs.question.is_key_view.Goals as goal

pub sort-requires : goal.sort-requires
sort-requires c = (search plain_viewed, search plain_fits)

pub returns-then-not-all_own : goal.returns-then-not-all_own
returns-then-not-all_own c = search key_twice

pub in_order-requires : goal.in_order-requires
in_order-requires c = search plain_viewed

pub returns : goal.returns
returns c = search key_says
