-- One word of zero is a store without rows.
use Rattle.keytest.proofs.Answering.{key_fronted}
use Rattle.keytest.proofs.question.is_key_rows.Goals as goal

pub is_key_with-requires-clause-fronted : goal.is_key_with-requires-clause-fronted
is_key_with-requires-clause-fronted c = search key_fronted
