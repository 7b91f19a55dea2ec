use Rattle.requests.proofs.Requests.{opening_inside, store_read}
use Rattle.requests.proofs.asked.store_asked.Goals as goal

pub words_after-requires : goal.words_after-requires
words_after-requires c = search opening_inside

pub returns : goal.returns
returns c = search store_read
