-- The word, the number, and the newline.
use Rattle.listing.proofs.Putting.{rest_empty, rest_word_lem, rest_number, rest_end, rest_wrote}
use Rattle.listing.proofs.lines.put_rest.Goals as goal

pub returns-then-rest-eq0 : goal.returns-then-rest-eq0
returns-then-rest-eq0 c = search rest_empty

pub put_text-a-requires : goal.put_text-a-requires
put_text-a-requires c = search rest_word_lem

pub put_number-b-requires : goal.put_number-b-requires
put_number-b-requires c = search rest_number

pub put_byte-requires : goal.put_byte-requires
put_byte-requires c = search rest_end

pub returns : goal.returns
returns c = search rest_wrote
