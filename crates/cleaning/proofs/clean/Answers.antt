-- The rows are cleaned, and word 0 is nobody's row.
use Rattle.cleaning.proofs.Cleaning.{clean_small, clean_word, clean_all}
use Rattle.cleaning.proofs.clean.Goals as goal

pub write_count-requires : goal.write_count-requires
write_count-requires c = (search clean_word, search clean_small)

pub returns : goal.returns
returns c = search clean_all
