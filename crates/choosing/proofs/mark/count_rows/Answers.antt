-- The links keep their length.
use Rattle.choosing.proofs.Marks.{flag_within}
use Rattle.choosing.proofs.mark.count_rows.Goals as goal

pub count_one-requires : goal.count_one-requires
count_one-requires c = search flag_within
