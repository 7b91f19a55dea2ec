-- The rows so far are cleaned.
use Rattle.cleaning.proofs.Cleaning.{cleaning_asks, cleaning_more}
use Rattle.cleaning.proofs.clean_rows.Goals as goal

pub clean_row-requires : goal.clean_row-requires
clean_row-requires c = search cleaning_asks

pub loop-u-preserved : goal.loop-u-preserved
loop-u-preserved c = search cleaning_more
