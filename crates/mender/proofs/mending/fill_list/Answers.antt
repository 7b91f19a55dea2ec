-- Sorted, and numbered.
use Rattle.mender.proofs.Filling.{fill_viewed, fill_fits, fill_numbers, fill_all}
use Rattle.mender.proofs.mending.fill_list.Goals as goal

pub sort-requires : goal.sort-requires
sort-requires c = (search fill_viewed, search fill_fits)

pub number-requires : goal.number-requires
number-requires c = search fill_numbers

pub returns : goal.returns
returns c = search fill_all
