-- Each step asks what the one before it left.
use Rattle.mender.proofs.Done.{done_gather, done_fits, done_says}
use Rattle.mender.proofs.Preparing.{asks_few, prepared_fill}
use Rattle.mender.proofs.mending.mend_with.Goals as goal

pub fill_list-kept-requires : goal.fill_list-kept-requires
fill_list-kept-requires c = search prepared_fill

pub gather-requires : goal.gather-requires
gather-requires c =
    let asked = c.requires in
    let prepared = c.prepare-counts.ensures in
    let filled = c.fill_list-kept.ensures in
    done_gather _ _ _ _ _ _ _ _ _ asked.0 prepared _ _ filled

pub done-requires : goal.done-requires
done-requires c =
    let asked = c.requires in
    let prepared = c.prepare-counts.ensures in
    let filled = c.fill_list-kept.ensures in
    (done_fits _ _ _ _ _ _ _ _ _ asked.0 prepared _ _ filled, asks_few _ _ _ _ asked.0)

pub returns : goal.returns
returns c =
    let asked = c.requires in
    let prepared = c.prepare-counts.ensures in
    let filled = c.fill_list-kept.ensures in
    done_says _ _ _ _ _ _ _ _ _ asked.0 prepared _ _ filled _ c.gather.ensures _ c.done.ensures
