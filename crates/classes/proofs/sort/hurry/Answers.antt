-- Marks that go by class.
use Rattle.classes.proofs.Stages.{ready_choosing, ready_chosen}
use Rattle.classes.proofs.sort.hurry.Goals as goal

pub choose-requires : goal.choose-requires
choose-requires c = search ready_choosing

pub hasten-requires : goal.hasten-requires
hasten-requires c = let asked = c.requires in let chosen = c.choose in ready_chosen _ _ _ _ _ _ _ asked.0 asked.1 chosen.auto.marks chosen.auto.links chosen.ensures
