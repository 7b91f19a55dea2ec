-- Marks that go by class begin a naming.
use Rattle.hastening.proofs.Hastening.{naming_from}
use Rattle.hastening.proofs.hasten.name_from.Goals as goal

pub name_all-requires : goal.name_all-requires
name_all-requires c = search naming_from
