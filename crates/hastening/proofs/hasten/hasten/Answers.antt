-- All rows named, and lowered.
use borrow.Author.Rules.{rules}
use Rattle.hastening.proofs.Hastening.{named_lowerable, hastened}
use Rattle.hastening.proofs.hasten.hasten.Goals as goal

pub lower_all-requires : goal.lower_all-requires
lower_all-requires c = (named_lowerable _ _ _ _ _ _ c.name_from.ensures _ c.rows.ensures, search rules)

pub returns : goal.returns
returns c = hastened _ _ _ _ _ _ c.name_from.ensures _ c.rows.ensures _ _ c.lower_all.ensures.0 c.lower_all.ensures.1
