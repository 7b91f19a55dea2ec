-- The way back of the first row leads to no row.
use borrow.Author.Rules.{rules}
use Rattle.naming.proofs.Goings.{went_on}
use Rattle.visits.proofs.Visits.{row_link, walk_entered, walk_enters}
use Rattle.visits.proofs.walk.walk.Goals as goal

pub enter-requires : goal.enter-requires
enter-requires c = (search rules, search row_link, search rules)

pub follow-requires : goal.follow-requires
follow-requires c =
    let asked = c.requires in
    walk_entered _ _ _ _ _ asked.in_naming _ asked.root_bound _ c.entry.ensures.0 (search rules) _ _ c.enter.ensures.0 c.enter.ensures.1

pub returns : goal.returns
returns c =
    let asked = c.requires in
    went_on _ _ _ _ _ _ _ _ _ _ (walk_enters _ _ _ _ _ asked.in_naming _ asked.root_bound _ c.entry.ensures.0 (search rules) _ _ c.enter.ensures.0 c.enter.ensures.1) c.follow.ensures
