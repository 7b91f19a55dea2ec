-- Left, unless its inputs are named.
use borrow.Author.Rules.{rules}
use Rattle.visits.proofs.Visits.{visit_left, visit_opened, visit_nameable, visit_named}
use Rattle.visits.proofs.walk.visit.Goals as goal

pub name-requires-clause-in_naming : goal.name-requires-clause-in_naming
name-requires-clause-in_naming c =
    let asked = c.requires in
    search visit_opened

pub name-requires-clause-nameable : goal.name-requires-clause-nameable
name-requires-clause-nameable c =
    let asked = c.requires in
    visit_nameable _ _ _ _ _ asked.in_naming _ asked.bare _ c.put_entry.ensures _ c.ready.ensures (search rules)

pub returns-then-ready : goal.returns-then-ready
returns-then-ready c = search visit_named

pub returns : goal.returns
returns c = search visit_left
