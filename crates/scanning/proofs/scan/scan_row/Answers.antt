-- A named row stays; any other is tried anew.
use borrow.Author.Rules.{rules}
use Rattle.scanning.proofs.Scans.{scan_known, scan_opened, scan_nameable, scan_unready, scan_tried}
use Rattle.scanning.proofs.scan.scan_row.Goals as goal

pub returns-then-entry-eq1 : goal.returns-then-entry-eq1
returns-then-entry-eq1 c = search scan_known

pub name-requires-clause-in_naming : goal.name-requires-clause-in_naming
name-requires-clause-in_naming c =
    let asked = c.requires in
    search scan_opened

pub name-requires-clause-nameable : goal.name-requires-clause-nameable
name-requires-clause-nameable c =
    let asked = c.requires in
    scan_nameable _ _ _ _ _ asked.in_naming _ asked.u_bound _ c.entry.ensures.0 (search rules) _ c.put_entry.ensures _ c.ready.ensures (search rules)

pub returns-then-ready : goal.returns-then-ready
returns-then-ready c = search scan_tried

pub returns : goal.returns
returns c =
    let asked = c.requires in
    scan_unready _ _ _ _ _ asked.in_naming _ asked.u_bound _ c.entry.ensures.0 (search rules) _ c.put_entry.ensures _ c.ready.ensures (search rules)
