-- The rows before were looked at.
use borrow.Author.Rules.{rules}
use mathlib.Core.Path.{◌∙◌}
use Rattle.scanning.proofs.Scans.{scan_none, scan_going, scan_on, scan_over}
use Rattle.scanning.proofs.scan.scan.Goals as goal

pub loop-u-init : goal.loop-u-init
loop-u-init c = (search scan_none, search rules, search rules, search rules, search rules, search rules)

pub scan_more-some-requires-clause-in_naming : goal.scan_more-some-requires-clause-in_naming
scan_more-some-requires-clause-in_naming c = search scan_going

pub loop-u-preserved : goal.loop-u-preserved
loop-u-preserved c =
    let more = c.scan_more-some in
    let held = c.loop-u.invariant in
    (scan_on _ _ _ _ _ _ _ _ _ _ held.0 _ _ _ (search rules) _ more.ensures, more.auto.cls ∙ held.1, more.auto.marks ∙ held.2, more.auto.links ∙ held.3, held.4, search rules)

pub returns : goal.returns
returns c = search scan_over
