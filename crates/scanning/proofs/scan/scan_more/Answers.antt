-- One named row is enough.
use Rattle.scanning.proofs.Scans.{scan_now, scan_before}
use Rattle.scanning.proofs.scan.scan_more.Goals as goal

pub returns-then-scan_row : goal.returns-then-scan_row
returns-then-scan_row c = search scan_now

pub returns : goal.returns
returns c = search scan_before
