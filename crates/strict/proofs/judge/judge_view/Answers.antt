-- The verdict's number, and no byte of the sheet beside it.
use Rattle.strict.proofs.Judging.{view_starting, view_unlisted, view_unheld, view_fine}
use Rattle.strict.proofs.judge.judge_view.Goals as goal

pub verdict_of-requires : goal.verdict_of-requires
verdict_of-requires c = search view_starting

pub returns-in-Err-NotListed : goal.returns-in-Err-NotListed
returns-in-Err-NotListed c = search view_unlisted

pub returns-in-Err-NotHeld : goal.returns-in-Err-NotHeld
returns-in-Err-NotHeld c = search view_unheld

pub returns-in-Ok : goal.returns-in-Ok
returns-in-Ok c = search view_fine
