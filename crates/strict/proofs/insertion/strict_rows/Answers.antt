-- A refusal of judging stands behind the store; else the plain insert's number does.
use borrow.Author.Rules.{rules}
use Rattle.strict.proofs.Judging.{tabled_alone}
use Rattle.strict.proofs.Strictly.{tabled_shape, strict_no, strict_goes_on}
use Rattle.strict.proofs.insertion.strict_rows.Goals as goal

pub judge_rows-requires : goal.judge_rows-requires
judge_rows-requires c = search tabled_alone

pub refused_behind-requires : goal.refused_behind-requires
refused_behind-requires c = (search tabled_shape, search rules)

pub returns-in-Err : goal.returns-in-Err
returns-in-Err c = search strict_no

pub returns-in-Ok : goal.returns-in-Ok
returns-in-Ok c = search strict_goes_on
