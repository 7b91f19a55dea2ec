-- Each branch is a case of where a number leads.
use native.Mathlib.Omega.{arith}
use mathlib.Core.Path.{sym}
use Rattle.rows.proofs.Leads.{leads_sheet, leads_store}
use Rattle.rows.proofs.leads_to.Goals as goal

pub returns-then-x-lt-STORE_NUMBERS : goal.returns-then-x-lt-STORE_NUMBERS
returns-then-x-lt-STORE_NUMBERS c = (sym (leads_sheet _ _ c.if-x-lt-STORE_NUMBERS.true), omega arith)

pub returns-else-x-lt-STORE_NUMBERS : goal.returns-else-x-lt-STORE_NUMBERS
returns-else-x-lt-STORE_NUMBERS c = (sym (leads_store _ _ c.if-x-lt-STORE_NUMBERS.false), omega arith)
