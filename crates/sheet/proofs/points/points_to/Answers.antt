-- Below 32,768 a row of the sheet, else a row of the store.
use borrow.Author.Tests.{lt-ltb, le-ltb}
use Rattle.sheet.specs.Points.{points_to}
use Rattle.sheet.proofs.points.points_to.Goals as goal

pub returns-then-x-lt-STORE_NUMBERS : goal.returns-then-x-lt-STORE_NUMBERS
unfolding points_to
returns-then-x-lt-STORE_NUMBERS c = simp (lt-ltb _ _ c.if-x-lt-STORE_NUMBERS.true)

pub returns-else-x-lt-STORE_NUMBERS : goal.returns-else-x-lt-STORE_NUMBERS
unfolding points_to
returns-else-x-lt-STORE_NUMBERS c = simp (le-ltb _ _ c.if-x-lt-STORE_NUMBERS.false)
