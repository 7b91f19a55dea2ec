-- A step keeps its room: nothing else is asked of it.
use borrow.Author.Rules.{rules}
use mathlib.Core.Path.{refl}
use Rattle.choosing.proofs.Meets.{step_inside, step_small}
use Rattle.choosing.proofs.meet.step.Goals as goal

pub go_on-requires-clause-both_in_view : goal.go_on-requires-clause-both_in_view
go_on-requires-clause-both_in_view c = let input = c.input_or_over-x.ensures in (search rules, step_inside _ _ _ _ input (search rules))

pub go_on-requires-clause-mark_bound : goal.go_on-requires-clause-mark_bound
go_on-requires-clause-mark_bound c = let input = c.input_or_over-x.ensures in step_small _ _ _ _ input (search rules) _ refl
