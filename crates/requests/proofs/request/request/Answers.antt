use borrow.Author.Rules.{rules}
use borrow.Author.Tests.{true-eqb, false-eqb}
use Rattle.requests.specs.Requests.{last_of}
use Rattle.requests.proofs.Requests.{request_none, of_kind, of_insert, of_bytes, of_none}
use Rattle.requests.proofs.request.request.Goals as goal

pub returns-then-is_empty : goal.returns-then-is_empty
returns-then-is_empty c = request_none (true-eqb _ _ c.if-is_empty.ensures)

pub returns-in-1 : goal.returns-in-1
unfolding last_of
returns-in-1 c = of_kind 1 (false-eqb _ _ c.if-is_empty.ensures) c.in-1.is c.store_asked.ensures

pub returns-in-2 : goal.returns-in-2
returns-in-2 c = of_insert (false-eqb _ _ c.if-is_empty.ensures) c.in-2.is c.insert_asked.ensures.list

pub returns-in-3 : goal.returns-in-3
unfolding last_of
returns-in-3 c = of_kind 3 (false-eqb _ _ c.if-is_empty.ensures) c.in-3.is c.key_asked.ensures.buffer

pub returns-in-4 : goal.returns-in-4
returns-in-4 c = of_bytes (false-eqb _ _ c.if-is_empty.ensures) c.in-4.is c.bytes_asked.ensures

pub returns-in-5 : goal.returns-in-5
unfolding last_of
returns-in-5 c = of_kind 5 (false-eqb _ _ c.if-is_empty.ensures) c.in-5.is c.compare_asked.ensures.other

pub returns-in-6 : goal.returns-in-6
unfolding last_of
returns-in-6 c = of_kind 6 (false-eqb _ _ c.if-is_empty.ensures) c.in-6.is c.part_asked.ensures.part

pub returns-in-8 : goal.returns-in-8
unfolding last_of
returns-in-8 c = of_kind 8 (false-eqb _ _ c.if-is_empty.ensures) c.in-8.is c.reader_asked.ensures.steps

pub returns-in-11 : goal.returns-in-11
unfolding last_of
returns-in-11 c = of_kind 11 (false-eqb _ _ c.if-is_empty.ensures) c.in-11.is c.mend_asked.ensures.list

pub returns-in-12 : goal.returns-in-12
unfolding last_of
returns-in-12 c = of_kind 12 (false-eqb _ _ c.if-is_empty.ensures) c.in-12.is c.run_asked.ensures.output

pub returns-in-13 : goal.returns-in-13
unfolding last_of
returns-in-13 c = of_kind 13 (false-eqb _ _ c.if-is_empty.ensures) c.in-13.is c.convert_asked.ensures.buffer

pub returns-in_default : goal.returns-in_default
returns-in_default c = of_none (false-eqb _ _ c.if-is_empty.ensures) (search rules)
