-- The lowest row of the old class first, then the chain of new heads.
use Rattle.std.proofs.Common.{rules}
use Rattle.refining.proofs.Walks.{old_row, bucket_inside, seek_from, with_the_old, with_a_new, as_a_new}
use Rattle.refining.proofs.round.find_head.Goals as goal

pub signature_of-requires-clause-u_bound : goal.signature_of-requires-clause-u_bound
signature_of-requires-clause-u_bound c = search old_row

pub returns-then-same_signature : goal.returns-then-same_signature
returns-then-same_signature c = search with_the_old

pub start_of-requires : goal.start_of-requires
start_of-requires c =
    let asked = c.requires in
    (search rules, c.bucket_of-b.ensures.1, bucket_inside _ _ _ _ _ _ _ asked.sighted asked.later.round asked.later.row c.bucket_of-b.ensures.1)

pub seek-h-requires-clause-seeking_at : goal.seek-h-requires-clause-seeking_at
seek-h-requires-clause-seeking_at c = search seek_from

pub returns-then-h-eq0 : goal.returns-then-h-eq0
returns-then-h-eq0 c =
    let asked = c.requires in
    as_a_new _ _ _ _ _ _ _ asked.sighted asked.later _ c.signature_of-s.ensures _ c.signature_of.ensures _ c.same_signature.ensures (search rules) _ _ c.bucket_of-b.ensures.0 c.bucket_of-b.ensures.1 c.seek-h.ensures (search rules)

pub returns-else-h-eq0 : goal.returns-else-h-eq0
returns-else-h-eq0 c = search with_a_new
