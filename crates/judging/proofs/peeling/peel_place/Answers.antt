-- A row that may go is put behind all that wait.
use Rattle.judging.proofs.Sifting.{place_row_lem, place_not, place_state, place_taken}
use Rattle.rows.proofs.View.{laid_alone}
use Rattle.judging.proofs.peeling.peel_place.Goals as goal

pub peels-requires-clause-u_bound : goal.peels-requires-clause-u_bound
peels-requires-clause-u_bound c = search place_row_lem

pub returns-then-not-peels : goal.returns-then-not-peels
returns-then-not-peels c = search place_not

pub bounds-state-row : goal.bounds-state-row
bounds-state-row c = search place_state

pub returns : goal.returns
returns c = search (place_taken, laid_alone)
