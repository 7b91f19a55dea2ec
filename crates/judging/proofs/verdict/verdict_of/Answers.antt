-- A row met is not listed, or what is left says the verdict.
use native.Mathlib.Omega.{arith}
use Rattle.std.proofs.lemmas.Result.{err_from_is_err_and}
use Rattle.judging.proofs.Verdicts.{told_wrong, told_met, verdict_unlisted, verdict_visited, verdict_told}
use Rattle.judging.proofs.verdict.verdict_of.Goals as goal

pub returns-in_err-met : goal.returns-in_err-met
returns-in_err-met c =
    let p = err_from_is_err_and c.from_residual.result c.from_residual.ensures.1 in
    let m = told_wrong c.in_err-met.field-0.0 c.meet_all.ensures (λ e. grind arith) (λ k e. grind arith) in
    rw (p.1, p.2) (search (verdict_unlisted, m))

pub held_rows-requires : goal.held_rows-requires
held_rows-requires c =
    let m = told_met c.in_ok-met.met c.meet_all.ensures (λ e. grind arith) (λ k e. grind arith) in
    search (verdict_visited, m)

pub returns : goal.returns
returns c =
    let m = told_met c.in_ok-met.met c.meet_all.ensures (λ e. grind arith) (λ k e. grind arith) in
    search (verdict_told, m)
