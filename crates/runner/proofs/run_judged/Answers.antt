-- The verdict's number, or what the trace says.
use mathlib.Core.Path.{refl, ◌∙◌}
use Rattle.runner.proofs.Outcomes.{run_orderable, run_unlisted, run_unheld, run_chained}
use Rattle.runner.proofs.run_judged.Goals as goal

pub order_from-requires : goal.order_from-requires
order_from-requires c = search run_orderable

pub run_chain-requires : goal.run_chain-requires
run_chain-requires c =
    let order = c.order_from in (
      refl,
      run_chained _ _ _ c.requires.sound_store.0 c.requires.sound_store.1 _ _ order.ensures _ c.in-Ok.is (order.auto.queue ∙ c.requires.state_len.1),
    )

pub returns-in-Err-NotListed : goal.returns-in-Err-NotListed
returns-in-Err-NotListed c = search run_unlisted

pub returns-in-Err-NotHeld : goal.returns-in-Err-NotHeld
returns-in-Err-NotHeld c = search run_unheld
