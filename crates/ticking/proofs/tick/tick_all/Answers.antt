-- The rows from place k on have their values.
use native.Mathlib.Omega.{arith}
use Prim.Native.Nat.{◌-◌}
use mathlib.Core.Path.{◌≡◌}
use lib.ListN.{get_or}
use Rattle.ticking.proofs.Ticks.{tick_begin, tick_more, tick_all}
use Rattle.ticking.proofs.tick.tick_all.Goals as goal

pub loop-k-init : goal.loop-k-init
loop-k-init c = search tick_begin

pub loop-k-preserved : goal.loop-k-preserved
loop-k-preserved c =
    let e : c.row_at-u.result ≡ get_or c.args.chain.now.queue.now (c.loop-k.k - 1) 0 = grind arith in
    search (tick_more, e)

pub returns : goal.returns
returns c = search tick_all
