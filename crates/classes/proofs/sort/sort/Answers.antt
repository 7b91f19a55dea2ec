-- All rows begin in class 0.
use Rattle.std.proofs.Common.{ℕ, sym, refl}
use lib.ListN.{length-replicate}
use Rattle.classes.proofs.Rounds.{sort_ready, sort_done}
use Rattle.classes.proofs.sort.sort.Goals as goal

pub sort_begun-requires : goal.sort_begun-requires
sort_begun-requires c =
    let asked = c.requires in
    let zeros = sym (length-replicate {A = ℕ} 2048 0) in
    (sort_ready _ _ _ _ _ asked.0 asked.1 c.rows.ensures c.clear.ensures _ _ zeros refl, length-replicate {A = ℕ} 4096 0)

pub returns : goal.returns
returns c = search sort_done
