-- Whatever stands in the links, what is handed back is a row.
use borrow.Author.Rules.{rules}
use native.Mathlib.Omega.{arith}
use Rattle.choosing.proofs.Meets.{cut_view, cut_link}
use Rattle.choosing.proofs.meet.cut_of.Goals as goal

pub leads_on-requires : goal.leads_on-requires
leads_on-requires c = (search cut_view, search rules)

pub entry-w-requires : goal.entry-w-requires
entry-w-requires c =
    cut_link _ _ _ _ _ c.requires.choosing c.loop-looks.w (omega (arith, c.loop-looks.invariant, c.if-w-n.false))
