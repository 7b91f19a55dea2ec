-- A channel past the last reads as 0.
use borrow.Author.Rules.{rules}
use mathlib.Core.Path.{sym}
use lib.ListN.{get_or-eq_default}
use lib.IntN.{pos}
use Rattle.results.proofs.channel.Goals as goal

pub returns : goal.returns
returns c = (sym (get_or-eq_default c.args.channels.now (pos 0) c.if-at-channels.false), search rules)
