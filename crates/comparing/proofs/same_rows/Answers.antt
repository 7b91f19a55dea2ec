-- Every row of the one walk is the row of the other's at its place.
use native.Mathlib.Omega.{arith}
use mathlib.Core.Path.{refl}
use lib.ListN.{get_or}
use borrow.Author.Rules.{rules}
use Rattle.std.proofs.lemmas.Iterator.{YieldsList-from_range}
use Rattle.rules.proofs.Answers.{says_same}
use Rattle.store.proofs.Ranges.{all_below}
use Rattle.comparing.specs.Rows.{SameRow}
use Rattle.comparing.proofs.same_rows.Goals as goal

pub returns : goal.returns
returns c =
    says_same ((λ f. record { each = f }), (λ s. s.each))
    (all_below c.args.n (λ k. SameRow c.args.first.now c.args.marks.now (get_or c.args.queue.now k 0) c.args.second.now c.args.others.now (get_or c.args.line.now k 0)) _ _ _
    c.all.ensures.ran
    (YieldsList-from_range 0 _ _ refl (omega arith))
    (λ k b q h. (search rules, search rules)))
