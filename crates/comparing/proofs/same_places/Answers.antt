-- Every input of the one row has the place of the other's.
use native.Mathlib.Omega.{arith}
use mathlib.Core.Path.{◌≡◌, refl}
use lib.ListN.{get_or}
use borrow.Author.Rules.{rules}
use Rattle.std.proofs.lemmas.Iterator.{YieldsList-from_range}
use Rattle.rules.proofs.Answers.{says_same}
use Rattle.rules.proofs.Tested.{says_equal}
use Rattle.store.specs.Layout.{input_of, room}
use Rattle.store.proofs.Ranges.{all_below}
use Rattle.comparing.proofs.same_places.Goals as goal

pub returns : goal.returns
returns c =
    says_same ((λ f. record { each = f }), (λ s. s.each))
    (all_below c.args.count (λ j. get_or c.args.marks.now (input_of room c.args.first.now c.args.a j) 0 ≡ get_or c.args.others.now (input_of room c.args.second.now c.args.b j) 0) _ _ _
    c.all.ensures.ran
    (YieldsList-from_range 0 _ _ refl (omega arith))
    (λ j b q k. (search rules, search (rules, says_equal))))
