-- From 32,768 on the setting less 65,536.
use borrow.Author.Rules.{rules}
use mir.Facts.{sfits_to_z}
use Rattle.counts.proofs.Constants.{negative_asked, narrow_asked, negative_given, small_given}
use Rattle.counts.proofs.operations.constant.Goals as goal

pub less-requires : goal.less-requires
less-requires c = search negative_asked

pub narrow-requires : goal.narrow-requires
narrow-requires c = search narrow_asked

pub returns-then-s-gt32767 : goal.returns-then-s-gt32767
returns-then-s-gt32767 c = (search negative_given, search rules)

pub returns : goal.returns
returns c = (search small_given, search sfits_to_z)
