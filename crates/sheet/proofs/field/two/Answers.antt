use borrow.Author.Rules.{rules}
use Rattle.sheet.specs.Bytes.{be16}
use Rattle.sheet.proofs.field.two.Goals as goal

pub returns : goal.returns
unfolding be16
returns c = search rules
