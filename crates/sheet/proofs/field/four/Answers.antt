use borrow.Author.Rules.{rules}
use Rattle.sheet.specs.Bytes.{be32}
use Rattle.sheet.proofs.field.four.Goals as goal

pub returns : goal.returns
unfolding be32
returns c = search rules
