-- The words of 1,024 rows are few, so nothing wraps.
use native.Mathlib.Omega.{arith}
use mathlib.Core.Path.{refl}
use Rattle.store.specs.Layout.{row_word}
use Rattle.store.proofs.Room.{words_few}
use Rattle.store.proofs.row.place.Goals as goal

pub overflow_mul-result : goal.overflow_mul-result
overflow_mul-result c = omega (arith, words_few c.args.most c.args.n c.requires.0 c.requires.1)

pub overflow_add-result-2 : goal.overflow_add-result-2
overflow_add-result-2 c = omega (arith, words_few c.args.most c.args.n c.requires.0 c.requires.1)

pub returns : goal.returns
unfolding row_word
returns c = refl
