-- The fewest digits that hold the number are its decimal digits.
use Rattle.text.proofs.Digits.{fewest_decimal}
use Rattle.text.proofs.spell.Goals as goal

pub returns-clause-digits_after : goal.returns-clause-digits_after
returns-clause-digits_after c = search fewest_decimal
