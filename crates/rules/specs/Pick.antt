-- A definition by a test: the first where the test holds, else the second.
use Rattle.std.specs.Prelude.{Bool, true, false}

abbrev pub pick : {A : Type 0} → Bool → A → A → A
pick true a b = a
pick false a b = b
