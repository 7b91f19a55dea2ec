-- The part of an operation's result that is computed of inputs, and the part of that for two inputs.
use Rattle.std.specs.Prelude.{ℕ, List, get_or, eqb, ℤ, pos, neg_ℤ, ◌+ℤ◌, ◌-ℤ◌}
use Rattle.rules.specs.Pick.{pick}
use Rattle.counts.specs.Signed.{clamped, scaled, mean_of_four, greater, lesser, chosen}

unfoldable pub of_two : (operation : ℕ) → (a b : ℤ) → ℤ
of_two o a b =
    pick (eqb o 3) (clamped (a -ℤ b))
    (pick (eqb o 4) (clamped (a +ℤ b))
    (pick (eqb o 8) (greater a b)
    (pick (eqb o 9) (lesser a b) (pos 0))))

unfoldable pub of_inputs : (operation setting : ℕ) → (a b c d : ℤ) → ℤ
of_inputs o s a b c d =
    pick (eqb o 5) (scaled a s)
    (pick (eqb o 10) (chosen a b c)
    (pick (eqb o 11) (mean_of_four a b c d)
    (pick (eqb o 12) (clamped (neg_ℤ a)) (of_two o a b))))

-- input j, and 0 past the last
abbrev pub input_at : List ℤ → ℕ → ℤ
input_at x j = get_or x j (pos 0)
