-- What an operation gives at a tick.
use Rattle.std.specs.Prelude.{ℕ, List, get_or, eqb, ℤ, pos, neg_ℤ, ◌+ℤ◌, ◌-ℤ◌}
use Rattle.rules.specs.Pick.{pick}
use Rattle.counts.specs.Signed.{clamped, signed16, scaled, mean_of_four, greater, lesser, chosen}

-- channels are the counts of this tick, held is what a hold gives, x j is input j now
unfoldable pub result_of : (operation setting : ℕ) → (channels : List ℤ) → (held : ℤ) → (x : ℕ → ℤ) → ℤ
result_of o s channels held x =
    pick (eqb o 1) (get_or channels s (pos 0))
    (pick (eqb o 2) (signed16 s)
    (pick (eqb o 3) (clamped (x 0 -ℤ x 1))
    (pick (eqb o 4) (clamped (x 0 +ℤ x 1))
    (pick (eqb o 5) (scaled (x 0) s)
    (pick (eqb o 6) held
    (pick (eqb o 8) (greater (x 0) (x 1))
    (pick (eqb o 9) (lesser (x 0) (x 1))
    (pick (eqb o 10) (chosen (x 0) (x 1) (x 2))
    (pick (eqb o 11) (mean_of_four (x 0) (x 1) (x 2) (x 3))
    (pick (eqb o 12) (clamped (neg_ℤ (x 0))) (pos 0)))))))))))
