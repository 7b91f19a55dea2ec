-- Telling whether one tree is a part of another: the refusals in their order.
use Rattle.std.specs.Prelude.{ℕ, ◌≡◌, List, [], ◌∷◌, length}
use Rattle.rules.specs.Refusals.{Refusal, ◌when◌}
use Rattle.store.specs.Layout.{room}
use Rattle.store.specs.Sound.{Sound}
use Rattle.checking.specs.Answers.{Out}

-- part-of uses 1, 2, 9 (either number)
abbrev pub part_refusals : List ℕ → (part whole : ℕ) → List Refusal
part_refusals w part whole =
    (1 when (length w ≡ 0)) ∷ (2 when (Sound room w → ⊥)) ∷ (9 when Out w part w whole) ∷ []
