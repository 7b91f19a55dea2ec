-- Comparing: the refusals in their order.
use Rattle.std.specs.Prelude.{ℕ, ◌≡◌, List, [], ◌∷◌, length}
use Rattle.rules.specs.Refusals.{Refusal, ◌when◌}
use Rattle.store.specs.Layout.{room}
use Rattle.store.specs.Sound.{Sound}
use Rattle.checking.specs.Answers.{Out}

-- comparing uses 1 and 2 for the first store, then 1 and 2 for the second, then 9 (either number)
abbrev pub compare_refusals : List ℕ → ℕ → List ℕ → ℕ → List Refusal
compare_refusals first row second other =
    (1 when (length first ≡ 0))
    ∷ (2 when (Sound room first → ⊥))
    ∷ (1 when (length second ≡ 0))
    ∷ (2 when (Sound room second → ⊥))
    ∷ (9 when Out first row second other)
    ∷ []
