-- The rows of an old store, with room for so many inputs a row, put into a target with room for as many or more, each at its number.
use Rattle.std.specs.Prelude.{ℕ, zero, suc, ◌≤◌, ◌<◌, ◌≡◌, List, [], ◌∷◌, ◌⊎◌, length, set}
use Rattle.std.proofs.lemmas.List.Edits.{sets}
use Rattle.rules.specs.Refusals.{Refusal, ◌when◌, First}
use Rattle.store.specs.Layout.{in_use, row_word, capacity_of}
use Rattle.store.specs.Rows.{row_of, words_of_row}
use Rattle.store.specs.Sound.{Sound}

-- the first n rows put: the input words that the old layout has no room for are zero
unfoldable pub rows_widened : (from to : ℕ) → (old target : List ℕ) → ℕ → List ℕ
rows_widened from to old target zero = target
rows_widened from to old target (suc n) =
    sets (rows_widened from to old target n) (row_word to n) (words_of_row to (row_of from old n))

-- all rows in use, and the count into word 0
unfoldable pub widened : (from to : ℕ) → (old target : List ℕ) → List ℕ
widened from to old target = set (rows_widened from to old target (in_use old)) 0 (in_use old)

-- the target has no words, or no room for the rows in use
abbrev pub SmallTarget : (to : ℕ) → (old target : List ℕ) → Type 0
SmallTarget to old target = (length target ≡ 0) ⊎ (capacity_of to (length target) < in_use old)

-- widening tests 1, 2, 21: the old run has no words; it is not sound; the target is too small
abbrev pub widen_refusals : (from to : ℕ) → (old target : List ℕ) → List Refusal
widen_refusals from to old target =
    (1 when (length old ≡ 0)) ∷ (2 when (Sound from old → ⊥)) ∷ (21 when (SmallTarget to old target)) ∷ []

-- nothing refuses it
pub record WidenDone (from to : ℕ) (old target : List ℕ) : Type 0 where
  pub words : 0 < length old
  pub sound : Sound from old
  pub target_words : 0 < length target
  pub room : in_use old ≤ capacity_of to (length target)

-- refused with the first number that applies, and the target as it was; or the rows and the count stand in it
pub data WidenSays (from to : ℕ) (old target : List ℕ) : ℕ → List ℕ → Type 0 where
  widen_refused : {r : ℕ} → First (widen_refusals from to old target) r → (r ≡ 0 → ⊥) → WidenSays from to old target r target
  widen_done : WidenDone from to old target → WidenSays from to old target 0 (widened from to old target)
