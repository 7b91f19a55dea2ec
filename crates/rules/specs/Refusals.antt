-- The refusals of an operation are one list, in the order in which they are tested.
use Rattle.std.specs.Prelude.{ℕ, ◌≡◌, List, [], ◌∷◌, ◌⊎◌}

-- a number of the table, and when it applies
pub record Refusal : Type 1 where
  pub number : ℕ
  pub applies : Type 0

infix 10 ◌when◌
abbrev pub ◌when◌ : ℕ → Type 0 → Refusal
n when p = record { number = n; applies = p }

abbrev pub FirstIn : List Refusal → ℕ → Type 0
FirstIn [] r = r ≡ 0
FirstIn (x ∷ l) r = (x.applies × (r ≡ x.number)) ⊎ ((x.applies → ⊥) × FirstIn l r)

-- r is the number of the first of the list that applies, or 0 where none does
pub record First (l : List Refusal) (r : ℕ) : Type 0 where
  pub first : FirstIn l r

-- nothing of the list applies
abbrev pub NoneOf : List Refusal → Type 0
NoneOf [] = Unit
NoneOf (x ∷ l) = (x.applies → ⊥) × NoneOf l

-- no refusal of the list is numbered 0, the number of done
abbrev pub Numbered : List Refusal → Type 0
Numbered [] = Unit
Numbered (x ∷ l) = (x.number ≡ 0 → ⊥) × Numbered l
