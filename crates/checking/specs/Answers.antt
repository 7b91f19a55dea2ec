-- The yes-or-no questions on stores: a number and an answer. A refusal answers no beside its number.
use Rattle.std.specs.Prelude.{ℕ, ◌≤◌, ◌≡◌, Bool, false, List, ◌⊎◌}
use Rattle.rules.specs.Refusals.{Refusal, First}
use Rattle.rules.specs.Answers.{Says}
use Rattle.store.specs.Layout.{in_use}
use Rattle.checking.specs.declared.look.Answer.{Answer}

-- refused with the first number of the list that applies; or the answer says the statement
pub data AnswerSays (list : List Refusal) (P : Type 0) : Answer → Type 0 where
  answers_refused : {r : ℕ} → First list r → (r ≡ 0 → ⊥) → AnswerSays list P (record { number = r; yes = false })
  answers_done : {t : Bool} → First list 0 → Says P t → AnswerSays list P (record { number = 0; yes = t })

-- one of the two numbers asked for is not in use
abbrev pub Out : List ℕ → ℕ → List ℕ → ℕ → Type 0
Out first row second other = (in_use first ≤ row) ⊎ (in_use second ≤ other)
