-- A number and a yes or no, as C gets them: the number returned, and a word written through a pointer.
use Rattle.std.specs.Prelude.{ℕ, ◌≡◌, Bool, true, false, List}
use Rattle.rules.specs.Refusals.{Refusal}
use Rattle.checking.specs.Answers.{AnswerSays}

-- 1 for yes, 0 for no
abbrev pub word_of : Bool → ℕ
word_of true = 1
word_of false = 0

pub record AnswerWritten (list : List Refusal) (P : Type 0) (number word : ℕ) : Type 0 where
  pub yes : Bool
  pub says : AnswerSays list P (record { number = number; yes = yes })
  pub written : word ≡ word_of yes
