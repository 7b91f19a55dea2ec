-- Two outcomes allowed by the contract of a question are equal. For the other calls the operations' own laws say so as they stand.
use Prim.Native.Nat.{ℕ}
use mathlib.Core.Path.{◌≡◌, sym, ap, ◌∙◌}
use mathlib.Core.List.{List}
use Rattle.rules.specs.Refusals.{Refusal}
use Rattle.checking.specs.declared.look.Answer.{Answer}
use Rattle.checking.proofs.Looking.{answer_unique}
use Rattle.face.specs.Answers.{word_of, AnswerWritten}

module _ {list : List Refusal} {P : Type 0} {r s v w : ℕ} (a : AnswerWritten list P r v) (b : AnswerWritten list P s w) where
  pub answered_number : r ≡ s
  answered_number = ap (λ (x : Answer). x.number) (answer_unique a.says b.says)

  pub answered_word : v ≡ w
  answered_word =
      a.written ∙ ap (λ (x : Answer). word_of x.yes) (answer_unique a.says b.says) ∙ sym b.written
