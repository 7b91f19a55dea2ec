-- Laws of yes-or-no answers: one answer to a statement, and one answer to statements that are worth the same.
use mathlib.Core.Path.{◌≡◌, refl}
use mathlib.Core.Bool.{Bool, true, false}
use mathlib.Core.Logic.{◌↔◌}
use Rattle.rules.specs.Answers.{Says, says_yes, says_no}

pub says_unique : {P : Type 0} {a b : Bool} → Says P a → Says P b → a ≡ b
says_unique (says_yes p) (says_yes q) = refl
says_unique (says_yes p) (says_no q) = absurd (q p)
says_unique (says_no p) (says_yes q) = absurd (p q)
says_unique (says_no p) (says_no q) = refl

pub says_same : {P Q : Type 0} {a : Bool} → P ↔ Q → Says P a → Says Q a
says_same e (says_yes p) = says_yes (e.0 p)
says_same e (says_no p) = says_no (λ q. p (e.1 q))

pub said_yes : {P : Type 0} → Says P true → P
said_yes (says_yes p) = p

pub said_no : {P : Type 0} → Says P false → P → ⊥
said_no (says_no p) = p
