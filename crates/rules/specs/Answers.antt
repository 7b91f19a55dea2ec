-- A yes-or-no answer says a statement: yes with a proof of it, no with a refutation.
use Rattle.std.specs.Prelude.{Bool, true, false}

pub data Says (P : Type 0) : Bool → Type 0 where
  says_yes : P → Says P true
  says_no : (P → ⊥) → Says P false
