-- Inner: what a round did to the classes of n rows: a row moved, or none did.
use Rattle.std.specs.Prelude.{◌≡◌, ℕ, ◌<◌, List, ◌≢◌, Option, Some, None}
use Rattle.rules.specs.Lists.{firsts}
use Rattle.rules.specs.Writes.{over_front}
use Rattle.rounds.specs.Classes.{class_of}

pub data MovedSays (n : ℕ) (cls new : List ℕ) : Option ℕ → Type 0 where
  says_still : ((u : ℕ) → u < n → class_of new u ≡ class_of cls u) → MovedSays n cls new None
  says_row : {w : ℕ} → w < n → (class_of new w ≢ class_of cls w) → MovedSays n cls new (Some w)

-- and the new classes are taken over where one did
abbrev pub taken_over : (n : ℕ) → List ℕ → List ℕ → Option ℕ → List ℕ
taken_over n cls new None = cls
taken_over n cls new (Some w) = over_front (firsts (class_of new) n) cls

pub record SettleSays (n : ℕ) (cls new cls' : List ℕ) (m : Option ℕ) : Type 0 where
  pub moved : MovedSays n cls new m
  pub taken : cls' ≡ taken_over n cls new m
