-- Inner: the signature of a row by value: label, input count, and the classes of the inputs, zero past them.
use Rattle.std.specs.Prelude.{ℕ, List, get_or}
use Rattle.trees.specs.Graph.{Graph}
use Rattle.rounds.specs.Classes.{class_of}
use Rattle.rounds.specs.Buckets.{classes_in}
use Rattle.signatures.specs.declared.signature.Signature.{Signature}

-- the class of input j of a row by value
abbrev pub class_at : (cls inputs : List ℕ) → ℕ → ℕ
class_at cls inputs j = class_of cls (get_or inputs j 0)

unfoldable pub signature_in : Graph → (ℕ → ℕ) → ℕ → Signature
signature_in g c u = record { label = g.label u; count = g.count u; classes = classes_in g c u }
