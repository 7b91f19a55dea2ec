-- Loops that pass no hold.
use Rattle.std.specs.Prelude.{ℕ, zero, suc, ◌<◌, ◌≡◌}
use Rattle.trees.specs.Graph.{Graph}
use Rattle.trees.specs.Paths.{Leads}
use Rattle.loops.specs.Operations.{operation_of, hold}

-- row u is a hold
pub record Hold (g : Graph) (u : ℕ) : Type 0 where
  pub is : operation_of (g.label u) ≡ hold

-- row u is no hold, and Q holds of one of its inputs
pub record Onward (g : Graph) (u : ℕ) (Q : ℕ → Type 0) : Type 0 where
  pub plain : Hold g u → ⊥
  pub input : ℕ
  pub of_row : input < g.count u
  pub goes : Q (g.input u input)

-- k steps lead from row u to row v, none of them from a hold
unfoldable pub Steps : Graph → ℕ → ℕ → ℕ → Type 0
Steps g zero u v = u ≡ v
Steps g (suc k) u v = Onward g u (λ x. Steps g k x v)

-- one step or more leads from row u back to it, none of them from a hold
pub record Loop (g : Graph) (u : ℕ) : Type 0 where
  pub more : ℕ
  pub back : Steps g (suc more) u u

-- row u leads to a row on a loop without a hold
pub record Unheld (g : Graph) (u : ℕ) : Type 0 where
  pub row : ℕ
  pub leads : Leads g u row
  pub loop : Loop g row
