-- Refusals put between others, of which none applies, leave the number as it was.
use Prim.Native.Nat.{ℕ}
use mathlib.Core.List.{List, [], ◌∷◌, ◌++◌}
use mathlib.Core.Logic.{inl, inr}
use Rattle.rules.specs.Refusals.{Refusal, FirstIn, First, NoneOf}
use Rattle.rules.proofs.Refusals.{first_past}

between : (l new m : List Refusal) (r : ℕ) → NoneOf new → FirstIn (l ++ m) r → FirstIn (l ++ (new ++ m)) r
between [] new m r n f = (first_past new n (record { first = f })).first
between (x ∷ l) new m r n (inl p) = inl p
between (x ∷ l) new m r n (inr p) = inr (p.0, between l new m r n p.1)

pub first_between : (l new m : List Refusal) {r : ℕ} → NoneOf new → First (l ++ m) r → First (l ++ (new ++ m)) r
first_between l new m {r} n f = record { first = between l new m r n f.first }
