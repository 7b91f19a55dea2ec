-- The value of a row at a tick, over any graph. Between holds a chain is at most 1,024 rows deep; below that a row counts as 0, which no chain
-- without a loop that lacks a hold sees.
use Rattle.std.specs.Prelude.{ℕ, zero, suc, List, ltb, ℤ, pos}
use Rattle.rules.specs.Pick.{pick}
use Rattle.trees.specs.Graph.{Graph}
use Rattle.loops.specs.Operations.{operation_of, setting_of}
use Rattle.running.specs.Results.{result_of}

-- what f says of input j of row u; 0 where it has no such input
unfoldable pub of_inputs : Graph → (ℕ → ℤ) → (u j : ℕ) → ℤ
of_inputs g f u j = pick (ltb j (g.count u)) (f (g.input u j)) (pos 0)

-- at one tick, with its channels and what the holds give
unfoldable pub tick_value : Graph → List ℤ → (held : ℕ → ℤ) → (depth u : ℕ) → ℤ
tick_value g channels held zero u = pos 0
tick_value g channels held (suc d) u =
    result_of (operation_of (g.label u)) (setting_of (g.label u)) channels (held u) (of_inputs g (tick_value g channels held d) u)

abbrev pub most_deep : ℕ
most_deep = 1024

-- tr t are the channels of tick t: a hold gives 0 at tick 0, later its input one tick before
unfoldable pub value : Graph → (tr : ℕ → List ℤ) → (t u : ℕ) → ℤ
value g tr zero u = tick_value g (tr 0) (λ v. pos 0) most_deep u
value g tr (suc t) u = tick_value g (tr (suc t)) (λ v. of_inputs g (value g tr t) v 0) most_deep u
